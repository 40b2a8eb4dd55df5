-- For the contracts inside: systems of nodes whose journals were begun before states had parents, as statements.
use Rattle.std.specs.Prelude.{◌≡◌, ◌≢◌, List, []}
use Rattle.voting_config.specs.Ids.{Id}
use Rattle.cluster_state.specs.declared.state.Kept.{Kept}
use Rattle.world_model.specs.NodeState.{durable_of}
use Rattle.world_model.specs.Histories.{History, NoEntries, Next, node_history}
use Rattle.world_model.specs.Safety.{IsSafe}
use Rattle.world_model.specs.Bare.{bare_history, WasLegal, GoesOn}
use Rattle.policy_model.specs.declared.settings.Settings.{Settings}
use Rattle.system_laws.specs.Systems.{System, Nothing, Starts, Lives, Dies, history_of, MayLive, MayDie, TakesSentFrames}

-- the acts of one history, and then those of another
abbrev pub followed_by : History → History → History
followed_by p NoEntries = p
followed_by p (Next h node act outcome) = Next (followed_by p h) node act outcome

-- A run begins with the record of all that its node did before, at first with what it kept of the older history; and where its settings
-- name first voters, these are those of the system.
pub record MayStartAfter (initial : List Id) (older : History) (h : System) (s : Settings) (found : Kept) : Type 0 where
  pub kept : found ≡ durable_of (node_history (followed_by older (history_of h)) s.me)
  pub named : s.initial ≢ [] → s.initial ≡ initial

-- each run follows the policy, and begins so
abbrev pub AreRunsAfter : List Id → History → System → Type 0
AreRunsAfter initial older Nothing = Unit {0}
AreRunsAfter initial older (Starts h s found) = AreRunsAfter initial older h × MayStartAfter initial older h s found
AreRunsAfter initial older (Lives h n entry) = AreRunsAfter initial older h × MayLive h n entry
AreRunsAfter initial older (Dies h n event items) = AreRunsAfter initial older h × MayDie h n event items

-- all that happened since could happen: no frame of before is taken
pub record IsSystemAfter (initial : List Id) (older : History) (h : System) : Type 0 where
  pub runs : AreRunsAfter initial older h
  pub sent : TakesSentFrames h

-- The older history goes on by the acts of all nodes, and each of these may happen after all before it; so all of it is safe, if read
-- without parents.
pub record IsOlderSafe (initial : List Id) (older : History) (h : System) : Type 0 where
  pub goes_on : GoesOn initial older (followed_by older (history_of h))
  pub safe : IsSafe initial (bare_history (followed_by older (history_of h)))

abbrev pub LawOlderSystemIsSafe : Type 0
LawOlderSystemIsSafe = (initial : List Id) (older : History) (h : System) → WasLegal initial older → IsSystemAfter initial older h → IsOlderSafe initial older h
