-- For the contracts inside: what happened in a system of nodes from the restart of one of them on, and that it is safe, as statements.
use Rattle.std.specs.Prelude.{◌≡◌, ◌↔◌, []}
use Rattle.voting_config.specs.Ids.{Id}
use Rattle.cluster_state.specs.declared.state.Kept.{Kept}
use Rattle.world_model.specs.declared.acts.Act.TheVariants.{Open}
use Rattle.world_model.specs.NodeState.{accepted_of}
use Rattle.world_model.specs.Histories.{History, node_history, IsPrefix}
use Rattle.world_model.specs.Restarts.{IsAlone, ContinuesFrom, IsLegalFrom}
use Rattle.world_model.specs.Safety.{Published, IsCommitted, Descends, IsAtMost, IsSafeFrom}
use Rattle.agreement.specs.Agree.{DescendsFromCommitted}
use Rattle.policy_model.specs.declared.settings.Settings.{Settings}
use Rattle.system_laws.specs.Systems.{System, Nothing, Starts, Lives, Dies, history_of, MayLive, MayDie, TakesSentFrames}

-- The first run of the one node begins with its record, the first one of another node with no state, and each later one with the record of
-- all that its node did before. No settings name first voters.
pub record MayStartFrom (first : Id) (kept : Kept) (h : System) (s : Settings) (found : Kept) : Type 0 where
  pub continues : ContinuesFrom first kept s.me (node_history (history_of h) s.me) (Open found)
  pub unnamed : s.initial ≡ []

-- each run follows the policy, and begins so
abbrev pub AreRunsFrom : Id → Kept → System → Type 0
AreRunsFrom first kept Nothing = Unit {0}
AreRunsFrom first kept (Starts h s found) = AreRunsFrom first kept h × MayStartFrom first kept h s found
AreRunsFrom first kept (Lives h n entry) = AreRunsFrom first kept h × MayLive h n entry
AreRunsFrom first kept (Dies h n event items) = AreRunsFrom first kept h × MayDie h n event items

-- all that happened could happen from the restart of the node on: no frame of before is taken
pub record IsSystemFrom (first : Id) (kept : Kept) (h : System) : Type 0 where
  pub runs : AreRunsFrom first kept h
  pub sent : TakesSentFrames h

-- the acts of all nodes, event by event, are a legal history from the restart on
abbrev pub LawRestartedLivesAssemble : Type 0
LawRestartedLivesAssemble = (first : Id) (kept : Kept) (h : System) → IsSystemFrom first kept h → IsLegalFrom first kept (history_of h)

-- so it is safe, over the state that the node had kept
abbrev pub LawRestartedSystemIsSafe : Type 0
LawRestartedSystemIsSafe =
    (first : Id) (kept : Kept) (h : System) → IsAlone first kept → IsSystemFrom first kept h → IsSafeFrom kept.accepted (history_of h)

-- In such a history each published state descends from each committed one whose id is not above its own, and what a node has accepted from
-- just those: so also where a quorum is lost again it is known what goes with it.
pub record IsKnownToLose (h : History) : Type 0 where
  pub descends : DescendsFromCommitted h
  pub lost : (node : Id) (p : History) → IsPrefix p h → (c : Published) → IsCommitted h c
      → Descends h c.state (accepted_of (node_history p node)) ↔ IsAtMost c.state (accepted_of (node_history p node))

abbrev pub LawRestartedLost : Type 0
LawRestartedLost = (first : Id) (kept : Kept) (h : History) → IsAlone first kept → IsLegalFrom first kept h → IsKnownToLose h
