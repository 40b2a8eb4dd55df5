-- For the contracts inside: what a voting-only node never does, as statements.
use Rattle.std.specs.Prelude.{◌≡◌, ◌≢◌, true, false, List, Contains}
use Rattle.voting_config.specs.Ids.{Id}
use Rattle.world_model.specs.declared.acts.Act.TheVariants.{TakeJoin}
use Rattle.world_model.specs.Acts.{NodeHistory, NoActs, Then, wins}
use Rattle.world_model.specs.Safety.{Win, winners}
use Rattle.policy_model.specs.declared.settings.Settings.{Settings}
use Rattle.policy_model.specs.Doing.{is_voting_only}
use Rattle.policy_model.specs.Entries.{Life, log_of}
use Rattle.policy_model.specs.Events.{acts_of}
use Rattle.policy_model.specs.Follows.{Follows}
use Rattle.system_laws.specs.Systems.{System, Nothing, Starts, Lives, Dies, IsSystem, history_of}

-- the node counted no join
abbrev pub CountsNoJoin : NodeHistory → Type 0
CountsNoJoin NoActs = Unit {0}
CountsNoJoin (Then g (TakeJoin join) outcome) = ⊥
CountsNoJoin (Then g act outcome) = CountsNoJoin g

-- it won no election
abbrev pub WinsNothing : NodeHistory → Type 0
WinsNothing NoActs = Unit {0}
WinsNothing (Then g act outcome) = WinsNothing g × (wins outcome ≡ false)

pub record NeverLeads (g : NodeHistory) : Type 0 where
  pub joins : CountsNoJoin g
  pub wins : WinsNothing g

-- A node that is in its own list, in whatever it lives. The others' lists don't matter.
abbrev pub LawVotingOnlyNeverLeads : Type 0
LawVotingOnlyNeverLeads = (s : Settings) (life : Life) → Follows s life → is_voting_only s s.me ≡ true → NeverLeads (acts_of (log_of life))

-- each run of the node had it in its own list
abbrev pub IsVotingOnlyIn : System → Id → Type 0
IsVotingOnlyIn Nothing n = Unit {0}
IsVotingOnlyIn (Starts h s found) n = IsVotingOnlyIn h n × (s.me ≡ n → is_voting_only s n ≡ true)
IsVotingOnlyIn (Lives h node entry) n = IsVotingOnlyIn h n
IsVotingOnlyIn (Dies h node event items) n = IsVotingOnlyIn h n

-- no winner of a system is such a node
abbrev pub LawVotingOnlyNeverWins : Type 0
LawVotingOnlyNeverWins =
    (initial : List Id) (h : System) → IsSystem initial h
    → (n : Id) → IsVotingOnlyIn h n → (w : Win) → Contains (winners (history_of h)) w → w.node ≢ n
