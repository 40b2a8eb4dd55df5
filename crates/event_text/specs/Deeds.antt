-- Part of the statement: the lines of a trace that show a node's acts and its changes of mode.
use Rattle.std.specs.Prelude.{ℕ, Bool, Option, List, [], ◌∷◌, ◌++◌, codes, decimal, if◌then◌else◌, map}
use Rattle.voting_config.specs.Ids.{Id}
use Rattle.cluster_state.specs.declared.state.ClusterState.{ClusterState}
use Rattle.world_model.specs.declared.acts.Act.{Act}
use Rattle.world_model.specs.declared.acts.Outcome.{Outcome}
use Rattle.world_model.specs.declared.acts.Outcome.TheVariants.{Answered, Disk, Crashed}
use Rattle.policy_model.specs.declared.events.Mode.{Mode}
use Rattle.policy_model.specs.declared.events.Mode.TheVariants.{Candidate, Leader, Follower}
use Rattle.policy_model.specs.declared.events.Deed.{Deed}
use Rattle.policy_model.specs.declared.events.Deed.TheVariants as deed
use Rattle.trace_text.specs.Trace.{committed_line, outcome_line, won_line}
use Rattle.event_text.specs.Published.{published_in}

abbrev pub mode_text : Mode → List ℕ
mode_text Candidate = codes "candidate"
mode_text Leader = codes "leader"
mode_text (Follower leader) = codes "follower " ++ leader

abbrev pub mode_line : Id → Mode → (term : ℕ) → List ℕ
mode_line n mode term = codes "mode " ++ n ++ codes " " ++ mode_text mode ++ codes " " ++ decimal term ++ codes "\n"

-- an act that ended so, of a node that had published this state last: the act, an election that it won, a state that is committed
abbrev pub act_lines : Id → Option ClusterState → Act → Outcome → List ℕ
act_lines n published act o = outcome_line n o act ++ won_line n act o ++ committed_line o published

abbrev pub deed_text : Id → Option ClusterState → Deed → List ℕ
deed_text n published (deed.Act act o) = act_lines n published act o
deed_text n published (deed.Mode mode term) = mode_line n mode term

-- deeds in their order, of a node that had published this state last before them
abbrev pub deeds_text : Id → Option ClusterState → List Deed → List ℕ
deeds_text n published [] = []
deeds_text n published (s ∷ ss) = deed_text n published s ++ deeds_text n (published_in published s) ss

-- ---- where the node has crashed

-- How an act is shown to have ended: where the disk failed since the node crashed, the act is shown as crashed. No further act follows it
-- in an event.
abbrev pub outcome_left : (crashed : Bool) → Outcome → Outcome
outcome_left crashed (Answered reply) = Answered reply
outcome_left crashed (Disk kept) = if crashed then Crashed kept else Disk kept
outcome_left crashed (Crashed kept) = Crashed kept

abbrev pub deed_left : (crashed : Bool) → Deed → Deed
deed_left crashed (deed.Act act o) = deed.Act act (outcome_left crashed o)
deed_left crashed (deed.Mode mode term) = deed.Mode mode term

abbrev pub as_left : (crashed : Bool) → List Deed → List Deed
as_left crashed deeds = map (deed_left crashed) deeds
