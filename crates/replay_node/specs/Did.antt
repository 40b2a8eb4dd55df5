-- Part of the statement: what an act of a node did, and what is written of it.
use Rattle.std.specs.Prelude.{◌≡◌, ℕ, ◌+◌, true, false, Bool, Option, None, Some, List, [], ◌++◌, codes, if◌then◌else◌}
use Rattle.std.specs.declared.rc.Rc.{Rc}
use Rattle.std.specs.declared.alloc.Global.{Global}
use Rattle.voting_config.specs.Ids.{Id}
use Rattle.cluster_state.specs.declared.state.ClusterState.{ClusterState}
use Rattle.world_model.specs.declared.acts.Act.{Act}
use Rattle.world_model.specs.declared.acts.ActReply.TheVariants.{Taken, Refused, Stopped}
use Rattle.world_model.specs.declared.acts.Outcome.{Outcome}
use Rattle.world_model.specs.declared.acts.Outcome.TheVariants.{Answered, Disk, Crashed}
use Rattle.trace_text.specs.declared.ending.Ending.{Ending}
use Rattle.trace_text.specs.declared.ending.Ending.TheVariants as ending
use Rattle.trace_text.specs.Trace.{won_text, committed_text, committed_line, down_line, message_line, ending_text, results}
use Rattle.replay_node.specs.NodeWorld.{NodeWorld, outcome_at, after_act}
use Rattle.trace_text.specs.Published.{last_published}
use Rattle.replay_node.specs.Sent.{message_of, message_of_some}
use Rattle.cluster_state.specs.declared.messages.PublishRequest.{PublishRequest}
use Rattle.replay_node.specs.declared.message.SentMessage.{SentMessage}
use Rattle.replay_node.specs.declared.did.Did.{Did}
use Rattle.replay_node.specs.declared.did.Did.TheVariants as did

abbrev pub is_won : Option ℕ → Bool
is_won None = false
is_won (Some term) = true

-- the outcome of the act; a node that is down has none
abbrev pub outcome_of : Did → Option Outcome
outcome_of (did.Taken e) = Some (Answered (Taken (message_of_some e.sends) (is_won e.won)))
outcome_of (did.Refused cause) = Some (Answered (Refused cause))
outcome_of did.Stopped = Some (Answered Stopped)
outcome_of did.Disk = Some (Disk false)
outcome_of did.Crashed = Some (Crashed false)
outcome_of did.Down = None

abbrev pub ending_by : Did → Option Ending
ending_by (did.Taken e) = Some ending.Taken
ending_by (did.Refused cause) = Some (ending.Refused cause)
ending_by did.Stopped = Some ending.Stopped
ending_by did.Disk = Some ending.Disk
ending_by did.Crashed = Some ending.Crashed
ending_by did.Down = None

-- What is written of it, where the act is written so.

abbrev pub won_by : Option ℕ → Id → List ℕ
won_by None n = []
won_by (Some term) n = won_text true n term

abbrev pub committed_by : Option (Rc PublishRequest Global) → List ℕ
committed_by None = []
committed_by (Some r) = committed_text (Some r.value.state)

abbrev pub sends_by : ℕ → Option SentMessage → List ℕ
sends_by number None = []
sends_by number (Some m) = message_line number (message_of m)

abbrev pub effects_text : (count : ℕ) → Id → Did → List ℕ
effects_text count n (did.Taken e) = won_by e.won n ++ (committed_by e.committed ++ sends_by (count + 1) e.sends)
effects_text count n other = []

abbrev pub ended_text : Option Ending → (count : ℕ) → Id → (act : List ℕ) → Did → List ℕ
ended_text None count n act d = down_line n
ended_text (Some ending) count n act d = (codes "act " ++ n ++ codes " " ++ ending_text ending ++ codes " " ++ act ++ codes "\n")
    ++ effects_text count n d

abbrev pub did_text : (count : ℕ) → Id → (act : List ℕ) → Did → List ℕ
did_text count n act d = ended_text (ending_by d) count n act d

-- the act committed nothing, and what it won is the election of this term
abbrev pub WinsIn : ℕ → Did → Type 0
WinsIn term (did.Taken e) = (e.won ≡ (if is_won e.won then Some term else None)) × (e.committed ≡ None)
WinsIn term other = Unit {0}

-- the act won nothing, and what it committed is this state
abbrev pub CommitsLast : Option ClusterState → Did → Type 0
CommitsLast published (did.Taken e) = (e.won ≡ None)
    × (committed_by e.committed ≡ committed_line (Answered (Taken (message_of_some e.sends) (is_won e.won))) published)
CommitsLast published other = Unit {0}

-- ---- an act of a node, which may be down

abbrev pub outcome_unless_down : Id → NodeWorld → Act → Option Outcome
outcome_unless_down me w act = if w.down then None else Some (outcome_at me w act)

abbrev pub after_unless_down : Id → NodeWorld → Act → NodeWorld
after_unless_down me w act = if w.down then w else after_act me w act

-- what it writes after so many messages
abbrev pub act_results : (count : ℕ) → Id → NodeWorld → Act → List ℕ
act_results count me w act = if w.down then down_line me else results count (last_published w.acts) me act (outcome_at me w act)
