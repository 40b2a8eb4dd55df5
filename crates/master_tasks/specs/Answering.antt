-- Part of the statement: which of the requests that wait are answered, each by a look at it alone.
use Rattle.std.specs.Prelude.{ℕ, Bool, true, false, not, ◌&&◌, Option, None, Some, List, filter, is_none, if◌then◌else◌}
use Rattle.std.specs.List.{filter_map}
use Rattle.std.specs.Option.{option_map}
use Rattle.election_clock.specs.Delays.{has_passed}
use Rattle.voting_config.specs.Ids.{Id, among, some_among}
use Rattle.cluster_state.specs.declared.state.ClusterState.{ClusterState}
use Rattle.cluster_state.specs.declared.state.StateId.{StateId}
use Rattle.cluster_state.specs.declared.request.Ask.{Ask}
use Rattle.cluster_state.specs.declared.request.Ask.TheVariants as ask
use Rattle.cluster_state.specs.declared.reply.Answer.{Answer}
use Rattle.cluster_state.specs.declared.reply.Answer.TheVariants as answer
use Rattle.cluster_state.specs.States.{id_of}
use Rattle.master_tasks.specs.declared.waiting.Waiting.{Waiting}
use Rattle.master_tasks.specs.declared.waiting.Outgoing.{Outgoing}
use Rattle.master_tasks.specs.Queue.{Tasks}
use Rattle.master_tasks.specs.Replying.{answer_to}

-- how long an exclusion waits, in ms
abbrev pub exclusion_span : ℕ
exclusion_span = 30000

-- who gets an answer, and who waits on
abbrev pub answers_by : (Waiting → Option Answer) → List Waiting → List Outgoing
answers_by decide waiting = filter_map (λ w. option_map (answer_to w) (decide w)) waiting

abbrev pub left_by : (Waiting → Option Answer) → List Waiting → List Waiting
left_by decide waiting = filter (λ w. is_none (decide w)) waiting

abbrev pub without_answered : (Waiting → Option Answer) → Tasks → Tasks
without_answered decide t = record t { waiting = left_by decide t.waiting }

-- the ids of an exclusion that is asked for
abbrev pub excluded_by : Ask → Option (List Id)
excluded_by (ask.Put key value) = None
excluded_by (ask.Remove key) = None
excluded_by (ask.Exclude ids) = Some ids
excluded_by (ask.Clear wait) = None
excluded_by ask.State = None

-- the node is the leader of this term no more
abbrev pub failed : ℕ → Waiting → Option Answer
failed term w = Some (answer.FailedToCommit term)

-- what a request is answered once the leader has taken the commit of its state, of those that wait for that: an exclusion, where none of
-- its ids votes any more; and to be shown the state
abbrev pub answer_applied : List Id → ClusterState → Ask → Option Answer
answer_applied committed accepted (ask.Put key value) = None
answer_applied committed accepted (ask.Remove key) = None
answer_applied committed accepted (ask.Exclude ids) = if some_among ids committed then None else Some (answer.Acked (id_of accepted))
answer_applied committed accepted (ask.Clear wait) = None
answer_applied committed accepted ask.State = Some (answer.State accepted)

-- the leader has applied this state, which committed this configuration: such requests are answered, once they were processed
abbrev pub applied_in : List Id → ClusterState → Waiting → Option Answer
applied_in committed accepted w = if w.processed then answer_applied committed accepted w.request.ask else None

-- whether a request waits for that; the others wait for the commit of a state with what they ask for
abbrev pub waits_applied : Ask → Bool
waits_applied (ask.Put key value) = false
waits_applied (ask.Remove key) = false
waits_applied (ask.Exclude ids) = true
waits_applied (ask.Clear wait) = false
waits_applied ask.State = true

-- a state of this id is committed that has what was processed
abbrev pub committed_in : StateId → Waiting → Option Answer
committed_in id w = if w.processed && not (waits_applied w.request.ask) then Some (answer.Acked id) else None

-- an exclusion has waited too long: which of its ids still vote
abbrev pub if_late : List Id → Bool → Option (List Id) → Option Answer
if_late committed late None = None
if_late committed late (Some ids) = if late then Some (answer.ExclusionTimeout (among ids committed)) else None

abbrev pub timed_out : List Id → ℕ → Waiting → Option Answer
timed_out committed now w = if_late committed (has_passed w.arrived exclusion_span now) (excluded_by w.request.ask)

-- an exclusion is done where none of its ids votes
abbrev pub unless_voting : List Id → StateId → Bool → Ask → Option Answer
unless_voting committed id processed (ask.Put key value) = Some (answer.Acked id)
unless_voting committed id processed (ask.Remove key) = Some (answer.Acked id)
unless_voting committed id processed (ask.Exclude ids) = if processed && not (some_among ids committed) then Some (answer.Acked id) else None
unless_voting committed id processed (ask.Clear wait) = Some (answer.Acked id)
unless_voting committed id processed ask.State = None

-- the accepted state is the one that the requests ask for: they are acked with its id, an exclusion only where none of its ids votes; to be
-- shown the state waits for one of its own
abbrev pub nothing_new : List Id → StateId → Waiting → Option Answer
nothing_new committed id w = unless_voting committed id w.processed w.request.ask
