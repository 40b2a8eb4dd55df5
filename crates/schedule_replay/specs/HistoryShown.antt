-- Part of the statement: what the parts of a trace show: a history, the lines, the messages, the wins and the committed states. Nothing
-- here looks at a schedule, a disk or a program.
use Rattle.std.specs.Prelude.{◌≡◌, ℕ, ◌+◌, false, Option, None, Some, List, [], ◌∷◌}
use Rattle.std.specs.List.{flat_map}
use Rattle.voting_config.specs.Ids.{Id}
use Rattle.cluster_state.specs.declared.state.ClusterState.{ClusterState}
use Rattle.world_model.specs.declared.acts.Act.TheVariants.{Open}
use Rattle.world_model.specs.declared.acts.Message.{Message}
use Rattle.world_model.specs.declared.acts.Message.TheVariants.{Commit as CommitMessage}
use Rattle.world_model.specs.declared.acts.ActReply.TheVariants as reply
use Rattle.world_model.specs.declared.acts.Outcome.{Outcome}
use Rattle.world_model.specs.declared.acts.Outcome.TheVariants.{Answered, Disk, Crashed}
use Rattle.world_model.specs.Histories.{History, NoEntries, Next, node_history}
use Rattle.world_model.specs.Safety.{Win}
use Rattle.schedule_text.specs.declared.schedule.Line.{Line}
use Rattle.trace_text.specs.declared.ending.Ending.{Ending}
use Rattle.trace_text.specs.declared.ending.Ending.TheVariants as ending
use Rattle.replay_node.specs.Did.{is_won}
use Rattle.world_model.specs.Settled.{is_kept, settled_for}
use Rattle.schedule_replay.specs.Parts.{NumberedMessage, TracePart, Echo, Did, Opened}

-- ---- the history

abbrev pub message_in : Option NumberedMessage → Option Message
message_in None = None
message_in (Some m) = Some m.message

-- the outcome of an act that is shown so; what the disk failed or stopped in counts as not kept until a record of its node is shown
abbrev pub outcome_shown : Ending → Option ℕ → Option NumberedMessage → Outcome
outcome_shown ending.Taken won sends = Answered (reply.Taken (message_in sends) (is_won won))
outcome_shown (ending.Refused cause) won sends = Answered (reply.Refused cause)
outcome_shown ending.Stopped won sends = Answered reply.Stopped
outcome_shown ending.Disk won sends = Disk false
outcome_shown ending.Crashed won sends = Crashed false

-- The history after a part. An act is an entry. So is a record, and it settles the act of its node that the disk failed or stopped in since
-- the node was last opened: this act was kept exactly where the record shows it. No other part makes an entry.
abbrev pub history_shown_by : History → TracePart → History
history_shown_by h (Did x) = Next h x.node x.act (outcome_shown x.ending x.won x.sends)
history_shown_by h (Opened n found) =
    Next (settled_for n (is_kept (node_history h n) found) h) n (Open found) (Answered (reply.Taken None false))
history_shown_by h other = h

abbrev pub history_shown_from : History → List TracePart → History
history_shown_from h [] = h
history_shown_from h (x ∷ xs) = history_shown_from (history_shown_by h x) xs

abbrev pub history_shown : List TracePart → History
history_shown parts = history_shown_from NoEntries parts

-- ---- the lines of the schedule

abbrev pub line_in : TracePart → List Line
line_in (Echo l) = l ∷ []
line_in other = []

abbrev pub lines_of : List TracePart → List Line
lines_of parts = flat_map line_in parts

-- ---- the messages

abbrev pub some_numbered : Option NumberedMessage → List NumberedMessage
some_numbered None = []
some_numbered (Some m) = m ∷ []

abbrev pub numbered_in : TracePart → List NumberedMessage
numbered_in (Did x) = some_numbered x.sends
numbered_in other = []

abbrev pub messages_of : List TracePart → List NumberedMessage
messages_of parts = flat_map numbered_in parts

-- messages in order, where so many were sent before
abbrev pub numbered : (count : ℕ) → List Message → List NumberedMessage
numbered count [] = []
numbered count (m ∷ ms) = record { number = count + 1; message = m } ∷ numbered (count + 1) ms

-- ---- wins and commits

abbrev pub some_win : Id → Option ℕ → List Win
some_win n None = []
some_win n (Some term) = record { node = n; term = term } ∷ []

abbrev pub win_in : TracePart → List Win
win_in (Did x) = some_win x.node x.won
win_in other = []

-- the `won` lines
abbrev pub wins_of : List TracePart → List Win
wins_of parts = flat_map win_in parts

abbrev pub some_state : Option ClusterState → List ClusterState
some_state None = []
some_state (Some state) = state ∷ []

abbrev pub state_in : TracePart → List ClusterState
state_in (Did x) = some_state x.committed
state_in other = []

-- the states of the `committed` lines
abbrev pub states_of : List TracePart → List ClusterState
states_of parts = flat_map state_in parts

-- the message that commits this state, sent by its node
abbrev pub commit_of : Id → Option ClusterState → Option Message
commit_of n None = None
commit_of n (Some state) = Some (CommitMessage (record { source = n; term = state.term; version = state.version }))

-- the message, where it is a commit
abbrev pub if_commit : Option Message → Option Message
if_commit (Some (CommitMessage c)) = Some (CommitMessage c)
if_commit other = None

-- an act shows a committed state exactly where it sends a commit, and that state is the one that it commits
abbrev pub ShowsCommit : TracePart → Type 0
ShowsCommit (Did x) = if_commit (message_in x.sends) ≡ commit_of x.node x.committed
ShowsCommit other = Unit {0}
