-- Part of the statement: the parts of a trace, and their text. A part is an act with all that its lines show, or one other line. It holds
-- what its text shows and nothing else, but for the value of a record's accepted state, of which the text shows the id and the
-- configuration.
use Rattle.std.specs.Prelude.{ℕ, Option, None, Some, List, [], ◌++◌, codes}
use Rattle.std.specs.List.{flat_map}
use Rattle.voting_config.specs.Ids.{Id}
use Rattle.cluster_state.specs.declared.state.ClusterState.{ClusterState}
use Rattle.cluster_state.specs.declared.state.Kept.{Kept}
use Rattle.world_model.specs.declared.acts.Act.{Act}
use Rattle.world_model.specs.declared.acts.Message.{Message}
use Rattle.schedule_text.specs.declared.schedule.Line.{Line}
use Rattle.schedule_text.specs.Lines.{line_text}
use Rattle.trace_text.specs.declared.ending.Ending.{Ending}
use Rattle.trace_text.specs.Trace.{act_line, committed_text, crashed_line, disk_line, down_line, message_line, record_line, up_line}
use Rattle.replay_node.specs.Did.{won_by}

-- a message and its number, which counts the messages of all nodes from 1 on
pub record NumberedMessage : Type 0 where
  pub number : ℕ
  pub message : Message

-- an act of a node and how it ended; the term that it won, the state that it committed, and the message that it sent
pub record ActShown : Type 0 where
  pub node : Id
  pub act : Act
  pub ending : Ending
  pub won : Option ℕ
  pub committed : Option ClusterState
  pub sends : Option NumberedMessage

pub data TracePart : Type 0 where
  -- a line of the schedule
  Echo : (line : Line) → TracePart
  -- an act of a node, with its `won` or `committed` line and its message
  Did : (shown : ActShown) → TracePart
  -- `record`: a node opened its journal, and found this record
  Opened : (node : Id) → (found : Kept) → TracePart
  -- `down`: a node took nothing, as it was down; `up`: it was not opened, as it was up
  WasDown : (node : Id) → TracePart
  WasUp : (node : Id) → TracePart
  -- `crashed`: a node crashed, between two acts or as it opened its journal; `disk`: its disk failed as it opened its journal
  WentDown : (node : Id) → TracePart
  DiskFailed : (node : Id) → TracePart
  -- `unsent`: no message of this number was sent
  Unsent : TracePart

abbrev pub sends_text : Option NumberedMessage → List ℕ
sends_text None = []
sends_text (Some m) = message_line m.number m.message

abbrev pub shown_text : ActShown → List ℕ
shown_text x = act_line x.node x.ending x.act ++ (won_by x.won x.node ++ (committed_text x.committed ++ sends_text x.sends))

abbrev pub part_text : TracePart → List ℕ
part_text (Echo l) = codes "> " ++ line_text l ++ codes "\n"
part_text (Did x) = shown_text x
part_text (Opened n found) = record_line n found.term found.accepted found.committed
part_text (WasDown n) = down_line n
part_text (WasUp n) = up_line n
part_text (WentDown n) = crashed_line n
part_text (DiskFailed n) = disk_line n
part_text Unsent = codes "unsent\n"

abbrev pub text_of : List TracePart → List ℕ
text_of parts = flat_map part_text parts
