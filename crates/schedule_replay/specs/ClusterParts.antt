-- Part of the statement: the parts of a trace of whole nodes, and their text. A part that level core has too is a part of level core, so
-- that what those show is said here in the same words. A part holds what its text shows, and beside that: of an act the message that it
-- sends, with its number among the messages of all acts, since here frames are shown in its place; of a record the value of the accepted
-- state; and of a reply its connection.
use Rattle.std.specs.Prelude.{ℕ, List, ◌++◌, codes}
use Rattle.std.specs.List.{flat_map}
use Rattle.voting_config.specs.Ids.{Id}
use Rattle.wire_frames.specs.declared.frame.Frame.{Frame}
use Rattle.master_tasks.specs.declared.waiting.Outgoing.{Outgoing}
use Rattle.policy_model.specs.declared.events.Mode.{Mode}
use Rattle.policy_model.specs.declared.events.MemberDrop.{MemberDrop}
use Rattle.trace_text.specs.Trace.{act_line, committed_text}
use Rattle.event_text.specs.Frames.{frame_line}
use Rattle.event_text.specs.Deeds.{mode_line}
use Rattle.event_text.specs.Events.{drop_line, reply_line}
use Rattle.replay_node.specs.Did.{won_by}
use Rattle.schedule_replay.specs.Parts.{ActShown, TracePart, Did, part_text}

-- a frame and its number, which counts the frames of all nodes from 1 on
pub record NumberedFrame : Type 0 where
  pub number : ℕ
  pub frame : Frame

pub data ClusterPart : Type 0 where
  -- a line of both levels; an act has its `won` or `committed` line with it
  Shared : (part : TracePart) → ClusterPart
  -- `mode`: the node is in this mode from now on
  ModeChanged : (node : Id) → (mode : Mode) → (term : ℕ) → ClusterPart
  -- `drop`: the node will remove this member
  Dropped : (node : Id) → (dropped : MemberDrop) → ClusterPart
  -- the line of a frame that was sent
  Framed : (sent : NumberedFrame) → ClusterPart
  -- `reply`: the node answered a client
  Replied : (node : Id) → (answer : Outgoing) → ClusterPart
  -- `misrouted`: the frame of this number is for another node
  Misrouted : ClusterPart

abbrev pub act_text : ActShown → List ℕ
act_text x = act_line x.node x.ending x.act ++ won_by x.won x.node ++ committed_text x.committed

abbrev pub shared_text : TracePart → List ℕ
shared_text (Did x) = act_text x
shared_text other = part_text other

abbrev pub cluster_part_text : ClusterPart → List ℕ
cluster_part_text (Shared x) = shared_text x
cluster_part_text (ModeChanged n mode term) = mode_line n mode term
cluster_part_text (Dropped n d) = drop_line n d
cluster_part_text (Framed f) = frame_line f.number f.frame
cluster_part_text (Replied n answer) = reply_line n answer
cluster_part_text Misrouted = codes "misrouted\n"

abbrev pub cluster_text : List ClusterPart → List ℕ
cluster_text parts = flat_map cluster_part_text parts
