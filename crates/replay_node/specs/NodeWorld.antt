-- Part of the statement: one node of a replay: what each line makes of it.
use Rattle.std.specs.Prelude.{ℕ, Bool, true, false, ◌||◌, Option, None, Some, List, []}
use Rattle.std.specs.Result.{result_unwrap_or}
use Rattle.voting_config.specs.Ids.{Id}
use Rattle.cluster_state.specs.Initial.{empty_record}
use Rattle.cluster_state.specs.declared.state.Kept.{Kept}
use Rattle.zen_disk.specs.DeviceCall.{DeviceCall}
use Rattle.zen_disk.specs.declared.orders.Order.{Order}
use Rattle.zen_disk.specs.declared.orders.Way.{Way}
use Rattle.zen_disk.specs.Sides.{Files}
use Rattle.gate_log.specs.Generations.{standing_in}
use Rattle.state_journal.specs.Journal.{found_of}
use Rattle.state_journal.specs.Keeping.{keeping_calls_in}
use Rattle.state_journal.specs.declared.change.Change.{Change}
use Rattle.world_model.specs.declared.acts.Act.{Act}
use Rattle.world_model.specs.declared.acts.Outcome.{Outcome}
use Rattle.world_model.specs.declared.acts.ActReply.{ActReply}
use Rattle.world_model.specs.declared.acts.Act.TheVariants.{Open}
use Rattle.world_model.specs.declared.acts.ActReply.TheVariants.{Taken, Refused, Stopped}
use Rattle.world_model.specs.declared.acts.Outcome.TheVariants.{Answered, Disk, Crashed}
use Rattle.world_model.specs.Acts.{NodeHistory, NoActs, Then}
use Rattle.world_model.specs.NodeState.{durable_of, halted_of}
use Rattle.world_model.specs.Replies.{reply_of}
use Rattle.coord_state.specs.Writes.{change_of}
use Rattle.trace_text.specs.Trace.{record_line, crashed_line, disk_line}
use Rattle.replay_node.specs.NodeDisk.{NodeDisk, CallsEnd, Done, Failed, CrashedIn, Called, calls_made, opening, bytes_read, fresh_disk, with_order, crashed_by}
use Rattle.world_model.specs.Settled.{settled, is_kept}

-- what it did, its disk, and whether it is down
pub record NodeWorld : Type 0 where
  pub acts : NodeHistory
  pub disk : NodeDisk
  pub down : Bool

abbrev pub fresh_node : NodeWorld
fresh_node = record { acts = NoActs; disk = fresh_disk; down = false }

-- ---- an act

-- The device calls of an act that is answered so, where the node keeps this record in files that read so: those that keep its change, where
-- it is taken and has one.
abbrev pub act_calls : ActReply → Option Change → Kept → Files → List DeviceCall
act_calls (Taken sends wins) (Some change) kept files = keeping_calls_in (standing_in files) kept change
act_calls (Taken sends wins) None kept files = []
act_calls (Refused cause) change kept files = []
act_calls Stopped change kept files = []

-- its outcome by how these calls end; what the disk failed or stopped in counts as not kept until the node is opened
abbrev pub outcome_by : CallsEnd → ActReply → Outcome
outcome_by Done reply = Answered reply
outcome_by Failed reply = Disk false
outcome_by (CrashedIn way) reply = Crashed false

abbrev pub ends_in_a_crash : CallsEnd → Bool
ends_in_a_crash Done = false
ends_in_a_crash Failed = false
ends_in_a_crash (CrashedIn way) = true

abbrev pub act_called : Id → NodeWorld → Act → Called
act_called me w act = calls_made w.disk (act_calls (reply_of me w.acts act) (change_of act) (durable_of w.acts) (bytes_read w.disk.files))

abbrev pub outcome_at : Id → NodeWorld → Act → Outcome
outcome_at me w act = outcome_by (act_called me w act).ended (reply_of me w.acts act)

abbrev pub after_act : Id → NodeWorld → Act → NodeWorld
after_act me w act = record
    { acts = Then w.acts act (outcome_at me w act); disk = (act_called me w act).disk; down = ends_in_a_crash (act_called me w act).ended }

-- ---- a crash between two acts, and orders

abbrev pub after_crash : Way → NodeWorld → NodeWorld
after_crash way w = record { acts = w.acts; disk = crashed_by way w.disk; down = true }

abbrev pub after_order : Order → NodeWorld → NodeWorld
after_order order w = record { acts = w.acts; disk = with_order order w.disk; down = w.down }

-- ---- an opening

-- it is down, or met a fault of its disk
abbrev pub needs_opening : NodeWorld → Bool
needs_opening w = w.down || halted_of w.acts

-- the record that the files stand for
abbrev pub found_at : NodeWorld → Kept
found_at w = result_unwrap_or (found_of (bytes_read w.disk.files)) empty_record

abbrev pub acts_reopened : NodeHistory → Kept → NodeHistory
acts_reopened g found = Then (settled (is_kept g found) g) (Open found) (Answered (Taken None false))

abbrev pub opened_by : CallsEnd → NodeHistory → NodeDisk → Kept → NodeWorld
opened_by Done g disk found = record { acts = acts_reopened g found; disk = disk; down = false }
opened_by Failed g disk found = record { acts = g; disk = disk; down = true }
opened_by (CrashedIn way) g disk found = record { acts = g; disk = disk; down = true }

abbrev pub after_opening : NodeWorld → NodeWorld
after_opening w = opened_by (opening w.disk).ended w.acts (opening w.disk).disk (found_at w)

abbrev pub opening_text : CallsEnd → Id → Kept → List ℕ
opening_text Done n found = record_line n found.term found.accepted found.committed
opening_text Failed n found = disk_line n
opening_text (CrashedIn way) n found = crashed_line n
