-- Part of the statement: how a run of the program ends. `Ran` is the contract of `run`.
use Rattle.std.specs.Prelude.{◌≡◌, ℕ, ◌≤◌, ◌⊎◌, Option, None, Some, List, [], codes}
use Rattle.zen_disk.specs.Faults.{Rose}
use Rattle.zen_disk.specs.declared.disks.Disks.{Ghosts as Disks}
use Rattle.zen_link.specs.declared.link.Link.{Ghosts as Links}
use Rattle.zen_link.specs.Streams.{Appended, AppendedPrefix}
use Rattle.schedule_text.specs.declared.level.Level.{Level}
use Rattle.schedule_text.specs.declared.schedule.Schedule.{Schedule}
use Rattle.schedule_text.specs.Spelled.{Spells}
use Rattle.schedule_text.specs.declared.level.Level.TheVariants.{Core}
use Rattle.schedule_replay.specs.Generated.{generated}
use Rattle.schedule_replay.specs.Levels.{trace_at}
use Rattle.trace_summary.specs.Printed.{summary_text}
use Rattle.trace_summary.specs.Summaries.{summary_of}
use Rattle.command_line.specs.declared.command.ProgramCommand.{ProgramCommand}
use Rattle.command_line.specs.declared.command.ProgramCommand.TheVariants.{Replay, Inspect, Node, Generate, Trial, Rescue, UnsafeBootstrap, DetachCluster, Audit}
use Rattle.command_line.specs.Commands.{command_of}
use Rattle.journal_inspection.specs.declared.inspecting.Inspection.{Inspection}
use Rattle.zen_host.specs.Views.{HostView}
use Rattle.journal_inspection.specs.Inspects.{LeavesLinks, Asked, EndsWith, IsComplete}
use Rattle.node_tool.specs.declared.tool.Tool.TheVariants as tool
use Rattle.coordinator.specs.declared.step.Sealed.{Sealed}
use Rattle.trace_audit.specs.declared.running.AuditEnd.{AuditEnd}
use Rattle.trace_audit.specs.Runs.{Audited, most_audited}
use Rattle.zen_app.specs.Codes.{status_of, status_of_audit}
use Rattle.zen_link.specs.Reading.{ReadsAtMost}
use Rattle.zen_app.specs.Misspelled.{Refused, RefusedPrefix}
use Rattle.zen_app.specs.Reading.{most_read, unread_of}
use Rattle.zen_app.specs.RescueRuns.{RescueRun}
use Rattle.zen_app.specs.NodeFaults.{Failed}
use Rattle.zen_app.specs.NodeRuns.{NodeRun, SaysLine}
use Rattle.zen_app.specs.SafeTrace.{IsSafeTraceAt}
use Rattle.zen_app.specs.ToolRuns.{ToolRun}
use Rattle.zen_app.specs.TrialRuns.{TrialRun}
use Rattle.zen_link.specs.Views.{SourceView, SinkView}
use Rattle.zen_app.specs.declared.status.Status.{Status}
use Rattle.zen_app.specs.declared.status.Status.TheVariants as exit

abbrev pub usage_line : List ℕ
usage_line = codes "zen: usage\n"

-- ---- what was written

-- the bytes are a schedule of this level, and its whole trace was written and nothing else
pub record Replayed (level : Level) (bytes : List ℕ) (was now : Option (List ℕ)) : Type 0 where
  pub schedule : Schedule
  pub spelled : Spells level bytes schedule
  pub written : Appended was now (trace_at level schedule)
  pub safe_trace : IsSafeTraceAt level schedule

-- the same, but only a prefix of the trace was written
pub record ReplayedPrefix (level : Level) (bytes : List ℕ) (was now : Option (List ℕ)) : Type 0 where
  pub schedule : Schedule
  pub spelled : Spells level bytes schedule
  pub written : AppendedPrefix was now (trace_at level schedule)
  pub safe_trace : IsSafeTraceAt level schedule

-- ---- how a run ends

-- what each status of a replay at this level says, where the input held these bytes
abbrev pub ReplayEnds : Level → (bytes : List ℕ) → (left_now : Option (List ℕ)) → (was now : Option (List ℕ)) → Status → Type 0
ReplayEnds level bytes left_now was now exit.Ok = (left_now ≡ Some []) × Replayed level bytes was now
ReplayEnds level bytes left_now was now exit.BadSchedule = (left_now ≡ Some (unread_of bytes)) × Refused level bytes was now
ReplayEnds level bytes left_now was now exit.NoMemory = ReplayedPrefix level bytes was now ⊎ Appended was now []
ReplayEnds level bytes left_now was now exit.WriteFault =
    (left_now ≡ Some (unread_of bytes)) × (ReplayedPrefix level bytes was now ⊎ RefusedPrefix level bytes was now)
ReplayEnds level bytes left_now was now exit.ReadFault = Appended was now []
ReplayEnds level bytes left_now was now other = ⊥

-- how a replay at this level ends, where the input held these bytes
pub record Replays (level : Level) (bytes : List ℕ) (source source_now : SourceView) (sink sink_now : SinkView)
    (status : Status) : Type 0 where
  pub ended : ReplayEnds level bytes source_now.left sink.written sink_now.written status
  -- whatever the status: of a schedule a prefix of its trace was written, and the history that the trace shows is legal and safe
  pub traced : (s : Schedule) → Spells level bytes s
      → AppendedPrefix sink.written sink_now.written (trace_at level s) × IsSafeTraceAt level s
  -- a schedule, with no fault counted, is replayed to the end, unless memory runs out
  pub complete : (s : Schedule) → Spells level bytes s → (Rose source.faults source_now.faults → ⊥) → (Rose sink.faults sink_now.faults → ⊥)
      → (status ≡ exit.Ok) ⊎ (status ≡ exit.NoMemory)

-- the statuses with which no replay ends
abbrev pub MayEndReplay : Status → Type 0
MayEndReplay exit.Usage = ⊥
MayEndReplay exit.DiskFault = ⊥
MayEndReplay exit.LinkFault = ⊥
MayEndReplay exit.HostFault = ⊥
MayEndReplay exit.NotAJournal = ⊥
MayEndReplay exit.Turns = ⊥
MayEndReplay exit.TrialFailed = ⊥
MayEndReplay exit.RescueRefused = ⊥
MayEndReplay exit.NotLegal = ⊥
MayEndReplay exit.BadTrace = ⊥
MayEndReplay exit.ToolRefused = ⊥
MayEndReplay other = Unit {0}

-- a run of `replay --level`
pub record ReplayRun (level : Level) (source source_now : SourceView) (sink sink_now : SinkView) (status : Status) : Type 0 where
  pub ends : MayEndReplay status
  -- where the source tells its bytes
  pub replays : (bytes : List ℕ) → source.left ≡ Some bytes → Replays level bytes source source_now sink sink_now status

-- a run of `inspect --dir`: what the host was asked, what was written of the disk that it gave, and that a journal is shown where nothing
-- fails
pub record InspectRun {D L : Type 0} (d : Disks D) (dir : List ℕ) (host host_now : HostView D L) (sink sink_now : SinkView)
    (status : Status) : Type 0 where
  pub end : Inspection
  pub is_status : status ≡ status_of end
  pub asked : Asked dir host.calls host_now.calls end
  pub ended : EndsWith d host host_now sink.written sink_now.written sink.faults sink_now.faults end
  pub complete : IsComplete d host host_now sink.faults sink_now.faults end
  pub links : LeavesLinks host host_now

-- a run of `generate`: the summary of the trace of the one schedule that the number and the steps give, whose history is legal and safe
pub record GenerateRun (number steps : ℕ) (was now : Option (List ℕ)) (status : Status) : Type 0 where
  pub says : SaysLine (summary_text (summary_of (trace_at Core (generated number steps)))) exit.Ok was now status
  pub safe_trace : IsSafeTraceAt Core (generated number steps)

-- a run of `audit`: what it found in the input, and that a history that it found legal is safe
pub record AuditRun (source source_now : SourceView) (sink sink_now : SinkView) (status : Status) : Type 0 where
  pub end : AuditEnd
  pub is_status : status ≡ status_of_audit end
  pub audited : Audited source.left source_now.left source.faults source_now.faults sink.written sink_now.written sink.faults
      sink_now.faults end

-- how a run ends whose words are no command
abbrev pub RefusesWords : (was now : Option (List ℕ)) → Status → Type 0
RefusesWords was now exit.Usage = Appended was now usage_line
RefusesWords was now exit.WriteFault = AppendedPrefix was now usage_line
RefusesWords was now exit.NoMemory = Appended was now []
RefusesWords was now other = ⊥

-- What a run does, by the command that its words are. A command that does not read leaves the source as it was, and one that opens nothing
-- the host.
abbrev pub Does : {D L : Type 0} (d : Disks D) (l : Links L Sealed) (source source_now : SourceView) (sink sink_now : SinkView)
    (host host_now : HostView D L) → Status → Option ProgramCommand → Type 0
Does d l source source_now sink sink_now host host_now status None =
    RefusesWords sink.written sink_now.written status × (source_now ≡ source) × (host_now ≡ host)
Does d l source source_now sink sink_now host host_now status (Some (Replay level)) =
    ReplayRun level source source_now sink sink_now status × (host_now ≡ host)
Does d l source source_now sink sink_now host host_now status (Some (Inspect dir)) =
    InspectRun d dir host host_now sink sink_now status × (source_now ≡ source)
Does d l source source_now sink sink_now host host_now status (Some (Generate number steps)) =
    GenerateRun number steps sink.written sink_now.written status × (source_now ≡ source) × (host_now ≡ host)
Does d l source source_now sink sink_now host host_now status (Some (Trial words)) =
    TrialRun words host host_now sink sink_now status × (source_now ≡ source)
Does d l source source_now sink sink_now host host_now status (Some (Rescue ids)) =
    RescueRun ids source source_now sink sink_now status × (host_now ≡ host)
Does d l source source_now sink sink_now host host_now status (Some Audit) =
    AuditRun source source_now sink sink_now status × (host_now ≡ host)
Does d l source source_now sink sink_now host host_now status (Some (Node words)) =
    NodeRun d l words host host_now sink sink_now status × (source_now ≡ source)
Does d l source source_now sink sink_now host host_now status (Some (UnsafeBootstrap id dir)) =
    ToolRun d (tool.UnsafeBootstrap id) dir host host_now sink sink_now status × (source_now ≡ source)
Does d l source source_now sink sink_now host host_now status (Some (DetachCluster dir)) =
    ToolRun d tool.DetachCluster dir host host_now sink sink_now status × (source_now ≡ source)

-- how many bytes of the source are read at most: one more than a recorded trace has where the command is an audit, one more than a schedule
-- has otherwise
abbrev pub most_by : Option ProgramCommand → ℕ
most_by (Some Audit) = most_audited
most_by other = most_read

-- The whole clause: of the words, of what the source, the sink and the host told before the run and after it, and of the status. `d` and
-- `l` are what disks and links of this host tell.
pub record Ran {D L : Type 0} (d : Disks D) (l : Links L Sealed) (words : List (List ℕ)) (source source_now : SourceView)
    (sink sink_now : SinkView) (host host_now : HostView D L) (status : Status) : Type 0 where
  pub does : Does d l source source_now sink sink_now host host_now status (command_of words)
  pub read_at_most : ReadsAtMost (most_by (command_of words)) source.left source_now.left
  pub read_fault : status ≡ exit.ReadFault → Rose source.faults source_now.faults
  pub write_fault : status ≡ exit.WriteFault → Rose sink.faults sink_now.faults
  pub disk_fault : status ≡ exit.DiskFault → Failed d.faults host_now.disk_back
  pub link_fault : status ≡ exit.LinkFault → Failed l.faults host_now.link_back
  pub host_fault : status ≡ exit.HostFault → Rose host.faults host_now.faults
  pub read_later : source.faults ≤ source_now.faults
  pub wrote_later : sink.faults ≤ sink_now.faults
  pub host_later : host.faults ≤ host_now.faults
  -- each child was waited for, or the host was asked to kill it
  pub children : host_now.held ≡ host.held
