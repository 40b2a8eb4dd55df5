-- Part of the statement: the exit status that stands for each end of a run. It is also the statement of `Status::code`.
use Rattle.std.specs.Prelude.{ℕ}
use Rattle.node_tool.specs.declared.running.ToolEnd.{ToolEnd}
use Rattle.node_tool.specs.declared.running.ToolEnd.TheVariants as tool
use Rattle.node_trial.specs.declared.running.TrialEnd.{TrialEnd}
use Rattle.node_trial.specs.declared.running.TrialEnd.TheVariants as trial
use Rattle.trace_audit.specs.declared.running.AuditEnd.{AuditEnd}
use Rattle.trace_audit.specs.declared.running.AuditEnd.TheVariants as audited
use Rattle.zen_app.specs.declared.status.Status.{Status}
use Rattle.zen_app.specs.declared.status.Status.TheVariants as exit
use Rattle.journal_inspection.specs.declared.inspecting.Inspection.{Inspection}
use Rattle.journal_inspection.specs.declared.inspecting.Inspection.TheVariants as end

abbrev pub code_of : Status → ℕ
code_of exit.Ok = 0
code_of exit.Usage = 2
code_of exit.BadSchedule = 3
code_of exit.NoMemory = 4
code_of exit.ReadFault = 5
code_of exit.WriteFault = 6
code_of exit.DiskFault = 7
code_of exit.LinkFault = 8
code_of exit.HostFault = 9
code_of exit.NotAJournal = 10
code_of exit.Turns = 11
code_of exit.TrialFailed = 12
code_of exit.RescueRefused = 13
code_of exit.NotLegal = 14
code_of exit.BadTrace = 15
code_of exit.ToolRefused = 16

-- the status with which a run of `inspect` ends
abbrev pub status_of : Inspection → Status
status_of end.Done = exit.Ok
status_of end.NotAJournal = exit.NotAJournal
status_of end.NoMemory = exit.NoMemory
status_of end.WriteFault = exit.WriteFault
status_of end.DiskFault = exit.DiskFault
status_of end.HostFault = exit.HostFault

-- the status with which a run of `trial` ends
abbrev pub status_of_trial : TrialEnd → Status
status_of_trial trial.Done = exit.Ok
status_of_trial trial.TrialFailed = exit.TrialFailed
status_of_trial trial.NoMemory = exit.NoMemory
status_of_trial trial.WriteFault = exit.WriteFault
status_of_trial trial.HostFault = exit.HostFault

-- the status with which a run of a tool ends
abbrev pub status_of_tool : ToolEnd → Status
status_of_tool tool.Done = exit.Ok
status_of_tool tool.Refused = exit.ToolRefused
status_of_tool tool.NotAJournal = exit.NotAJournal
status_of_tool tool.NoMemory = exit.NoMemory
status_of_tool tool.WriteFault = exit.WriteFault
status_of_tool tool.DiskFault = exit.DiskFault
status_of_tool tool.HostFault = exit.HostFault

-- the status with which a run of `audit` ends
abbrev pub status_of_audit : AuditEnd → Status
status_of_audit audited.Legal = exit.Ok
status_of_audit audited.NotLegal = exit.NotLegal
status_of_audit audited.BadTrace = exit.BadTrace
status_of_audit audited.NoMemory = exit.NoMemory
status_of_audit audited.ReadFault = exit.ReadFault
status_of_audit audited.WriteFault = exit.WriteFault
