-- For the contracts inside: what the parts of `run` say.
use Rattle.std.specs.Prelude.{◌≡◌, ℕ, ◌<◌, ◌≤◌, Option, List, length}
use Rattle.zen_disk.specs.Faults.{Rose}
use Rattle.schedule_text.specs.declared.level.Level.{Level}
use Rattle.command_line.specs.declared.command.ProgramCommand.{ProgramCommand}
use Rattle.command_line.specs.declared.command.ProgramCommand.TheVariants.{Replay, Inspect, Node, Generate, Trial, Rescue, UnsafeBootstrap, DetachCluster, Audit}
use Rattle.command_line.specs.Commands.{most_steps}
use Rattle.zen_app.specs.Ran.{ReplayRun, RefusesWords}
use Rattle.zen_link.specs.Reading.{ReadsAtMost}
use Rattle.voting_config.specs.Ids.{Id}
use Rattle.zen_app.specs.Reading.{most_read}
use Rattle.zen_app.specs.RescueRuns.{RescueRun}
use Rattle.zen_link.specs.Views.{SourceView, SinkView}
use Rattle.zen_app.specs.declared.status.Status.{Status}
use Rattle.zen_app.specs.declared.status.Status.TheVariants as exit

-- the numbers and the list of a command's words are within their bounds
abbrev pub IsWithin : ProgramCommand → Type 0
IsWithin (Replay level) = Unit {0}
IsWithin (Inspect dir) = Unit {0}
IsWithin (Node words) = Unit {0}
IsWithin (Generate number steps) = steps ≤ most_steps
IsWithin (Trial words) = (1 ≤ words.port) × (words.port ≤ 65533)
IsWithin (UnsafeBootstrap id dir) = Unit {0}
IsWithin (DetachCluster dir) = Unit {0}
IsWithin (Rescue ids) = 0 < length ids
IsWithin Audit = Unit {0}

-- words that are no command
pub record UsageRun (was now : Option (List ℕ)) (wrote wrote_now : ℕ) (status : Status) : Type 0 where
  pub refuses : RefusesWords was now status
  pub write_fault : status ≡ exit.WriteFault → Rose wrote wrote_now
  pub later : wrote ≤ wrote_now

-- a replay, and the faults that it met
pub record ReplayEnded (level : Level) (source source_now : SourceView) (sink sink_now : SinkView) (status : Status) : Type 0 where
  pub run : ReplayRun level source source_now sink sink_now status
  pub read_at_most : ReadsAtMost most_read source.left source_now.left
  pub read_fault : status ≡ exit.ReadFault → Rose source.faults source_now.faults
  pub write_fault : status ≡ exit.WriteFault → Rose sink.faults sink_now.faults
  pub read_later : source.faults ≤ source_now.faults
  pub wrote_later : sink.faults ≤ sink_now.faults

-- a rescue, and the faults that it met
pub record RescueEnded (ids : List Id) (source source_now : SourceView) (sink sink_now : SinkView) (status : Status) : Type 0 where
  pub run : RescueRun ids source source_now sink sink_now status
  pub read_at_most : ReadsAtMost most_read source.left source_now.left
  pub read_fault : status ≡ exit.ReadFault → Rose source.faults source_now.faults
  pub write_fault : status ≡ exit.WriteFault → Rose sink.faults sink_now.faults
  pub read_later : source.faults ≤ source_now.faults
  pub wrote_later : sink.faults ≤ sink_now.faults
