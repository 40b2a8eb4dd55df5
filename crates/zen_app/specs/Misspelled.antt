-- Part of the statement: what is written where the bytes that were read are no schedule.
use Rattle.std.specs.Prelude.{◌≡◌, ℕ, Option, Some, List}
use Rattle.zen_link.specs.Streams.{Appended, AppendedPrefix}
use Rattle.schedule_text.specs.declared.fault.BadSchedule.{BadSchedule}
use Rattle.schedule_text.specs.declared.level.Level.{Level}
use Rattle.schedule_text.specs.Reading.{fault_of}
use Rattle.schedule_text.specs.FirstBad.{IsFirstBad}
use Rattle.schedule_text.specs.Printed.{bad_line}
use Rattle.zen_app.specs.Reading.{read_of}

-- What was read of the bytes is no schedule of this level, and which line is bad and why was written: some schedule has the same lines
-- before it, and none has the same lines up to it.
pub record Refused (level : Level) (bytes : List ℕ) (was now : Option (List ℕ)) : Type 0 where
  pub bad : BadSchedule
  pub fault : fault_of level (read_of bytes) ≡ Some bad
  pub first : IsFirstBad level bad.line (read_of bytes)
  pub written : Appended was now (bad_line bad)

-- the same, but only a prefix of that line was written
pub record RefusedPrefix (level : Level) (bytes : List ℕ) (was now : Option (List ℕ)) : Type 0 where
  pub bad : BadSchedule
  pub fault : fault_of level (read_of bytes) ≡ Some bad
  pub first : IsFirstBad level bad.line (read_of bytes)
  pub written : AppendedPrefix was now (bad_line bad)
