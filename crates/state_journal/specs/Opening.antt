-- Part of the statement: what a refused opening says.
use Rattle.std.specs.Prelude.{◌≡◌, List, ℕ, Bool, true, false, Result, Ok, Err}
use Rattle.zen_disk.specs.DeviceCall.{DeviceCall}
use Rattle.zen_disk.specs.Faults.{Rose}
use Rattle.zen_disk.specs.Runs.{CallsMade}
use Rattle.zen_disk.specs.Sides.{Files}
use Rattle.zen_disk.specs.declared.side.Side.TheVariants.{Zero, One}
use Rattle.gate_log.specs.Calls.{opening_calls, both_opening_calls}
use Rattle.gate_log.specs.Generations.{Generations, generations_of}
use Rattle.gate_log.specs.Opening.{RanPartly}
use Rattle.gate_log.specs.declared.why.Why.{Why as LogWhy}
use Rattle.gate_log.specs.declared.why.Why.TheVariants.{At, Twin}
use Rattle.gate_log.specs.declared.error.LogError.{LogError}
use Rattle.gate_log.specs.declared.error.LogError.TheVariants as log
use Rattle.state_journal.specs.Journal.{found_of, why_by}
use Rattle.state_journal.specs.declared.error.OpenError.{OpenError}
use Rattle.state_journal.specs.declared.error.OpenError.TheVariants.{NotAJournal, Disk, Memory}

-- the disk that is handed back
abbrev pub handed_back : {D : Type 0} → OpenError D → D
handed_back (NotAJournal why d) = d
handed_back (Disk d) = d
handed_back (Memory d) = d

-- it is the first fault of the files
abbrev pub IsWhyOf : {D : Type 0} → Files → OpenError D → Type 0
IsWhyOf files (NotAJournal why d) = found_of files ≡ Err why
IsWhyOf files (Disk d) = Unit {0}
IsWhyOf files (Memory d) = Unit {0}

-- the disk failed since
abbrev pub RoseIfDisk : {D : Type 0} → (D → ℕ) → ℕ → OpenError D → Type 0
RoseIfDisk faults before (NotAJournal why d) = Unit {0}
RoseIfDisk faults before (Disk d) = Rose before (faults d)
RoseIfDisk faults before (Memory d) = Unit {0}

-- where side zero is not laid out as a journal is, side one is not called
abbrev pub calls_until : Result Generations LogWhy → Files → List DeviceCall
calls_until (Err (At Zero fault)) files = opening_calls Zero files.zero
calls_until (Err (At One fault)) files = both_opening_calls files
calls_until (Err Twin) files = both_opening_calls files
calls_until (Ok generations) files = both_opening_calls files

-- The calls of an opening were made up to the one that failed. Memory may be wanting before each read or after it.
abbrev pub RanUntil : {D : Type 0} → (D → DeviceCall → D → Bool → Type 0) → Files → D → OpenError D → Type 0
RanUntil moves files disk (NotAJournal why d) = CallsMade moves (calls_until (generations_of files) files) disk d true
RanUntil moves files disk (Disk d) = CallsMade moves (both_opening_calls files) disk d false
RanUntil moves files disk (Memory d) = RanPartly moves (both_opening_calls files) disk d

-- the same refusal
abbrev pub error_by : {D : Type 0} → LogError D → OpenError D
error_by (log.NotAJournal why d) = NotAJournal (why_by why) d
error_by (log.Disk d) = Disk d
error_by (log.Memory d) = Memory d
