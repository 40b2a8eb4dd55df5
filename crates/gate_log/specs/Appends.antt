-- For the contracts inside: what the calls that write to a journal answer, and what they leave.
use Rattle.std.specs.Prelude.{◌≡◌, ◌↔◌, ◌≤◌, ℕ, List, Result, true, false, is_ok, OnOk, IsErr, IsErrOf}
use Rattle.zen_disk.specs.declared.disks.Disks.{Ghosts}
use Rattle.zen_disk.specs.Faults.{Rose}
use Rattle.zen_disk.specs.Moments.{LeavesOnly}
use Rattle.zen_disk.specs.Runs.{CallsMade}
use Rattle.gate_log.specs.Calls.{append_calls}
use Rattle.gate_log.specs.Errors.{CalledDisk}
use Rattle.gate_log.specs.Generations.{appended, standing_in, IsAppended}
use Rattle.gate_log.specs.Journal.{framed}
use Rattle.gate_log.specs.declared.error.AppendError.{AppendError}
use Rattle.gate_log.specs.declared.error.AppendError.TheVariants.{Stopped, Disk}
use Rattle.gate_log.specs.declared.log.GateLog.{GateLog}

-- Whether it halts, and with which cause. A call that is refused before it calls the disk changes nothing.
pub record Answers {D T : Type 0} (disks : Ghosts D) (old new : GateLog D disks) (result : Result T AppendError) : Type 0 where
  pub stopped : IsErrOf result Stopped ↔ (old.stopped ≡ true)
  pub cause : IsErrOf result Disk → Rose (disks.faults old.disk) (disks.faults new.disk)
  pub later : disks.faults old.disk ≤ disks.faults new.disk
  pub stops : IsErrOf result Disk → new.stopped ≡ true
  pub goes_on : OnOk result (new.stopped ≡ false)
  pub refused : IsErr result → (IsErrOf result Disk → ⊥) → new ≡ old

-- A body is added to those in use. A crash at any moment of the call leaves them, with the new one or without.
pub record Appends {D T : Type 0} (disks : Ghosts D) (body : List ℕ) (old new : GateLog D disks)
    (result : Result T AppendError) : Type 0 where
  pub answers : Answers disks old new result
  pub ok : disks.told → OnOk result (standing_in (disks.seen new.disk) ≡ appended (standing_in (disks.seen old.disk)) body)
  pub any_moment : disks.told → old.stopped ≡ false
      → LeavesOnly disks.moment disks.left_since old.disk new.disk (IsAppended (standing_in (disks.seen old.disk)) body)
  -- these device calls and no others
  pub ran : CalledDisk result → CallsMade disks.moves (append_calls old.side old.gate (framed body)) old.disk new.disk (is_ok result)
