-- A refused append that called the disk.
use Rattle.std.proofs.Common.{Ok, Err, refl}
use Rattle.std.specs.Prelude.{Result, IsErr, IsErrOf}
use Rattle.gate_log.specs.Errors.{CalledDisk}
use Rattle.gate_log.specs.declared.error.AppendError.{AppendError}
use Rattle.gate_log.specs.declared.error.AppendError.TheVariants.{Stopped, TooLong, Memory, Disk}

pub only_disk : (r : Result (Unit {0}) AppendError) → (IsErrOf r Stopped → ⊥) → (IsErrOf r TooLong → ⊥) → (IsErrOf r Memory → ⊥) → IsErr r → IsErrOf r Disk
only_disk (Ok u) not_stopped not_long not_memory is = absurd cc
only_disk (Err Stopped) not_stopped not_long not_memory is = absurd (not_stopped refl)
only_disk (Err TooLong) not_stopped not_long not_memory is = absurd (not_long refl)
only_disk (Err Memory) not_stopped not_long not_memory is = absurd (not_memory refl)
only_disk (Err Disk) not_stopped not_long not_memory is = refl

pub called : (r : Result (Unit {0}) AppendError) → (IsErrOf r Stopped → ⊥) → (IsErrOf r TooLong → ⊥) → (IsErrOf r Memory → ⊥) → CalledDisk r
called (Ok u) not_stopped not_long not_memory = tt
called (Err Stopped) not_stopped not_long not_memory = not_stopped refl
called (Err TooLong) not_stopped not_long not_memory = not_long refl
called (Err Memory) not_stopped not_long not_memory = not_memory refl
called (Err Disk) not_stopped not_long not_memory = tt
