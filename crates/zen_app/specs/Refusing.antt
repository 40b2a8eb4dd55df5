-- For the contracts inside: how writing the one line that refuses an input ends, which is to end with the status `done`.
use Rattle.std.specs.Prelude.{◌≡◌, ℕ, ◌≤◌, ◌⊎◌, Option, List, []}
use Rattle.zen_disk.specs.Faults.{Rose}
use Rattle.zen_link.specs.Streams.{Appended, AppendedPrefix}
use Rattle.zen_app.specs.declared.status.Status.{Status}
use Rattle.zen_app.specs.declared.status.Status.TheVariants as exit

pub record Refusal (was now : Option (List ℕ)) (wrote wrote_now : ℕ) (line : List ℕ) (done status : Status) : Type 0 where
  pub refused : (status ≡ done) ⊎ ((status ≡ exit.WriteFault) ⊎ (status ≡ exit.NoMemory))
  pub whole : status ≡ done → Appended was now line
  pub cut : status ≡ exit.WriteFault → AppendedPrefix was now line × Rose wrote wrote_now
  pub nothing : status ≡ exit.NoMemory → Appended was now []
  pub later : wrote ≤ wrote_now
