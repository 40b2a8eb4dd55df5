-- For the contracts inside: how a write of a keeper ends.
use Rattle.std.specs.Prelude.{ℕ, ◌≡◌, Bool, true, false, Result, Ok, Err}
use Rattle.zen_disk.specs.Faults.{Rose}
use Rattle.state_journal.specs.declared.keeper.KeepError.{KeepError}
use Rattle.state_journal.specs.declared.keeper.KeepError.TheVariants.{Stopped, Disk}

-- K is what is kept: `before` the write and `now`, `wanted` being what the write is to make of it
abbrev pub WriteEnds : {K : Type 0} → (stopped_before : Bool) → (before wanted : K) → (faults_before faults_now : ℕ) → (stopped_now : Bool)
    → (now : K) → Result (Unit {0}) KeepError → Type 0
WriteEnds stopped_before before wanted faults_before faults_now stopped_now now (Ok u) = (stopped_before ≡ false) × (stopped_now ≡ false)
    × (now ≡ wanted)
WriteEnds stopped_before before wanted faults_before faults_now stopped_now now (Err Stopped) = (stopped_before ≡ true)
    × (stopped_now ≡ true) × (now ≡ before)
WriteEnds stopped_before before wanted faults_before faults_now stopped_now now (Err Disk) = (stopped_before ≡ false) × (stopped_now ≡ true)
    × (now ≡ before) × Rose faults_before faults_now
