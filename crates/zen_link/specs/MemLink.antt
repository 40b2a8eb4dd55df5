-- For the contracts inside: what a link in memory tells, what it gives, and which of its calls fail.
use Rattle.std.specs.Prelude.{◌≡◌, Bool, true, false, Option, Some, None, Result, Ok, Err, List, if◌then◌else◌, IfOk, is_ok}
use Rattle.zen_disk.specs.Numbered.{next_number, is_listed}
use Rattle.zen_link.specs.Told.{scripted_at}
use Rattle.zen_link.specs.declared.link.Input.{Input}
use Rattle.zen_link.specs.declared.link.LinkError.{LinkError}
use Rattle.zen_link.specs.declared.link.LinkError.TheVariants.{Failed, Memory}
use Rattle.zen_link.specs.declared.link.Traffic.{Traffic}
use Rattle.zen_link.specs.declared.mem_link.MemLink.{MemLink}

abbrev pub told_of : {O : Type 0} → MemLink O → Option (List (Traffic O))
told_of link = if link.tells then Some link.traffic.items else None

abbrev pub is_failed : Result Input LinkError → Bool
is_failed (Ok input) = false
is_failed (Err Failed) = true
is_failed (Err Memory) = false

-- A call fails exactly where its number is listed, and only one that fails counts a fault. What is given is the input whose turn it is, and
-- then it is the turn of the next one.
pub record MemNexts {O : Type 0} (old new : MemLink O) (result : Result Input LinkError) : Type 0 where
  pub number : new.calls ≡ next_number old.calls
  pub fails : new.fails ≡ old.fails
  pub script : new.script ≡ old.script
  pub failed : is_failed result ≡ is_listed old.fails.items new.calls
  pub given : IfOk result (λ input. input ≡ scripted_at old.script.items old.at)
  pub place : new.at ≡ (if is_ok result then next_number old.at else old.at)
  pub faults : is_failed result ≡ false → new.faults ≡ old.faults
