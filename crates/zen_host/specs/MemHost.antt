-- For the contracts inside: which calls of a host in memory fail, and how its children end.
use Rattle.std.specs.Prelude.{◌≡◌, ◌⊎◌, ◌-◌, ◌^◌, ℕ, true, false, Option, None, Some, List, [], ◌∷◌, Result, Ok, Err, IfOk, is_ok}
use Rattle.zen_disk.specs.Numbered.{next_number, is_listed}
use Rattle.zen_host.specs.declared.host.Ended.{Ended}
use Rattle.zen_host.specs.declared.host.HostError.{HostError}
use Rattle.zen_host.specs.declared.host.HostError.TheVariants.{Failed, Memory}
use Rattle.zen_host.specs.declared.mem_host.MemChild.{MemChild}

-- Of the numbers of calls that fail, of the number of the last call, of the disk or the link to give and of the count of faults, before an
-- opening and after it. A call whose number is listed gives none, and another gives the host's: it fails only where there is none. Only a
-- call that fails counts a fault.
pub record MemOpens {D : Type 0} (fails fails_now : List ℕ) (number number_now : ℕ) (ready ready_now : Option D) (faults faults_now : ℕ)
    (result : Result D HostError) : Type 0 where
  pub next : number_now ≡ next_number number
  pub same_list : fails_now ≡ fails
  pub listed : is_listed fails number_now ≡ true → is_ok result ≡ false
  pub given : IfOk result (λ given. ready ≡ Some given)
  pub refused : result ≡ Err Failed → (is_listed fails number_now ≡ true) ⊎ (ready ≡ None)
  pub kept : result ≡ Err Memory → ready_now ≡ ready
  pub no_fault : (result ≡ Err Failed → ⊥) → faults_now ≡ faults

-- Of the numbers of calls that fail, of the number of the last call and of the count of faults, before a call and after it. A call whose
-- number is listed is refused, and another only for this cause. Only a call that fails counts a fault.
pub record MemAsks {T : Type 0} (fails fails_now : List ℕ) (number number_now : ℕ) (faults faults_now : ℕ) (cause : Type 0)
    (result : Result T HostError) : Type 0 where
  pub next : number_now ≡ next_number number
  pub same_list : fails_now ≡ fails
  pub listed : is_listed fails number_now ≡ true → is_ok result ≡ false
  pub refused : result ≡ Err Failed → (is_listed fails number_now ≡ true) ⊎ cause
  pub no_fault : (result ≡ Err Failed → ⊥) → faults_now ≡ faults

-- the first of the ends that are left is the child's
abbrev pub IsTaken : List Ended → List Ended → Result MemChild HostError → Type 0
IsTaken ends ends_now (Ok child) = ends ≡ child.ended ∷ ends_now
IsTaken ends ends_now (Err e) = ends_now ≡ ends

-- a child is given, unless no end is left or as many children run as are counted
pub record MemSpawns (fails fails_now : List ℕ) (number number_now : ℕ) (ends ends_now : List Ended) (running : ℕ) (faults faults_now : ℕ)
    (result : Result MemChild HostError) : Type 0 where
  pub asks : MemAsks fails fails_now number number_now faults faults_now ((ends ≡ []) ⊎ (running ≡ 2 ^ 64 - 1)) result
  pub taken : IsTaken ends ends_now result

-- a child ends as it is to
pub record MemWaits {E : Type 0} (fails fails_now : List ℕ) (number number_now : ℕ) (ends ends_now : E) (child : MemChild)
    (faults faults_now : ℕ) (result : Result Ended HostError) : Type 0 where
  pub asks : MemAsks fails fails_now number number_now faults faults_now ⊥ result
  pub given : IfOk result (λ ended. ended ≡ child.ended)
  pub kept : ends_now ≡ ends

pub record MemKills {E : Type 0} (fails fails_now : List ℕ) (number number_now : ℕ) (ends ends_now : E) (faults faults_now : ℕ)
    (result : Result (Unit {0}) HostError) : Type 0 where
  pub asks : MemAsks fails fails_now number number_now faults faults_now ⊥ result
  pub kept : ends_now ≡ ends
