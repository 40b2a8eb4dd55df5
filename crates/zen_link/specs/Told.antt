-- Part of the statement: what a link tells: what was taken, given and dropped, in order.
use Rattle.std.specs.Prelude.{◌≡◌, ℕ, ◌+◌, ◌-◌, ◌^◌, min, Bool, true, nat_lt, ◌⊎◌, Option, None, Some, Result, Ok, Err, List, [], ◌∷◌, ◌++◌, unwrap_or, slice_get}
use Rattle.zen_disk.specs.Faults.{Rose}
use Rattle.zen_link.specs.declared.link.Input.{Input}
use Rattle.zen_link.specs.declared.link.Input.TheVariants.{Bytes, Closed, Disconnected, Tick, Stop}
use Rattle.zen_link.specs.declared.link.LinkError.{LinkError}
use Rattle.zen_link.specs.declared.link.Traffic.{Traffic}
use Rattle.zen_link.specs.declared.link.Traffic.TheVariants.{Took}

-- what is told with one more at its end, where anything is told
abbrev pub with_last : {A : Type 0} → Option (List A) → A → Option (List A)
with_last None x = None
with_last (Some xs) x = Some (xs ++ x ∷ [])

-- an input that is given was taken, and a refused call took none
abbrev pub Takes : {O : Type 0} → Option (List (Traffic O)) → Option (List (Traffic O)) → Result Input LinkError → Type 0
Takes was now (Ok input) = now ≡ with_last was (Took input)
Takes was now (Err e) = now ≡ was

-- one more is told, or at a fault nothing is told from then on
abbrev pub Adds : {A : Type 0} → Option (List A) → Option (List A) → A → ℕ → ℕ → Type 0
Adds was now x before after = (now ≡ with_last was x) ⊎ ((now ≡ None) × Rose before after)

-- a count of calls after so many more of them; it stands at the end of its type
abbrev pub counted : ℕ → ℕ → ℕ
counted before more = min (before + more) (2 ^ 64 - 1)

-- how many connections a link has at most
abbrev pub most_connections : ℕ
most_connections = 192

-- the number of its connection is below that
abbrev pub has_low_conn : Input → Bool
has_low_conn (Bytes conn bytes) = nat_lt conn most_connections
has_low_conn (Closed conn) = nat_lt conn most_connections
has_low_conn (Disconnected peer) = true
has_low_conn (Tick now word) = true
has_low_conn Stop = true

-- the input at a place of a script, and Stop after its end
abbrev pub scripted_at : List Input → ℕ → Input
scripted_at inputs at = unwrap_or (slice_get inputs at) Stop
