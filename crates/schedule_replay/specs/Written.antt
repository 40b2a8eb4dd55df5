-- For the contracts inside: what a replay has written.
use Rattle.std.specs.Prelude.{ℕ, Option, Result, Ok, Err, List}
use Rattle.zen_link.specs.Streams.{Appended, AppendedPrefix}

-- all of the trace, or at an error a prefix of it
abbrev pub WritesTrace : {A E : Type 0} → Option (List ℕ) → Option (List ℕ) → List ℕ → Result A E → Type 0
WritesTrace was now trace (Ok x) = Appended was now trace
WritesTrace was now trace (Err e) = AppendedPrefix was now trace
