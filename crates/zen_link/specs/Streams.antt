-- Part of the statement: what a source has left, and what was written to a sink.
use Rattle.std.specs.Prelude.{◌≡◌, ℕ, ◌<◌, ◌≤◌, Option, None, Some, Result, Ok, Err, List, [], ◌++◌, length, take, drop}
use Rattle.zen_link.specs.declared.stream.Failed.{Failed}

-- where the sink tells what was written, these bytes were added
abbrev pub Appended : Option (List ℕ) → Option (List ℕ) → List ℕ → Type 0
Appended None now bytes = now ≡ None
Appended (Some was) now bytes = now ≡ Some (was ++ bytes)

-- a prefix of the bytes was added
pub record AppendedPrefix (was now : Option (List ℕ)) (bytes : List ℕ) : Type 0 where
  pub prefix : List ℕ
  pub rest : List ℕ
  pub whole : prefix ++ rest ≡ bytes
  pub appended : Appended was now prefix

-- a prefix of the bytes was added, and not all of them
pub record AppendedPart (was now : Option (List ℕ)) (bytes : List ℕ) : Type 0 where
  pub prefix : AppendedPrefix was now bytes
  pub unwritten : prefix.rest ≡ [] → ⊥

-- a write takes a prefix of the bytes, which is not empty where they are not; a refused one takes none
abbrev pub Writes : Option (List ℕ) → Option (List ℕ) → List ℕ → Result ℕ Failed → Type 0
Writes was now bytes (Ok count) = (count ≤ length bytes) × (0 < length bytes → 0 < count) × Appended was now (take count bytes)
Writes was now bytes (Err e) = Appended was now []

-- all of the bytes were written, or at an error a prefix of them
abbrev pub WritesAll : {E : Type 0} → Option (List ℕ) → Option (List ℕ) → List ℕ → Result (Unit {0}) E → Type 0
WritesAll was now bytes (Ok u) = Appended was now bytes
WritesAll was now bytes (Err e) = AppendedPrefix was now bytes

-- where the source tells what is left, the read took a prefix of it, and nothing only at its end
abbrev pub Left : Option (List ℕ) → Option (List ℕ) → (into : List ℕ) → (count : ℕ) → Type 0
Left None now into count = now ≡ None
Left (Some was) now into count = (take count into ≡ take count was) × (now ≡ Some (drop count was)) × (count ≤ length was)
    × (0 < length into → count ≡ 0 → was ≡ [])

-- a read fills a prefix of the buffer; a refused one takes nothing
abbrev pub Reads : Option (List ℕ) → Option (List ℕ) → (into : List ℕ) → Result ℕ Failed → Type 0
Reads was now into (Ok count) = (count ≤ length into) × Left was now into count
Reads was now into (Err e) = now ≡ was
