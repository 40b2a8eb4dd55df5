-- Part of the statement: how much of a source is read. What follows ReadsAtMost is for the contracts inside.
use Rattle.std.specs.Prelude.{◌≡◌, ℕ, ◌+◌, ◌≤◌, Option, None, Some, List, [], ◌++◌, length, take, drop}

-- so many bytes were read at most
abbrev pub ReadsAtMost : ℕ → Option (List ℕ) → Option (List ℕ) → Type 0
ReadsAtMost most None now = now ≡ None
ReadsAtMost most (Some left) now = (count : ℕ) × (count ≤ most) × (now ≡ Some (drop count left))

-- ---- reading, piece by piece

-- where the source told what was left, this was read of it: all, or this many bytes
abbrev pub IsInput : ℕ → Option (List ℕ) → Option (List ℕ) → List ℕ → Type 0
IsInput most None now bytes = Unit {0}
IsInput most (Some left) now bytes = (bytes ≡ take most left) × (now ≡ Some (drop most left))

-- one more piece was read and added: a prefix of what was left, and nothing only where nothing was left
pub record PieceRead (left : List ℕ) (now : Option (List ℕ)) (before after : List ℕ) (count : ℕ) : Type 0 where
  pub added : after ≡ before ++ take count left
  pub rest : now ≡ Some (drop count left)
  pub within : count ≤ length left
  pub end : count ≡ 0 → left ≡ []

abbrev pub ReadsPiece : Option (List ℕ) → Option (List ℕ) → (before after : List ℕ) → ℕ → Type 0
ReadsPiece None now before after count = now ≡ None
ReadsPiece (Some left) now before after count = PieceRead left now before after count

pub record IsReadOn (was now : Option (List ℕ)) (before after : List ℕ) (count : ℕ) : Type 0 where
  pub longer : length after ≡ length before + count
  pub piece : ReadsPiece was now before after count

-- where the source told what was left, this was read of it so far
abbrev pub IsReadSoFar : Option (List ℕ) → Option (List ℕ) → List ℕ → Type 0
IsReadSoFar None now bytes = now ≡ None
IsReadSoFar (Some left) now bytes =
    (bytes ≡ take (length bytes) left) × (now ≡ Some (drop (length bytes) left)) × (length bytes ≤ length left)
