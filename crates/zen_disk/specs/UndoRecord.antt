-- For the contracts inside: what the log of a file in memory holds.
use Rattle.std.specs.Prelude.{ℕ, List}

-- a write, with the bytes that it replaced
pub record Overwrite : Type 0 where
  pub at : ℕ
  pub len : ℕ
  pub replaced : List ℕ

pub data UndoRecord : Type 0 where
  Overwrote : (write : Overwrite) → UndoRecord
  Synced : UndoRecord
