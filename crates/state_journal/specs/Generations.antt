-- Part of the statement: what a generation of a journal begins with.
use Rattle.std.specs.Prelude.{ℕ}
use Rattle.cluster_state.specs.declared.state.Kept.{Kept}

-- its epoch, and the record so far
pub record Generation : Type 0 where
  pub epoch : ℕ
  pub kept : Kept
