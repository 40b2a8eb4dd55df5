-- For the contracts inside: how the use of a tool on a keeper ends.
use Rattle.std.specs.Prelude.{◌≡◌, true, false, Option, None, Some, Result, Ok, Err}
use Rattle.zen_disk.specs.Faults.{Rose}
use Rattle.cluster_state.specs.declared.state.ClusterState.{ClusterState}
use Rattle.cluster_state.specs.declared.state.Kept.{Kept}
use Rattle.state_journal.specs.declared.change.Change.TheVariants.{Accepted}
use Rattle.state_journal.specs.declared.keeper.Keeper.{Ghosts}
use Rattle.node_tool.specs.declared.error.ToolError.{ToolError}
use Rattle.node_tool.specs.declared.error.ToolError.TheVariants.{NoState, Exhausted, Stopped, Memory, Disk}

module _ {K : Type 0} (k : Ghosts K) where
  -- `refusal` is the cause for which the old record is refused, and `made` the new one. Of the causes the first that holds is
  -- answered: memory is looked for last, and before anything is written.
  abbrev pub ToolEnds : (refusal : Option ToolError) (made : Kept) (old new : K) → Result (Unit {0}) ToolError → Type 0
  ToolEnds refusal made old new (Ok u) = (refusal ≡ None) × (k.has_stopped old ≡ false) × (k.has_stopped new ≡ false)
      × (k.record_of new ≡ made)
  ToolEnds refusal made old new (Err NoState) = refusal ≡ Some NoState
  ToolEnds refusal made old new (Err (Exhausted version)) = refusal ≡ Some (Exhausted version)
  ToolEnds refusal made old new (Err Stopped) = (refusal ≡ None) × (k.has_stopped old ≡ true)
  ToolEnds refusal made old new (Err Memory) = (refusal ≡ None) × (k.has_stopped old ≡ false)
  ToolEnds refusal made old new (Err Disk) = (refusal ≡ None) × (k.has_stopped old ≡ false) × (k.record_of new ≡ k.record_of old)
      × Rose (k.faults old) (k.faults new)

  -- This state was written as the accepted one, with one change. But for a write that failed, nothing is done at an error, in memory or
  -- on the disk.
  abbrev pub ToolWrites : ClusterState → (old new : K) → Result (Unit {0}) ToolError → Type 0
  ToolWrites state old new (Ok u) = k.writes old (Accepted state) new true
  ToolWrites state old new (Err Disk) = k.writes old (Accepted state) new false
  ToolWrites state old new (Err other) = new ≡ old
