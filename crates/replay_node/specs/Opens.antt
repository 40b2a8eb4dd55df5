-- For the contracts inside: what an opening of a node's journal makes of the node.
use Rattle.std.specs.Prelude.{◌≡◌, ℕ, Option, None, Some, List, ◌++◌}
use Rattle.voting_config.specs.Ids.{Id}
use Rattle.zen_disk.specs.declared.orders.Struck.{Struck}
use Rattle.zen_disk.specs.declared.orders.Struck.TheVariants.{Stop, Fault}
use Rattle.world_model.specs.NodeState.{durable_of}
use Rattle.trace_text.specs.Trace.{crashed_line, disk_line}
use Rattle.replay_node.specs.NodeDisk.{Done, opening, MemFuse, DiskStands, Restarted}
use Rattle.replay_node.specs.NodeWorld.{NodeWorld, after_opening, found_at, opening_text}
use Rattle.world_model.specs.Settled.{settled, is_kept}
use Rattle.replay_node.specs.Stands.{LeavesActs, SlotStands}
use Rattle.replay_node.specs.declared.node.Slot.{Slot}

-- the disk of a node whose journal is closed
pub record ClosedStands (fuse : MemFuse) (w : NodeWorld) : Type 0 where
  pub disk : DiskStands fuse w.disk
  pub left : LeavesActs fuse w.acts

-- an opening of this disk leaves this slot, and its results were written
pub record Opens (me : Id) (fuse : MemFuse) (new : Slot) (was now : List ℕ) (w : NodeWorld) : Type 0 where
  pub stands : SlotStands me new (after_opening w)
  pub written : now ≡ was ++ opening_text (opening w.disk).ended me (found_at w)
  pub finds : (opening w.disk).ended ≡ Done → found_at w ≡ durable_of (settled (is_kept w.acts (found_at w)) w.acts)

-- an opening that this struck leaves the node down with this disk
abbrev pub StaysDown : Option Struck → Id → (fuse again : MemFuse) → (was now : List ℕ) → Type 0
StaysDown None me fuse again was now = ⊥
StaysDown (Some Fault) me fuse again was now = (again ≡ fuse) × (now ≡ was ++ disk_line me)
StaysDown (Some Stop) me fuse again was now = Restarted fuse again × (now ≡ was ++ crashed_line me)
