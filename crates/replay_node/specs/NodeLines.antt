-- Part of the statement: what a line that is no act makes of a node, and what it writes.
use Rattle.std.specs.Prelude.{◌≡◌, true, List, ℕ, ◌++◌, if◌then◌else◌}
use Rattle.voting_config.specs.Ids.{Id}
use Rattle.zen_disk.specs.declared.orders.Way.{Way}
use Rattle.world_model.specs.NodeState.{durable_of}
use Rattle.trace_text.specs.Trace.{crashed_line, down_line, up_line}
use Rattle.replay_node.specs.NodeDisk.{Done, opening}
use Rattle.replay_node.specs.NodeWorld.{NodeWorld, after_crash, after_opening, found_at, needs_opening, opening_text}
use Rattle.world_model.specs.Settled.{settled, is_kept}
use Rattle.replay_node.specs.Stands.{NodeStands}
use Rattle.replay_node.specs.declared.node.ReplayNode.{ReplayNode}

-- a crash between two acts; a node that is down stays as it is
abbrev pub after_stop : Way → NodeWorld → NodeWorld
after_stop way w = if w.down then w else after_crash way w

abbrev pub stop_text : Id → NodeWorld → List ℕ
stop_text me w = if w.down then down_line me else crashed_line me

-- a restart opens the journal where the node is down or its disk has failed
abbrev pub after_restart : NodeWorld → NodeWorld
after_restart w = if needs_opening w then after_opening w else w

abbrev pub restart_text : Id → NodeWorld → List ℕ
restart_text me w = if needs_opening w then opening_text (opening w.disk).ended me (found_at w) else up_line me

-- an opening that succeeds finds the record that the node keeps
abbrev pub FindsKept : NodeWorld → Type 0
FindsKept w = needs_opening w ≡ true → (opening w.disk).ended ≡ Done
    → found_at w ≡ durable_of (settled (is_kept w.acts (found_at w)) w.acts)

-- a line: whatever the node stood for, it stands for that after the line, and the line's results were written
pub record DoesLine (old new : ReplayNode) (after : NodeWorld → NodeWorld) (results : NodeWorld → List ℕ) (was now : List ℕ) : Type 0 where
  pub me : new.me ≡ old.me
  pub stands : (w : NodeWorld) → NodeStands old w → NodeStands new (after w)
  pub written : (w : NodeWorld) → NodeStands old w → now ≡ was ++ results w
