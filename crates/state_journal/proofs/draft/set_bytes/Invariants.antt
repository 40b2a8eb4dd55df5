use Rattle.std.proofs.Common.{◌≡◌, ◌≤◌, ◌+◌, ◌*◌, ◌∷◌, length, take}
use Rattle.std.specs.List.{flat_map}
use Rattle.arrayvec.specs.ArrayVec.{array_vec_len}
use Rattle.cluster_state.specs.Fields.{id}
use Rattle.state_journal.proofs.draft.set_bytes.Given as goal

abbrev pub invariant-loop-node : goal.invariant-loop-node
invariant-loop-node l = record {
  items : l.out.items ≡ length l.set ∷ flat_map id.spelling (take l.node-index l.set);
  room : array_vec_len l.out ≤ 1 + 33 * l.node-index;
}
