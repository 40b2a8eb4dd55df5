use Rattle.std.proofs.Common.{ap, refl}
use Rattle.std.specs.declared.vec.Vec.{Vec}
use Rattle.std.specs.declared.alloc.Global.{Global}
use Rattle.replay_node.specs.declared.node.ReplayNode.{ReplayNode}
use Rattle.schedule_replay.proofs.Lines.{act_done}
use Rattle.schedule_replay.proofs.Movement.{place_inside}
use Rattle.schedule_replay.proofs.replayer.Replayer.set_initial.Goals as goal

pub bounds-nodes-place : goal.bounds-nodes-place
bounds-nodes-place c = place_inside _ _ _ _ _ _ _ _ (record { is = c.as_slice-2.ensures.value; found = c.place_of-place.ensures; lent_is = c.as_mut_slice-nodes.ensures.value; long = c.as_mut_slice-nodes.ensures.len; stands = c.requires.stands })

pub returns : goal.returns
returns c = record {
  done = act_done _ _ _ _ _ _ _ _ (record { is = c.as_slice-2.ensures.value; found = c.place_of-place.ensures; lent_is = c.as_mut_slice-nodes.ensures.value; long = c.as_mut_slice-nodes.ensures.len; stands = c.requires.stands }) c.index-nodes-place.result c.set_initial.new.self c.finish.result _ _ _ _ _ _ _ _ c.in_ok-did.did c.in_ok-did.ensures refl
      (ap (λ (v : Vec ReplayNode Global). v.items) c.finish.ensures.nodes) c.finish.ensures.sent c.requires.listed tt c.clear.ensures (rw c.as_slice.ensures.value at c.in_ok-write_boot.ensures) c.finish.ensures.written;
}
