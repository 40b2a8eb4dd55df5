use Rattle.std.proofs.Common.{arith, subst, sym}
use Rattle.std.proofs.lemmas.Result.{on_ok_weaker}
use Rattle.replay_node.specs.Stands.{NodeStands}
use Rattle.replay_node.specs.Worlds.{node_world}
use Rattle.replay_node.specs.declared.node.ReplayNode.{ReplayNode}
use Rattle.schedule_replay.proofs.Lines.{not_sent}
use Rattle.schedule_replay.proofs.Movement.{here, place_inside}
use Rattle.schedule_replay.proofs.replayer.Replayer.deliver.Goals as goal

pub bounds-nodes-place : goal.bounds-nodes-place
bounds-nodes-place c = place_inside _ _ _ _ _ _ _ _ (record { is = c.as_slice.ensures.value; found = c.place_of-place.ensures; lent_is = c.as_slice-nodes.ensures.value; long = c.as_slice-nodes.ensures.len; stands = c.requires.stands })

pub returns : goal.returns
returns c = record {
  done = on_ok_weaker c.unsent.result (λ written. not_sent _ _ _ _ _ c.args.n.now c.args.ordinal (omega (arith, c.len.ensures.value)) (λ w s.
      written w (subst (λ (x : ReplayNode). NodeStands x (node_world w c.args.n.now)) (sym c.index-nodes-place.is) (here _ _ _ _ _ _ _ _ (record { is = c.as_slice.ensures.value; found = c.place_of-place.ensures; lent_is = c.as_slice-nodes.ensures.value; long = c.as_slice-nodes.ensures.len; stands = c.requires.stands }) c.index-nodes-place.result w s).1))) c.unsent.ensures;
}
