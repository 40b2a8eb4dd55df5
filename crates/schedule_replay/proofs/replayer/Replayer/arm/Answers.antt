use Rattle.std.proofs.Common.{[], append-nil, sym}
use Rattle.replay_node.specs.NodeWorld.{after_order}
use Rattle.replay_node.specs.Worlds.{ordered}
use Rattle.replay_node.proofs.Moves.{moves_ordered}
use Rattle.schedule_replay.proofs.Lines.{moved}
use Rattle.schedule_replay.proofs.Movement.{place_inside}
use Rattle.schedule_replay.proofs.WorldSteps.{armed}
use Rattle.schedule_replay.proofs.replayer.Replayer.arm.Goals as goal

pub bounds-nodes-place : goal.bounds-nodes-place
bounds-nodes-place c = place_inside _ _ _ _ _ _ _ _ (record { is = c.as_slice.ensures.value; found = c.place_of-place.ensures; lent_is = c.as_mut_slice-nodes.ensures.value; long = c.as_mut_slice-nodes.ensures.len; stands = c.requires.stands })

pub returns : goal.returns
returns c = record {
  done = λ text. moved _ _ _ _ _ _ _ _ (record { is = c.as_slice.ensures.value; found = c.place_of-place.ensures; lent_is = c.as_mut_slice-nodes.ensures.value; long = c.as_mut_slice-nodes.ensures.len; stands = c.requires.stands }) c.index-nodes-place.result _ text text
      (after_order c.args.order) (λ me x. []) (λ w. ordered w c.args.n c.args.order) (moves_ordered c.args.n c.args.order) (λ w new s stand. armed _ _ _ _ w c.args.n c.args.order s stand)
      (record { me = c.arm.ensures.me; stands = c.arm.ensures.stands; written = λ x stands. sym (append-nil text) });
}
