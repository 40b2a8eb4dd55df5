use Rattle.std.proofs.lemmas.Result.{on_ok_weaker}
use Rattle.replay_node.specs.NodeLines.{after_stop, stop_text}
use Rattle.replay_node.specs.Worlds.{crashed}
use Rattle.replay_node.proofs.Moves.{moves_crashed}
use Rattle.schedule_replay.proofs.Lines.{moved}
use Rattle.schedule_replay.proofs.Movement.{place_inside}
use Rattle.schedule_replay.proofs.WorldSteps.{stopped}
use Rattle.schedule_replay.proofs.replayer.Replayer.crash.Goals as goal

pub bounds-nodes-place : goal.bounds-nodes-place
bounds-nodes-place c = place_inside _ _ _ _ _ _ _ _ (record { is = c.as_slice.ensures.value; found = c.place_of-place.ensures; lent_is = c.as_mut_slice-nodes.ensures.value; long = c.as_mut_slice-nodes.ensures.len; stands = c.requires.stands })

pub returns : goal.returns
returns c = record {
  done = on_ok_weaker c.crash.result (moved _ _ _ _ _ _ _ _ (record { is = c.as_slice.ensures.value; found = c.place_of-place.ensures; lent_is = c.as_mut_slice-nodes.ensures.value; long = c.as_mut_slice-nodes.ensures.len; stands = c.requires.stands }) c.index-nodes-place.result _ _ _
      (after_stop c.args.way) stop_text (λ w. crashed w c.args.n c.args.way) (moves_crashed c.args.n c.args.way) (λ w new s stand. stopped _ _ _ _ w c.args.n c.args.way s stand)) c.crash.ensures;
}
