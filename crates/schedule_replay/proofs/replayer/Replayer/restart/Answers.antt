use Rattle.std.proofs.lemmas.Result.{on_ok_weaker}
use Rattle.replay_node.specs.NodeLines.{after_restart, restart_text}
use Rattle.replay_node.specs.Worlds.{node_world, restarted}
use Rattle.replay_node.proofs.Moves.{moves_restarted}
use Rattle.schedule_replay.proofs.Lines.{moved}
use Rattle.schedule_replay.proofs.Movement.{here, place_inside}
use Rattle.schedule_replay.proofs.WorldSteps.{reopened}
use Rattle.schedule_replay.proofs.replayer.Replayer.restart.Goals as goal

pub bounds-nodes-place : goal.bounds-nodes-place
bounds-nodes-place c = place_inside _ _ _ _ _ _ _ _ (record { is = c.as_slice.ensures.value; found = c.place_of-place.ensures; lent_is = c.as_mut_slice-nodes.ensures.value; long = c.as_mut_slice-nodes.ensures.len; stands = c.requires.stands })

pub restart-requires : goal.restart-requires
restart-requires c =
    let s = c.requires.stands in
    (node_world s.0 c.args.n, (here _ _ _ _ _ _ _ _ (record { is = c.as_slice.ensures.value; found = c.place_of-place.ensures; lent_is = c.as_mut_slice-nodes.ensures.value; long = c.as_mut_slice-nodes.ensures.len; stands = c.requires.stands }) c.index-nodes-place.result s.0 s.1.nodes_stand).1)

pub returns : goal.returns
returns c = record {
  done = on_ok_weaker c.restart.result (moved _ _ _ _ _ _ _ _ (record { is = c.as_slice.ensures.value; found = c.place_of-place.ensures; lent_is = c.as_mut_slice-nodes.ensures.value; long = c.as_mut_slice-nodes.ensures.len; stands = c.requires.stands }) c.index-nodes-place.result _ _ _
      after_restart restart_text (λ w. restarted w c.args.n) (moves_restarted c.args.n) (λ w new s stand. reopened _ _ _ _ w c.args.n s stand)) c.restart.ensures.done;
}
