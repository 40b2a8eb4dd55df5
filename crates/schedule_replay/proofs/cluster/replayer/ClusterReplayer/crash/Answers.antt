use Rattle.std.proofs.Common.{[]}
use Rattle.std.proofs.lemmas.Result.{on_ok_weaker}
use Rattle.replay_node.specs.Clusters.{settings_of}
use Rattle.replay_node.specs.NodeLines.{stop_text}
use Rattle.replay_node.specs.Worlds.{crashed, node_world}
use Rattle.schedule_replay.specs.Own.{own_crash}
use Rattle.schedule_replay.proofs.Going.{goes_crash}
use Rattle.schedule_replay.proofs.ClusterLines.{moved}
use Rattle.schedule_replay.proofs.ClusterMovement.{place_inside}
use Rattle.schedule_replay.proofs.cluster.replayer.ClusterReplayer.crash.Goals as goal

pub bounds-nodes-place : goal.bounds-nodes-place
bounds-nodes-place c = place_inside _ _ _ _ _ _ _ _ _ _ _ (record { is = c.as_slice.ensures.value; found = c.place_of-place.ensures; lent_is = c.as_mut_slice-nodes.ensures.value; long = c.as_mut_slice-nodes.ensures.len; stands = c.requires.stands })

pub returns : goal.returns
returns c = record {
  done = on_ok_weaker c.crash.result (λ does. moved _ _ _ _ _ _ _ _ _ _ _ (record { is = c.as_slice.ensures.value; found = c.place_of-place.ensures; lent_is = c.as_mut_slice-nodes.ensures.value; long = c.as_mut_slice-nodes.ensures.len; stands = c.requires.stands }) c.index-nodes-place.result c.crash.new.self _ _ _
      (λ own. own_crash c.args.way own) (λ own. []) (λ count own. stop_text c.args.n own.node) (λ d. record d { world = crashed d.world c.args.n c.args.way }) (λ d. stop_text c.args.n (node_world d.world c.args.n)) (goes_crash c.args.n c.args.way)
      (does c.args.self.now.frames.items (settings_of c.args.schedule.now.nodes c.args.schedule.now.initial c.args.schedule.now.voting_only c.args.schedule.now.second c.args.n))) c.crash.ensures;
}
