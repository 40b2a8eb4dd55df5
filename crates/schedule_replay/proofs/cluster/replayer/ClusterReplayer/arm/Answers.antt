use Rattle.std.proofs.Common.{[]}
use Rattle.replay_node.specs.Clusters.{settings_of}
use Rattle.replay_node.specs.Worlds.{ordered}
use Rattle.schedule_replay.specs.Own.{own_order}
use Rattle.schedule_replay.proofs.Going.{goes_order}
use Rattle.schedule_replay.proofs.ClusterLines.{moved}
use Rattle.schedule_replay.proofs.ClusterMovement.{place_inside}
use Rattle.schedule_replay.proofs.cluster.replayer.ClusterReplayer.arm.Goals as goal

pub bounds-nodes-place : goal.bounds-nodes-place
bounds-nodes-place c = place_inside _ _ _ _ _ _ _ _ _ _ _ (record { is = c.as_slice.ensures.value; found = c.place_of-place.ensures; lent_is = c.as_mut_slice-nodes.ensures.value; long = c.as_mut_slice-nodes.ensures.len; stands = c.requires.stands })

pub returns : goal.returns
returns c = record {
  done = λ text. moved _ _ _ _ _ _ _ _ _ _ _ (record { is = c.as_slice.ensures.value; found = c.place_of-place.ensures; lent_is = c.as_mut_slice-nodes.ensures.value; long = c.as_mut_slice-nodes.ensures.len; stands = c.requires.stands }) c.index-nodes-place.result c.arm.new.self _ text text
      (λ own. own_order c.args.order own) (λ own. []) (λ count own. []) (λ d. record d { world = ordered d.world c.args.n c.args.order }) (λ d. []) (goes_order c.args.n c.args.order)
      (c.arm.ensures c.args.self.now.frames.items text (settings_of c.args.schedule.now.nodes c.args.schedule.now.initial c.args.schedule.now.voting_only c.args.schedule.now.second c.args.n));
}
