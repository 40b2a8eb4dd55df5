use Rattle.replay_node.specs.Clusters.{fresh_cluster}
use Rattle.schedule_replay.proofs.ClusterMovement.{one_more}
use Rattle.schedule_replay.proofs.cluster.replayer.fresh_nodes.Goals as goal

pub loop-id-preserved : goal.loop-id-preserved
loop-id-preserved c =
    one_more c.args.ids.now c.args.names.now c.args.voting_only.now c.args.second _ _ c.id-item.result c.loop-id.nodes.items _ _ (fresh_cluster c.args.ids.now c.args.names.now c.args.voting_only.now c.args.second) c.loop-id-test.true c.id-item.is c.loop-id.invariant c.in_ok-push.ensures.items c.in_ok-node.ensures
