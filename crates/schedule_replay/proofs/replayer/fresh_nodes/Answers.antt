use Rattle.schedule_replay.proofs.Fresh.{fresh_more}
use Rattle.schedule_replay.proofs.replayer.fresh_nodes.Goals as goal

pub loop-id-preserved : goal.loop-id-preserved
loop-id-preserved c = fresh_more _ _ c.id-item.result c.loop-id.nodes.items _ _ c.loop-id-test.true c.id-item.is c.loop-id.invariant c.in_ok-push.ensures.items c.in_ok-node.ensures.me c.in_ok-node.ensures.stands
