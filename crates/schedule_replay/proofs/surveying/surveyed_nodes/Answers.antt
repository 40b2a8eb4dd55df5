use Rattle.std.proofs.Common.{List, arith, subst}
use Rattle.replay_node.specs.declared.node.ReplayNode.{ReplayNode}
use Rattle.schedule_replay.proofs.SurveyLaws.{FindsEach, all_nodes, each_step, finds}
use Rattle.schedule_replay.proofs.surveying.surveyed_nodes.Goals as goal

pub loop-node-preserved : goal.loop-node-preserved
loop-node-preserved c =
    each_step c.args.nodes.now c.loop-node.node-index c.node-item.result c.loop-node.found.items c.push.new.self.items c.surveyed_node.result
    c.loop-node-test.true c.node-item.is c.in_ok-push.ensures.items c.loop-node.invariant c.surveyed_node.ensures

pub returns : goal.returns
returns c =
    finds c.args.nodes.now c.loop-node.found.items
    (subst (λ (cs : List ReplayNode). FindsEach cs c.loop-node.found.items) (all_nodes c.args.nodes.now c.loop-node.node-index (omega (arith, c.loop-node-test.false))) c.loop-node.invariant)
