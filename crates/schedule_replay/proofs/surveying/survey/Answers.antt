use Rattle.std.proofs.Common.{◌∙◌, List, arith, subst, sym}
use Rattle.replay_node.specs.declared.node.ReplayNode.{ReplayNode}
use Rattle.schedule_replay.specs.WorldStands.{AllStand}
use Rattle.schedule_replay.proofs.SurveyLaws.{all_stands, count_few, count_sent, line_stands}
use Rattle.schedule_replay.specs.Survey.{world_after}
use Rattle.schedule_replay.proofs.surveying.survey.Goals as goal

pub loop-line-preserved : goal.loop-line-preserved
loop-line-preserved c =
    line_stands c.args.schedule.now.nodes c.args.schedule.now.initial c.loop-line.replayer.nodes.items c.line.new.self.nodes.items c.loop-line.replayer.sent c.line.new.self.sent _ _
    c.as_slice-lines.result.now c.loop-line.line-index c.line-item.result c.loop-line-test.true c.line-item.is c.loop-line.invariant c.in_ok-line.ensures.done

pub returns-clause-nodes : goal.returns-clause-nodes
returns-clause-nodes c =
    let ids = c.args.schedule.now.nodes in
    let end = world_after c.args.schedule.now in
    let stands = all_stands ids c.args.schedule.now.initial c.loop-line.replayer.nodes.items c.loop-line.replayer.sent c.as_slice-lines.result.now c.args.schedule.now.lines c.loop-line.line-index c.as_slice-lines.ensures (omega (arith, c.loop-line-test.false)) c.loop-line.invariant in
    c.in_ok-nodes.ensures ids end (subst (λ (nodes : List ReplayNode). AllStand ids nodes end) (sym c.as_slice.ensures.value) stands.nodes_stand)

pub returns-clause-few : goal.returns-clause-few
returns-clause-few c =
    count_few c.args.schedule.now c.len.result c.requires.fits
    (c.len.ensures.value
    ∙ count_sent c.args.schedule.now.nodes c.loop-line.replayer.nodes.items c.loop-line.replayer.sent (world_after c.args.schedule.now)
    (all_stands c.args.schedule.now.nodes c.args.schedule.now.initial c.loop-line.replayer.nodes.items c.loop-line.replayer.sent c.as_slice-lines.result.now c.args.schedule.now.lines c.loop-line.line-index c.as_slice-lines.ensures (omega (arith, c.loop-line-test.false)) c.loop-line.invariant))
