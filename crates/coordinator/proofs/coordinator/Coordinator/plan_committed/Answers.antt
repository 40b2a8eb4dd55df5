use Rattle.std.proofs.Common.{ap, sym, ◌∙◌}
use Rattle.cluster_state.specs.declared.state.Kept.{Kept}
use Rattle.master_tasks.specs.Answering.{answers_by, applied_in, without_answered}
use Rattle.coordinator.specs.Views.{view_in}
use Rattle.coordinator.proofs.Asked.{same_plan}
use Rattle.coordinator.proofs.Finishing.{planned_applied, planned_idle}
use Rattle.coordinator.proofs.coordinator.Coordinator.plan_committed.Goals as goal

pub returns-then-open_count-eq0 : goal.returns-then-open_count-eq0
returns-then-open_count-eq0 g c =
    let node = c.args.self.now in
    let view = view_in g.K.Keeper node in
    let plan = c.in_ok-plan.plan in
    let committed = c.args.committed.now in
    planned_idle node.settings view plan committed c.requires (sym c.open_count.ensures.count ∙ c.if-open_count-eq0.true)
    (same_plan node.settings view plan committed c.term-term.result c.votes-votes.result.now node.tasks c.term-term.ensures.term c.votes-votes.ensures c.in_ok-plan.ensures)

pub returns : goal.returns
returns g c =
    let node = c.args.self.now in
    let view = view_in g.K.Keeper node in
    let applied = c.in_ok-applied.applied in
    let committed = c.args.committed.now in
    planned_applied node.settings view applied c.in_ok-plan-2.plan committed c.requires
    (c.in_ok-applied.ensures.left ∙ ap (λ (r : Kept). without_answered (applied_in committed r.accepted) node.tasks) c.kept.ensures.kept)
    (c.in_ok-applied.ensures.sent ∙ ap (λ (r : Kept). answers_by (applied_in committed r.accepted) node.tasks.waiting) c.kept.ensures.kept)
    (same_plan node.settings view c.in_ok-plan-2.plan committed c.term-term.result c.votes-votes.result.now applied.tasks c.term-term.ensures.term c.votes-votes.ensures c.in_ok-plan-2.ensures)
