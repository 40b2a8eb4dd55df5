use Rattle.std.proofs.Common.{sym, ◌∙◌}
use Rattle.coordinator.proofs.Planning.{plan_same, plan_new}
use Rattle.coordinator.proofs.plan.plan_next.Goals as goal

pub returns-in-Same : goal.returns-in-Same
returns-in-Same c =
    plan_same _ c.args.tasks.now c.in_ok-next.field-0.waiting c.in-Same.replies (sym c.in-Same.is ∙ c.in_ok-next.ensures.next) c.in_ok-next.ensures.waiting c.in_ok-next.ensures.few

pub returns-in_ok-new-in-New : goal.returns-in_ok-new-in-New
returns-in_ok-new-in-New c =
    plan_new _ c.args.tasks.now c.in_ok-next.field-0.waiting c.in-New.config c.in_ok-committed-in-New.committed c.in-New.value c.in-New.replies c.in_ok-new-in-New.new (sym c.in-New.is ∙ c.in_ok-next.ensures.next) c.in_ok-next.ensures.waiting c.in_ok-next.ensures.few (c.in_ok-committed-in-New.ensures ∙ c.members.ensures) (rw (c.deref.ensures, c.id.ensures, c.deref-in-New.ensures) at c.in_ok-new-in-New.ensures)
