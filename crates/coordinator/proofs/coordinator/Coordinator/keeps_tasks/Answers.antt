use Rattle.std.proofs.Common.{◌≡◌, length, sym, ◌∙◌, arith}
use Rattle.coordinator.specs.Views.{view_in}
use Rattle.coordinator.proofs.Ticked.{tasks_kept}
use Rattle.coordinator.proofs.coordinator.Coordinator.keeps_tasks.Goals as goal

pub returns : goal.returns
returns g c = λ h.
    let none : length c.args.self.now.tasks.waiting ≡ 0 = omega (arith, c.open_count.ensures.count, c.if-open_count-gt0.false) in
    tasks_kept (view_in g.K.Keeper c.args.self.now) none (sym c.keeps_all.ensures ∙ h)
