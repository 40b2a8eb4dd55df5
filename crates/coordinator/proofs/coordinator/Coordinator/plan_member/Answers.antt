use Rattle.std.proofs.lemmas.Result.{IfOk-weaker}
use Rattle.coordinator.specs.Views.{view_in}
use Rattle.coordinator.proofs.Asked.{planned_member}
use Rattle.coordinator.proofs.coordinator.Coordinator.plan_member.Goals as goal

pub returns : goal.returns
returns g c =
    IfOk-weaker c.plan_of.result _ _ (λ plan has. planned_member c.args.self.now.settings (view_in g.K.Keeper c.args.self.now) c.args.p plan c.in_ok-tasks.tasks c.add_member.new.self c.in_ok-tasks.ensures c.add_member.ensures has) c.plan_of.ensures
