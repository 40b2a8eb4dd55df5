use Rattle.std.proofs.lemmas.Result.{IfOk-weaker}
use Rattle.coordinator.specs.Views.{view_in}
use Rattle.coordinator.proofs.OfLosses.{planned_loss}
use Rattle.coordinator.proofs.coordinator.Coordinator.plan_loss.Goals as goal

pub returns : goal.returns
returns g c =
    IfOk-weaker c.plan_of.result _ _ (λ plan has. planned_loss c.args.self.now.settings (view_in g.K.Keeper c.args.self.now) c.args.p plan c.in_ok-tasks.tasks c.drop_member.new.self c.in_ok-tasks.ensures c.drop_member.ensures has) c.plan_of.ensures
