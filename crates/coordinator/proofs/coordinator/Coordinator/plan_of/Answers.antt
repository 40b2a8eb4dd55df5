use Rattle.std.proofs.lemmas.Result.{IfOk-weaker}
use Rattle.coordinator.specs.Views.{view_in}
use Rattle.coordinator.proofs.Asked.{same_plan}
use Rattle.coordinator.proofs.coordinator.Coordinator.plan_of.Goals as goal

pub returns : goal.returns
returns g c =
    IfOk-weaker c.plan_with.result _ _ (λ plan has. same_plan c.args.self.now.settings (view_in g.K.Keeper c.args.self.now) plan (g.K.Keeper.record_of c.args.self.now.core.keeper).committed c.term.result c.votes.result.now c.args.tasks.now c.term.ensures.term c.votes.ensures has) c.plan_with.ensures
