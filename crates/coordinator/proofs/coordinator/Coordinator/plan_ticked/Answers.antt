use Rattle.std.proofs.Common.{◌∙◌}
use Rattle.std.proofs.lemmas.Result.{IfOk-weaker}
use Rattle.coordinator.specs.Views.{view_in}
use Rattle.coordinator.proofs.Ticked.{planned_tick}
use Rattle.coordinator.proofs.coordinator.Coordinator.plan_ticked.Goals as goal

pub returns : goal.returns
returns g c =
    IfOk-weaker c.plan_of.result _ _ (λ plan has. planned_tick c.args.self.now.settings (view_in g.K.Keeper c.args.self.now) plan c.remove_members-2.new.tasks c.remove_members.new.tasks c.time_out_exclusions.new.self c.in_ok-tasks.tasks c.as_slice.result.now c.as_slice-2.result.now c.committed.result.now c.copy-followers.result c.remove_members-2.ensures c.remove_members.ensures c.time_out_exclusions.ensures.left c.in_ok-tasks.ensures c.committed.ensures (c.as_slice.ensures.value ∙ c.tick-checked.ensures.checks) (c.as_slice-2.ensures.value ∙ c.tick-checked.ensures.lag) c.copy-followers.ensures has) c.plan_of.ensures
