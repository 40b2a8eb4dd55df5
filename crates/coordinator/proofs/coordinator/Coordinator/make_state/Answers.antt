use Rattle.std.proofs.Common.{refl, ap, ◌∙◌}
use Rattle.master_tasks.specs.Replying.{Replies}
use Rattle.coordinator.specs.Showing.{shown_in}
use Rattle.coordinator.specs.Views.{view_in}
use Rattle.coordinator.proofs.Going.{planned_left, planned_new, request_is, makes_same, makes_new}
use Rattle.coordinator.proofs.coordinator.Coordinator.make_state.Goals as goal

pub publish-requires-clause-request : goal.publish-requires-clause-request
publish-requires-clause-request g c =
    request_is g.K.Keeper c.args.self.now c.args.self.now.tasks c.in-Some.new c.requires.ready (planned_new _ _ c.args.plan c.in-Some.new c.requires.plan c.in-Some.is)

pub returns-in-None : goal.returns-in-None
returns-in-None g c =
    record { does = makes_same g.K.Keeper c.args.self.now c.leave_only.new.self _ _ c.args.plan c.requires.plan (c.leave_only.ensures ∙ planned_left _ _ c.args.plan c.requires.plan) (ap (λ (r : Replies). record (shown_in c.args.out.now) { replies = r.sent }) c.append.ensures) c.in-None.is }

pub returns-in-Some : goal.returns-in-Some
returns-in-Some g c =
    record { does = makes_new g.K.Keeper c.args.self.now c.publish.new.self c.leave_only.new.self _ _ _ c.args.plan c.in-Some.new c.requires.plan (c.leave_only.ensures ∙ planned_left _ _ c.args.plan c.requires.plan) (ap (λ (r : Replies). record (shown_in c.args.out.now) { replies = r.sent }) c.append.ensures) c.in-Some.is (c.publish.ensures.does (view_in g.K.Keeper c.args.self.now) refl (planned_new _ _ c.args.plan c.in-Some.new c.requires.plan c.in-Some.is)) }
