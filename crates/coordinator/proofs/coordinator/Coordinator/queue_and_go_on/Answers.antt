use Rattle.std.proofs.Common.{◌∙◌}
use Rattle.coordinator.proofs.Asked.{queued_whole}
use Rattle.coordinator.proofs.coordinator.Coordinator.queue_and_go_on.Goals as goal

pub go_on-requires-clause-plan : goal.go_on-requires-clause-plan
go_on-requires-clause-plan g c = c.in-Ok-plan_queued.ensures.plan

pub returns : goal.returns
returns g c =
    record { does = queued_whole g.K.Keeper c.args.self.now c.go_on.new.self _ _ _ c.args.conn c.args.request c.add_request.new.tasks (c.in-Ok-plan_queued.ensures.shown ∙ c.in-Ok.ensures.shown) c.in-Ok-add_request.ensures.ok c.go_on.ensures.does }
