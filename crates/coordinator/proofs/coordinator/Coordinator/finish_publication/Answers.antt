use Rattle.std.proofs.Common.{true}
use Rattle.policy_model.specs.NextState.{goes_on}
use Rattle.coordinator.proofs.Counted.{planned_there}
use Rattle.coordinator.proofs.Composing.{ends_rule, ready_then}
use Rattle.coordinator.proofs.coordinator.Coordinator.finish_publication.Goals as goal

pub go_on-requires-clause-ready : goal.go_on-requires-clause-ready
go_on-requires-clause-ready g c =
    ready_then g.K.Keeper c.args.self.now c.answer_applied.new.self _ c.requires.ready c.answer_applied.ensures.does.goes

pub go_on-requires-clause-plan : goal.go_on-requires-clause-plan
go_on-requires-clause-plan g c =
    planned_there g.K.Keeper c.args.self.now c.answer_applied.new.self _ c.args.finish.now.plan (λ s v. v) c.answer_applied.ensures.does.goes c.requires.plan

pub returns : goal.returns
returns g c =
    record { does = ends_rule g.K.Keeper c.args.self.now c.answer_applied.new.self c.go_on.new.self _ _ _ _ goes_on true c.answer_applied.ensures.does c.go_on.ensures.does }
