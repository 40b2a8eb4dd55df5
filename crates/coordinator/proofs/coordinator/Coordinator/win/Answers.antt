use Rattle.std.proofs.Common.{true}
use Rattle.policy_model.specs.NextState.{goes_on}
use Rattle.coordinator.proofs.Composing.{ends_rule}
use Rattle.coordinator.proofs.coordinator.Coordinator.win.Goals as goal

pub returns : goal.returns
returns g c =
    record { does = ends_rule g.K.Keeper c.args.self.now c.lead.new.self c.go_on.new.self _ _ _ _ goes_on true c.lead.ensures.does c.go_on.ensures.does }
