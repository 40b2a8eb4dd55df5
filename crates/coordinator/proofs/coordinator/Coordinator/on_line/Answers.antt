use Rattle.std.proofs.Common.{refl}
use Rattle.policy_model.specs.declared.events.Event.TheVariants as event
use Rattle.coordinator.proofs.Entering.{event_rule}
use Rattle.coordinator.proofs.coordinator.Coordinator.on_line.Goals as goal

pub returns : goal.returns
returns g c = event_rule g.K.Keeper c.takes_line.result c.args.self.now c.takes_line.new.self (event.Client c.args.conn c.args.line.now) _ _ _ refl c.takes_line.ensures.does
