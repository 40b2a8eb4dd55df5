use Rattle.std.proofs.Common.{refl}
use Rattle.policy_model.specs.declared.events.Event.TheVariants as event
use Rattle.coordinator.proofs.Entering.{event_rule}
use Rattle.coordinator.proofs.coordinator.Coordinator.on_frame.Goals as goal

pub returns : goal.returns
returns g c = event_rule g.K.Keeper c.take_frame.result c.args.self.now c.take_frame.new.self (event.Frame c.args.frame.now) _ _ _ refl c.take_frame.ensures.does
