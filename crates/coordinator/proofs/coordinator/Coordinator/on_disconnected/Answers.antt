use Rattle.std.proofs.Common.{refl}
use Rattle.policy_model.specs.declared.events.Event.TheVariants as event
use Rattle.coordinator.proofs.Entering.{event_rule}
use Rattle.coordinator.proofs.coordinator.Coordinator.on_disconnected.Goals as goal

pub returns : goal.returns
returns g c = event_rule g.K.Keeper c.lose.result c.args.self.now c.lose.new.self (event.Disconnected c.args.peer) _ _ _ refl c.lose.ensures.does
