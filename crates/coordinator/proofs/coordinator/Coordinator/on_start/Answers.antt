use Rattle.std.proofs.Common.{refl}
use Rattle.policy_model.specs.declared.events.Event.TheVariants as event
use Rattle.coordinator.proofs.Entering.{event_fine}
use Rattle.coordinator.proofs.coordinator.Coordinator.on_start.Goals as goal

pub returns-clause-does : goal.returns-clause-does
returns-clause-does g c = λ out. event_fine g.K.Keeper c.args.self.now c.args.self.now c.meet_first.new.self event.Start _ _ _ refl refl refl (c.meet_first.ensures out)
