use Rattle.coordinator.specs.Broadcasts.{message_of}
use Rattle.coordinator.proofs.Quiet.{sends_shown}
use Rattle.coordinator.proofs.coordinator.Coordinator.send_all.Goals as goal

pub returns-clause-does : goal.returns-clause-does
returns-clause-does g c =
    sends_shown g.K.Keeper c.args.self.now _ _ c.args.ids.now _ (message_of c.args.what.now) c.as_slice.ensures.value c.send_all.ensures.shown
