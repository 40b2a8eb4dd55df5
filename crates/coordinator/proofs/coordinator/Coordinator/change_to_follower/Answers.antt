use Rattle.std.proofs.Common.{refl}
use Rattle.coordinator.proofs.coordinator.Coordinator.change_to_follower.Goals as goal

pub returns-clause-does : goal.returns-clause-does
returns-clause-does g c =
    record { goes = record { settings = refl; clock = refl; view = rw c.start.ensures refl; core = refl }; shown = rw (c.term.ensures.term) at c.change_mode.ensures.shown }
