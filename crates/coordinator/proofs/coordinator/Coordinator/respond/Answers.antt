use Rattle.coordinator.proofs.Composing.{makes_then}
use Rattle.coordinator.proofs.coordinator.Coordinator.respond.Goals as goal

pub returns : goal.returns
returns g c =
    record { does = makes_then g.K.Keeper c.args.self.now c.args.self.now c.follow_other.new.self _ _ _ _ _ c.send.ensures.does c.follow_other.ensures.does }
