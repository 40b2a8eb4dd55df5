use Rattle.coordinator.proofs.Electing.{begins}
use Rattle.coordinator.proofs.coordinator.Coordinator.begin_round.Goals as goal

pub returns-clause-does : goal.returns-clause-does
returns-clause-does g c =
    begins g.K.Keeper c.args.self.now c.open_round.new.self c.stand_alone.new.self _ _ _ c.args.word c.without-others.result c.args.free.now c.without-others.ensures c.requires.free (c.open_round.ensures c.args.out.now) c.send_all.ensures.does c.stand_alone.ensures.does
