use Rattle.std.proofs.Common.{true, false}
use Rattle.coordinator.proofs.Electing.{boots, boots_not}
use Rattle.coordinator.proofs.coordinator.Coordinator.bootstrap.Goals as goal

pub returns-in-None-clause-does : goal.returns-in-None-clause-does
returns-in-None-clause-does g c =
    boots_not g.K.Keeper c.args.self.now _ c.args.first c.requires.first c.in-None.is

pub returns-in-Ok-clause-does : goal.returns-in-Ok-clause-does
returns-in-Ok-clause-does g c =
    boots g.K.Keeper c.args.self.now c.act_set_initial.new.self _ _ c.args.first c.in-Some.first true c.requires.first c.in-Some.is c.in-Ok.ensures.does

pub returns-in-Err-clause-does : goal.returns-in-Err-clause-does
returns-in-Err-clause-does g c =
    boots g.K.Keeper c.args.self.now c.act_set_initial.new.self _ _ c.args.first c.in-Some.first false c.requires.first c.in-Some.is c.in-Err.ensures.does
