use Rattle.std.proofs.Common.{sym, ◌∙◌}
use Rattle.coordinator.proofs.Checking.{checks_made, checks_nothing}
use Rattle.coordinator.proofs.coordinator.Coordinator.check_leader.Goals as goal

pub returns-in-None-clause-does : goal.returns-in-None-clause-does
returns-in-None-clause-does g c =
    checks_nothing g.K.Keeper c.args.self.now c.tick_of.new.check _ c.args.leader (sym c.tick_of.ensures.tick ∙ c.in-None.is) c.tick_of.ensures.check

pub returns-in-Some-clause-does : goal.returns-in-Some-clause-does
returns-in-Some-clause-does g c =
    checks_made g.K.Keeper c.args.self.now c.do_check.new.self c.tick_of.new.check _ _ c.args.leader c.in-Some.tick (sym c.tick_of.ensures.tick ∙ c.in-Some.is) c.tick_of.ensures.check c.do_check.ensures.does
