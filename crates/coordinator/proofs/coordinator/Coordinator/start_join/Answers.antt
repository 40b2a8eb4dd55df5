use Rattle.std.proofs.Common.{sym, ◌∙◌}
use Rattle.coordinator.proofs.Composing.{ends_err}
use Rattle.coordinator.proofs.Becoming.{starts_taken, starts_struck}
use Rattle.coordinator.proofs.coordinator.Coordinator.start_join.Goals as goal

pub returns-in_err-taken-clause-does : goal.returns-in_err-taken-clause-does
returns-in_err-taken-clause-does g c =
    ends_err g.K.Keeper c.from_residual.result _ _ _ _ _ c.from_residual.ensures.0 (starts_struck g.K.Keeper c.args.self.now c.act_start_join.new.self _ _ c.args.candidate c.args.term c.in_err-taken.ensures.does)

pub returns-then-taken-clause-does : goal.returns-then-taken-clause-does
returns-then-taken-clause-does g c =
    starts_taken g.K.Keeper c.args.self.now c.act_start_join.new.self c.leave.new.self _ _ _ _ c.args.candidate c.args.term c.in_ok-taken.ensures.does (sym c.in_ok-taken.ensures.taken ∙ c.if-taken.true) c.send_join.ensures.shown c.leave.ensures.does
