use Rattle.std.proofs.Common.{sym, ◌∙◌}
use Rattle.coordinator.proofs.Electing.{waits_on, waits_off}
use Rattle.coordinator.proofs.coordinator.Coordinator.wait_for_election.Goals as goal

pub returns-then-not-may_be_elected-clause-does : goal.returns-then-not-may_be_elected-clause-does
returns-then-not-may_be_elected-clause-does g c =
    waits_off g.K.Keeper c.args.self.now _ c.args.word c.free_nodes-free.result c.free_nodes-free.ensures (sym c.may_be_elected.ensures ∙ c.if-not-may_be_elected.true)

pub returns-clause-does : goal.returns-clause-does
returns-clause-does g c =
    waits_on g.K.Keeper c.args.self.now c.wait_until.new.self _ _ c.args.word c.free_nodes-free.result c.free_nodes-free.ensures (sym c.may_be_elected.ensures ∙ c.if-not-may_be_elected.false) c.wait_until.ensures.does
