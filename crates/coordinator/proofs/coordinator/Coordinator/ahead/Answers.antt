use Rattle.std.proofs.Common.{arith, ◌∙◌}
use Rattle.coordinator.specs.Views.{view_in}
use Rattle.coordinator.proofs.Planning.{ahead_same}
use Rattle.coordinator.proofs.coordinator.Coordinator.ahead.Goals as goal

pub returns : goal.returns
returns g c =
    ahead_same (view_in g.K.Keeper c.args.self.now) c.args.term _ (omega (arith, c.if-term.false, c.term.ensures.term)) c.term-2.ensures.term (c.copy.ensures ∙ c.votes.ensures) c.won.ensures c.is_leader.ensures c.in_ok-copy.ensures
