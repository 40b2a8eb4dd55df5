use Rattle.std.proofs.Common.{sym, ◌∙◌}
use Rattle.coordinator.proofs.Checking.{checker_answered, checker_refused, checker_followed}
use Rattle.coordinator.proofs.coordinator.Coordinator.follow_checker.Goals as goal

pub returns-then-self-clause-does : goal.returns-then-self-clause-does
returns-then-self-clause-does g c =
    checker_answered g.K.Keeper c.args.self.now _ _ c.args.leader c.follows.result c.if-self.true c.follows.ensures c.answer_leader.ensures.does

pub returns-then-is_leader-clause-does : goal.returns-then-is_leader-clause-does
returns-then-is_leader-clause-does g c =
    checker_refused g.K.Keeper c.args.self.now _ _ c.args.leader c.if-self.false (sym c.is_leader.ensures ∙ c.if-is_leader.true) c.answer_leader-then-is_leader.ensures.does

pub returns-clause-does : goal.returns-clause-does
returns-clause-does g c =
    checker_followed g.K.Keeper c.args.self.now c.become_follower.new.self _ _ _ c.args.leader c.if-self.false (sym c.is_leader.ensures ∙ c.if-is_leader.false) c.become_follower.ensures.does c.answer_leader-2.ensures.does
