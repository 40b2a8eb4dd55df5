use Rattle.std.proofs.Common.{sym, ◌∙◌}
use Rattle.coordinator.proofs.FollowingNow.{follows_still, follows_led, follows_now}
use Rattle.coordinator.proofs.coordinator.Coordinator.become_follower.Goals as goal

pub returns-then-follows-clause-does : goal.returns-then-follows-clause-does
returns-then-follows-clause-does g c =
    follows_still g.K.Keeper c.args.self.now _ c.args.leader (sym c.follows.ensures ∙ c.if-follows.true)

pub returns-then-is_leader-clause-does : goal.returns-then-is_leader-clause-does
returns-then-is_leader-clause-does g c =
    follows_led g.K.Keeper c.args.self.now c.become_candidate.new.self c.change_to_follower.new.self _ _ _ c.args.leader (sym c.follows.ensures ∙ c.if-follows.false) (sym c.is_leader.ensures ∙ c.if-is_leader.true) c.become_candidate.ensures.core c.become_candidate.ensures.does c.change_to_follower.ensures.does

pub returns-clause-does : goal.returns-clause-does
returns-clause-does g c =
    follows_now g.K.Keeper c.args.self.now c.change_to_follower-2.new.self _ _ c.args.leader (sym c.follows.ensures ∙ c.if-follows.false) (sym c.is_leader.ensures ∙ c.if-is_leader.false) c.change_to_follower-2.ensures.does
