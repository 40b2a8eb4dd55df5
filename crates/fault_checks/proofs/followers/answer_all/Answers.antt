use Rattle.std.proofs.Common.{arith}
use Rattle.fault_checks.specs.declared.followers.Follower.{Follower}
use Rattle.fault_checks.specs.Followers.{answered_from}
use Rattle.voting_config.proofs.Refilled.{map-step}
use Rattle.fault_checks.proofs.followers.answer_all.Goals as goal

pub loop-follower-preserved : goal.loop-follower-preserved
loop-follower-preserved c =
    map-step (λ (f : Follower). answered_from f c.args.from c.args.finished c.args.good c.args.applied c.args.now) _ c.loop-follower.follower-items c.loop-follower.follower-index c.follower-item.result c.answered_from.result (omega arith) c.answered_from.ensures c.loop-follower.invariant
