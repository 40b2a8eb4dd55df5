use Rattle.std.proofs.Common.{arith}
use Rattle.fault_checks.specs.declared.followers.Follower.{Follower}
use Rattle.fault_checks.specs.Checks.{ticked_at}
use Rattle.voting_config.proofs.Refilled.{map-step}
use Rattle.fault_checks.proofs.followers.tick_each.Goals as goal

pub loop-follower-preserved : goal.loop-follower-preserved
loop-follower-preserved c =
    map-step (λ (f : Follower). record f { check = ticked_at f.check c.args.now }) _ c.loop-follower.follower-items c.loop-follower.follower-index c.follower-item.result c.ticked_at.result (omega arith) c.ticked_at.ensures c.loop-follower.invariant
