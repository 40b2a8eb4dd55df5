use Rattle.std.proofs.Common.{arith}
use Rattle.fault_checks.specs.declared.followers.Follower.{Follower}
use Rattle.fault_checks.specs.Followers.{behind_finished}
use Rattle.voting_config.proofs.Refilled.{map-step}
use Rattle.fault_checks.proofs.followers.finish_all.Goals as goal

pub loop-follower-preserved : goal.loop-follower-preserved
loop-follower-preserved c =
    map-step (λ (f : Follower). record f { behind = behind_finished f.behind f.applied c.args.last c.args.state c.args.now }) _ c.loop-follower.follower-items c.loop-follower.follower-index c.follower-item.result c.finished_at.result (omega arith) c.finished_at.ensures c.loop-follower.invariant
