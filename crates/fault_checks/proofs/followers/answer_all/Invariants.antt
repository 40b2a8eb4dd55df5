use Rattle.std.proofs.Common.{◌≡◌, ◌++◌, map, take, drop}
use Rattle.fault_checks.specs.declared.followers.Follower.{Follower}
use Rattle.fault_checks.specs.Followers.{answered_from}
use Rattle.fault_checks.proofs.followers.answer_all.Given as goal

abbrev pub invariant-loop-follower : goal.invariant-loop-follower
invariant-loop-follower l =
    let f : Follower → Follower = λ (f : Follower). answered_from f l.from l.finished l.good l.applied l.now in
    map f l.initial.follower-items ≡ take l.follower-index l.follower-items ++ map f (drop l.follower-index l.follower-items)
