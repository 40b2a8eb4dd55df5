use Rattle.std.proofs.Common.{◌≡◌, ◌++◌, map, take, drop}
use Rattle.fault_checks.specs.declared.followers.Follower.{Follower}
use Rattle.fault_checks.specs.Checks.{ticked_at}
use Rattle.fault_checks.proofs.followers.tick_each.Given as goal

abbrev pub invariant-loop-follower : goal.invariant-loop-follower
invariant-loop-follower l =
    let f : Follower → Follower = λ (f : Follower). record f { check = ticked_at f.check l.now } in
    map f l.initial.follower-items ≡ take l.follower-index l.follower-items ++ map f (drop l.follower-index l.follower-items)
