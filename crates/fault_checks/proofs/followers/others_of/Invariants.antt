use Rattle.std.proofs.Common.{◌≡◌, ◌≤◌, ◌++◌, length, drop}
use Rattle.fault_checks.specs.Followers.{others_of}
use Rattle.fault_checks.proofs.followers.others_of.Given as goal

abbrev pub invariant-loop-follower : goal.invariant-loop-follower
invariant-loop-follower l =
    (l.others.items ++ others_of (drop l.follower-index l.watched) l.id ≡ others_of l.watched l.id) × (length l.others.items ≤ l.follower-index)
