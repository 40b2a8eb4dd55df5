use Rattle.std.proofs.Common.{◌≡◌, ◌≤◌, ◌++◌, length, drop}
use Rattle.fault_checks.specs.Followers.{stayed}
use Rattle.fault_checks.proofs.followers.ticked.Given as goal

abbrev pub invariant-loop-follower : goal.invariant-loop-follower
invariant-loop-follower l =
    (l.kept.items ++ stayed (drop l.follower-index l.watched) l.now ≡ stayed l.watched l.now) × (length l.kept.items ≤ l.follower-index)
