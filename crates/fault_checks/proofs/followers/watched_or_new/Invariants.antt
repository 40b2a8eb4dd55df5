use Rattle.std.proofs.Common.{◌≡◌, drop}
use Rattle.fault_checks.specs.Followers.{watched_or_new}
use Rattle.fault_checks.proofs.followers.watched_or_new.Given as goal

abbrev pub invariant-loop-follower : goal.invariant-loop-follower
invariant-loop-follower l = watched_or_new (drop l.follower-index l.watched) l.id l.now ≡ watched_or_new l.watched l.id l.now
