use Rattle.std.proofs.Common.{◌≡◌, drop}
use Rattle.voting_config.specs.Ids.{has}
use Rattle.fault_checks.specs.Followers.{ids_of}
use Rattle.fault_checks.proofs.followers.is_among.Given as goal

abbrev pub invariant-loop-follower : goal.invariant-loop-follower
invariant-loop-follower l = has l.id (ids_of (drop l.follower-index l.watched)) ≡ has l.id (ids_of l.watched)
