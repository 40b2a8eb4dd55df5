use Rattle.std.proofs.Common.{◌≡◌, ◌++◌, length, map, drop}
use Rattle.fault_checks.specs.Followers.{watched_or_new}
use Rattle.fault_checks.proofs.followers.watched_from.Given as goal

abbrev pub invariant-loop-member : goal.invariant-loop-member
invariant-loop-member l =
    (l.all.items ++ map (λ id. watched_or_new l.watched id l.now) (drop l.member-index l.members) ≡ map (λ id. watched_or_new l.watched id l.now) l.members)
    × (length l.all.items ≡ l.member-index)
