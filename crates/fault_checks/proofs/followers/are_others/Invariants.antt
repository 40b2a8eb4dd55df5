use Rattle.std.proofs.Common.{◌≡◌, ◌≤◌, length, take}
use Rattle.voting_config.specs.Ids.{without_id}
use Rattle.fault_checks.specs.Followers.{ids_of}
use Rattle.fault_checks.proofs.followers.are_others.Given as goal

abbrev pub invariant-loop-member : goal.invariant-loop-member
invariant-loop-member l =
    (without_id l.me (take l.member-index l.members) ≡ take l.place (ids_of l.watched)) × (l.place ≤ length l.watched)
