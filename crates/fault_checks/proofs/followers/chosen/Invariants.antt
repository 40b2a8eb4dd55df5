use Rattle.std.proofs.Common.{◌≡◌, ◌≤◌, length, drop}
use Rattle.std.specs.Prelude.{filter}
use Rattle.fault_checks.specs.declared.followers.Follower.{Follower}
use Rattle.fault_checks.specs.Choices.{is_chosen}
use Rattle.fault_checks.specs.Followers.{ids_of}
use Rattle.fault_checks.proofs.followers.chosen.Given as goal

abbrev pub invariant-loop-place : goal.invariant-loop-place
invariant-loop-place l =
    (l.ids ≡ ids_of (filter (λ (f : Follower). is_chosen l.choice f l.now) (drop l.place l.watched))) × (l.place ≤ length l.watched)

abbrev pub decreases-loop-place : goal.decreases-loop-place
decreases-loop-place l = l.place
