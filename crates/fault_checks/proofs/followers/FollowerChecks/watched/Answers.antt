use Rattle.std.proofs.Common.{◌∙◌, ap, refl, List}
use Rattle.fault_checks.specs.declared.followers.Follower.{Follower}
use Rattle.fault_checks.specs.Followers.{ids_of}
use Rattle.fault_checks.proofs.Sets.{filter-all}
use Rattle.fault_checks.proofs.followers.FollowerChecks.watched.Goals as goal

pub returns : goal.returns
returns c = rw (c.chosen.ensures, c.as_slice.ensures.value) (ap (λ (fs : List Follower). ids_of fs) (filter-all c.self.inside.watched.items) ∙ rw (← c.self.view_is) refl)
