-- For the contracts inside: which followers are named: all, or those that a tick names.
use Rattle.std.specs.Prelude.{ℕ, Bool, true}
use Rattle.fault_checks.specs.declared.followers.Choice.{Choice}
use Rattle.fault_checks.specs.declared.followers.Choice.TheVariants as choice
use Rattle.fault_checks.specs.declared.followers.Follower.{Follower}
use Rattle.fault_checks.specs.Followers.{is_asked, drops_for_checks, drops_for_lag}

abbrev pub is_chosen : Choice → Follower → ℕ → Bool
is_chosen choice.All f now = true
is_chosen choice.Asked f now = is_asked f now
is_chosen choice.DroppedForChecks f now = drops_for_checks f now
is_chosen choice.DroppedForLag f now = drops_for_lag f now
