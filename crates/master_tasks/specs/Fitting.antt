-- For the contracts inside: requests and next states that are within the limits of a state.
use Rattle.std.specs.Prelude.{◌≡◌, None, List}
use Rattle.std.specs.List.{AllByRecursion}
use Rattle.cluster_state.specs.States.{IsFitValue}
use Rattle.cluster_state.specs.Puts.{bad_setting_of}
use Rattle.master_tasks.specs.declared.waiting.Waiting.{Waiting}
use Rattle.master_tasks.specs.declared.next.Next.{Next}
use Rattle.master_tasks.specs.declared.next.Next.TheVariants.{Same, New}

-- no request is to put a bad setting
abbrev pub HaveGoodSettings : List Waiting → Type 0
HaveGoodSettings waiting = AllByRecursion (λ w. bad_setting_of w.request.ask ≡ None) waiting

-- a new value is within the limits
abbrev pub IsFitNext : Next → Type 0
IsFitNext (Same replies) = Unit {0}
IsFitNext (New config value replies) = IsFitValue value
