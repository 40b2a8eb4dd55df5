-- For the contracts inside: that a node is ready holds in one way only.
use Rattle.std.proofs.Props.{props}
use Rattle.coordinator.specs.declared.coordinator.Coordinator.{Coordinator}
use Rattle.coordinator.specs.Views.{IsReady}

pub IsReady-prop : {K : Type 0} (c : Coordinator K) → IsProp (IsReady c)
IsReady-prop c = hlevel props
