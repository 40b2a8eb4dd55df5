-- For the contracts inside: what a node of a replay has published.
use Rattle.std.specs.Prelude.{Option, None, Some}
use Rattle.std.specs.declared.rc.Rc.{Rc}
use Rattle.std.specs.declared.alloc.Global.{Global}
use Rattle.cluster_state.specs.declared.state.ClusterState.{ClusterState}
use Rattle.cluster_state.specs.declared.messages.PublishRequest.{PublishRequest}

abbrev pub state_published : Option (Rc PublishRequest Global) → Option ClusterState
state_published None = None
state_published (Some r) = Some r.value.state
