-- For the contracts inside: the state that checked bytes are.
use Rattle.std.specs.Prelude.{Result, Ok, Err}
use Rattle.cluster_state.specs.declared.fault.StateFault.{StateFault}
use Rattle.cluster_state.specs.declared.state.ClusterState.{ClusterState}
use Rattle.cluster_state.specs.Initial.{empty_state}

-- Bytes that are none, which are never asked, stand for the empty state.
abbrev pub state_in : Result ClusterState StateFault → ClusterState
state_in (Ok s) = s
state_in (Err f) = empty_state
