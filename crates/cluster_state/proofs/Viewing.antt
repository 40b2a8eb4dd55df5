-- What checked bytes are.
use Rattle.std.proofs.Common.{◌≡◌, Result, Ok, Err, ap}
use Rattle.std.specs.Prelude.{IsOk}
use Rattle.cluster_state.specs.declared.fault.StateFault.{StateFault}
use Rattle.cluster_state.specs.declared.state.ClusterState.{ClusterState}
use Rattle.cluster_state.specs.Passing.{id_found}
use Rattle.cluster_state.specs.Viewed.{state_in}

pub is_state_in : (r : Result ClusterState StateFault) (s : ClusterState) → IsOk r → state_in r ≡ s → r ≡ Ok s
is_state_in (Ok t) s h e = ap (λ (x : ClusterState). Ok x) e
is_state_in (Err f) s h e = absurd cc

pub no_state : (r : Result ClusterState StateFault) (f : StateFault) → Err f ≡ id_found r → Err f ≡ r
no_state (Ok s) f e = absurd cc
no_state (Err g) f e = cc
