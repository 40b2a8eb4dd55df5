-- The order of the ids of states.
use Rattle.std.proofs.Common.{◌≡◌, ℕ, ◌<◌, ◌⊎◌, arith}
use Rattle.cluster_state.specs.declared.state.ClusterState.{ClusterState}
use Rattle.world_model.specs.Safety.{IsIdAtMost, IsAtMost}

-- the id of r is below that of s
abbrev pub IsBelow : ClusterState → ClusterState → Type 0
IsBelow r s = (r.term < s.term) ⊎ ((s.term ≡ r.term) × (r.version < s.version))

pub id_trans : (t v t' v' t'' v'' : ℕ) → IsIdAtMost t v t' v' → IsIdAtMost t' v' t'' v'' → IsIdAtMost t v t'' v''
id_trans t v t' v' t'' v'' h k = grind arith

pub at_most_self : (s : ClusterState) → IsAtMost s s
at_most_self s = grind arith

pub at_most_trans : (q r s : ClusterState) → IsAtMost q r → IsAtMost r s → IsAtMost q s
at_most_trans q r s h k = grind arith
