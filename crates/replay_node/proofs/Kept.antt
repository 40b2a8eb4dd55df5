-- A publish request that is kept as the bytes of its state.
use Rattle.std.proofs.Common.{◌≡◌, List, ℕ, Result, Ok, refl, subst, sym}
use Rattle.std.specs.Prelude.{IsOk}
use Rattle.cluster_state.specs.declared.state.ClusterState.{ClusterState}
use Rattle.cluster_state.specs.declared.fault.StateFault.{StateFault}
use Rattle.cluster_state.specs.States.{Spells, state, whole}
use Rattle.cluster_state.specs.Viewed.{state_in}
use Rattle.cluster_state.proofs.StateLaws.{state_law}
use Rattle.cluster_state.proofs.Whole.{whole_again}

is_ok_of : (r : Result ClusterState StateFault) (s : ClusterState) → r ≡ Ok s → IsOk r
is_ok_of r s e = subst (λ (x : Result ClusterState StateFault). IsOk x) (sym e) refl

is_in : (r : Result ClusterState StateFault) (s : ClusterState) → r ≡ Ok s → state_in r ≡ s
is_in r s e = rw e refl

pub good_bytes : (s : ClusterState) (bytes : List ℕ) → Spells state s bytes → IsOk (whole (state.at bytes))
good_bytes s bytes spelled = is_ok_of (whole (state.at bytes)) s (whole_again state state_law bytes s spelled)

pub held_bytes : (s : ClusterState) (bytes : List ℕ) → Spells state s bytes → state_in (whole (state.at bytes)) ≡ s
held_bytes s bytes spelled = is_in (whole (state.at bytes)) s (whole_again state state_law bytes s spelled)

pub read_bytes : (r : Result ClusterState StateFault) (s : ClusterState) → r ≡ Ok s → s ≡ state_in r
read_bytes r s e = sym (is_in r s e)
