-- For the contracts inside: a field that is passed over, so that nothing is made of its bytes.
use Rattle.std.specs.Prelude.{◌≡◌, ℕ, Bool, true, List, Option, Some, None, Result, Ok, Err}
use Rattle.voting_config.specs.Ids.{Id, before}
use Rattle.cluster_state.specs.declared.fault.FieldError.{FieldError}
use Rattle.cluster_state.specs.declared.fault.StateFault.{StateFault}
use Rattle.cluster_state.specs.declared.state.ClusterState.{ClusterState}
use Rattle.cluster_state.specs.declared.state.StateId.{StateId}
use Rattle.cluster_state.specs.States.{id_of}

-- a field was passed over, and these bytes are left; or this is its first fault
abbrev pub Passes : {U X : Type 0} → Result U FieldError → List ℕ → Result (X × List ℕ) FieldError → Type 0
Passes {U} {X} (Ok u) rest read = (x : X) × (read ≡ Ok (x, rest))
Passes (Err e) rest read = read ≡ Err e

-- the same of a state, of which the id is told
abbrev pub PassesState : Result StateId FieldError → List ℕ → Result (ClusterState × List ℕ) FieldError → Type 0
PassesState (Ok id) rest read = (s : ClusterState) × (read ≡ Ok (s, rest)) × (id_of s ≡ id)
PassesState (Err e) rest read = read ≡ Err e

-- the id of the state that was found, or the first fault
abbrev pub id_found : Result ClusterState StateFault → Result StateId StateFault
id_found (Ok s) = Ok (id_of s)
id_found (Err f) = Err f

-- whether it comes after the last one, where there is one
abbrev pub is_after_last : Option Id → Id → Bool
is_after_last None next = true
is_after_last (Some last) next = before last next
