-- For the contracts inside: the digest of a body that accepts a state.
use Rattle.std.specs.Prelude.{ℕ, List, ◌∷◌}
use Rattle.sha2.specs.Sha256.{sha256}
use Rattle.cluster_state.specs.States.{state}
use Rattle.cluster_state.specs.declared.state.ClusterState.{ClusterState}

-- the first byte of a journal's body that accepts a state
abbrev pub accepted_tag : ℕ
accepted_tag = 130

-- the SHA-256 of it and of the state's bytes
abbrev pub accepted_digest : ClusterState → List ℕ
accepted_digest s = sha256 (accepted_tag ∷ state.spelling s)
