-- For the contracts inside: the bytes of a state from which its frames are made.
use Rattle.std.specs.Prelude.{◌≡◌, ℕ, ◌≤◌, ◌++◌, ◌∷◌, List}
use Rattle.cluster_state.specs.Field.{last_number}
use Rattle.voting_config.specs.Ids.{Id, most_ids}
use Rattle.cluster_state.specs.Fields.{term, version, ids}
use Rattle.cluster_state.specs.States.{state}
use Rattle.cluster_state.specs.declared.state.ClusterState.{ClusterState}
use Rattle.cluster_state.specs.declared.state.Kept.{Kept}

-- the bytes of a state, and the frame that was last laid around them
pub record Drafted : Type 0 where
  pub state : List ℕ
  pub frame : List ℕ

-- how many bytes stand free before a state: the length, the tag, the epoch and the term of a generation
abbrev pub room_before : ℕ
room_before = 21

-- and after it: a committed configuration, the digest and the closed gate
abbrev pub room_behind : ℕ
room_behind = 2146

-- no state is spelled by more bytes
abbrev pub most_state_bytes : ℕ
most_state_bytes = 4800000

-- a state that is ready to be kept
pub record ToKeep : Type 0 where
  pub state : ClusterState

-- this state has a spelling, from which it can be read again
unfoldable pub HasSpelling : ClusterState → Type 0
HasSpelling s = state.Fits s

-- its bytes are the spelling of this state
pub record IsDraft (s : ClusterState) (draft : Drafted) : Type 0 where
  pub spelled : draft.state ≡ state.spelling s
  pub fits : HasSpelling s

-- this record may begin a generation
pub record MayBegin (kept : Kept) : Type 0 where
  pub bounded : kept.term ≤ last_number
  pub fits : state.Fits kept.accepted
  pub named : (ids most_ids).Fits kept.committed
  pub older : kept.accepted.term ≤ kept.term

-- what stands before the digest in the body of a generation with this epoch and this term, a state of these bytes and this committed
-- configuration
abbrev pub generation_prefix : ℕ → ℕ → List ℕ → List Id → List ℕ
generation_prefix epoch t accepted committed = 132
    ∷ (version.spelling epoch ++ (term.spelling t ++ (accepted ++ (ids most_ids).spelling committed)))
