-- For the contracts inside: what a state holds but its term and version, as bytes.
use Rattle.std.specs.Prelude.{ℕ, zero, suc, ◌+◌, ◌/◌, ◌%◌, Option, List, [], ◌∷◌, ◌++◌, length, nat_lt, if◌then◌else◌}
use Rattle.std.specs.List.{flat_map}
use Rattle.voting_config.specs.Ids.{most_ids}
use Rattle.cluster_state.specs.Field.{optional, optional_spelling}
use Rattle.cluster_state.specs.Fields.{id, ids}
use Rattle.cluster_state.specs.Settings.{Setting}
use Rattle.cluster_state.specs.declared.state.ClusterState.{ClusterState}
use Rattle.cluster_state.specs.declared.state.StateId.{StateId}

-- seven bits a byte, the lowest first, and each byte but the last has 128 more; what is left after so many is the last, whatever it is
abbrev pub sevens : ℕ → ℕ → List ℕ
sevens zero n = n ∷ []
sevens (suc most) n = if nat_lt n 128 then n ∷ [] else (n % 128 + 128) ∷ sevens most (n / 128)

-- a number, which has fewer sevens than itself
unfoldable pub number_bytes : ℕ → List ℕ
number_bytes n = sevens n n

abbrev pub text_bytes : List ℕ → List ℕ
text_bytes text = number_bytes (length text) ++ text

abbrev pub setting_bytes : Setting → List ℕ
setting_bytes s = text_bytes s.0 ++ text_bytes s.1

abbrev pub settings_bytes : List Setting → List ℕ
settings_bytes settings = number_bytes (length settings) ++ flat_map setting_bytes settings

abbrev pub numbers_bytes : StateId → List ℕ
numbers_bytes id = number_bytes id.term ++ number_bytes id.version

abbrev pub parent_bytes : Option StateId → List ℕ
parent_bytes parent = optional_spelling numbers_bytes parent

abbrev pub contents_bytes : ClusterState → List ℕ
contents_bytes s =
    parent_bytes s.parent
    ++ (ids most_ids).spelling s.config
    ++ (ids most_ids).spelling s.committed
    ++ (optional id).spelling s.value.master
    ++ (ids most_ids).spelling s.value.members
    ++ (ids most_ids).spelling s.value.exclusions
    ++ settings_bytes s.value.settings
