-- The JSON of a state has no float, an array and an object have as many parts as what they show, and settings ascend.
use Rattle.std.proofs.Common.{◌≡◌, ℕ, true, false, String, List, [], ◌∷◌, ◌++◌, length, map, Option, Some, None, refl, ap, suc, subst, append_assoc}
use Rattle.std.specs.declared.alloc.Global.{Global}
use Rattle.std.proofs.lemmas.Bool.{and_parts}
use Rattle.std.proofs.lemmas.List.{map_push, append-nil}
use Rattle.serde_json.specs.Data.{string}
use Rattle.serde_json.specs.View.{items_of}
use Rattle.serde_json.specs.Events.{items_len, members_len}
use Rattle.serde_json.specs.Written.{has_float, items_have_float, members_have_float}
use Rattle.voting_config.specs.Ids.{Id, ascends}
use Rattle.voting_config.proofs.Sorted.{ascends-push}
use Rattle.cluster_state.specs.declared.state.ClusterState.{ClusterState}
use Rattle.cluster_state.specs.declared.state.ClusterValue.{ClusterValue}
use Rattle.cluster_state.specs.declared.state.StateId.{StateId}
use Rattle.cluster_state.specs.Order.{ascends_from}
use Rattle.cluster_state.specs.Settings.{Setting, setting_of, comes_after_keys}
use Rattle.cluster_state.specs.Json.{master_json, setting_members, value_json, parent_json, state_json}

-- ---- no float

pub no_float_texts : (xs : List Id) → items_have_float (items_of (map string xs)) ≡ false
no_float_texts [] = refl
no_float_texts (x ∷ xs) = no_float_texts xs

no_float_settings : (ss : List Setting) → members_have_float (setting_members ss) ≡ false
no_float_settings [] = refl
no_float_settings (s ∷ ss) = no_float_settings ss

no_float_master : (o : Option Id) → has_float (master_json o) ≡ false
no_float_master None = refl
no_float_master (Some x) = refl

pub no_float_value : (v : ClusterValue) → has_float (value_json v) ≡ false
no_float_value v = rw (no_float_texts v.exclusions, no_float_master v.master, no_float_texts v.members, no_float_settings v.settings) refl

no_float_parent : (o : Option StateId) → has_float (parent_json o) ≡ false
no_float_parent None = refl
no_float_parent (Some i) = refl

pub no_float : (s : ClusterState) → has_float (state_json s) ≡ false
no_float s = rw (no_float_texts s.committed, no_float_texts s.config, no_float_parent s.parent, no_float_value s.value) refl

-- ---- how many there are

pub items_len-texts : (xs : List Id) → items_len (items_of (map string xs)) ≡ length xs
items_len-texts [] = refl
items_len-texts (x ∷ xs) = ap suc (items_len-texts xs)

pub members_len-settings : (es : List (String Global × String Global)) → members_len (setting_members (map setting_of es)) ≡ length es
members_len-settings [] = refl
members_len-settings (e ∷ es) = ap suc (members_len-settings es)

-- ---- the keys of settings that ascend

abbrev pub keys : List Setting → List (List ℕ)
keys ss = map (λ s. s.0) ss

pub ascending_keys : (prefix ss : List Setting) → ascends (keys prefix) ≡ true → ascends_from comes_after_keys prefix ss ≡ true → ascends (keys (prefix ++ ss)) ≡ true
ascending_keys prefix [] h k = rw append-nil h
ascending_keys prefix (s ∷ ss) h k =
    let parts = and_parts (comes_after_keys s prefix) (ascends_from comes_after_keys (prefix ++ s ∷ []) ss) k in
    let one : ascends (keys (prefix ++ s ∷ [])) ≡ true = rw map_push (ascends-push s.0 (keys prefix) h parts.0) in
    subst (λ (l : List Setting). ascends (keys l) ≡ true) (append_assoc prefix (s ∷ []) ss) (ascending_keys (prefix ++ s ∷ []) ss one parts.1)
