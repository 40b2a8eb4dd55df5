-- A setting taken out of settings.
use Rattle.std.proofs.Common.{◌≡◌, ℕ, Bool, true, false, not, cond, List, [], ◌∷◌, map, filter, refl, sym, ap, subst, ◌∙◌}
use Rattle.std.specs.Prelude.{String, string_bytes}
use Rattle.std.specs.List.{list_all}
use Rattle.std.specs.Map.{remove_entry}
use Rattle.std.specs.Ordering.{is_eq, nat_cmp}
use Rattle.std.specs.Cmp.Lexicographic.{slice_cmp, same_text}
use Rattle.std.specs.Str.{bytes_eq}
use Rattle.std.specs.declared.alloc.Global.{Global}
use Rattle.std.proofs.lemmas.Bool.{and_parts, and_from, or_parts}
use Rattle.voting_config.specs.Ids.{before, is_below, ascends, has}
use Rattle.voting_config.proofs.Sorted.{is_below-absent}
use Rattle.cluster_state.specs.Settings.{Setting, setting_of, has_texts, without_key, IsSettings}
use Rattle.cluster_state.proofs.JsonLaws.{keys, ascending_keys}
use Rattle.cluster_state.proofs.Fitting.{ascends_from-keys}
use Rattle.cluster_state.proofs.Putting.{eq_flipped}

-- no setting has the key
without_absent : (key : List ℕ) (ss : List Setting) → has key (keys ss) ≡ false → without_key key ss ≡ ss
without_absent key [] h = refl
without_absent key (s ∷ ss) h =
    let apart : (bytes_eq s.0 key ≡ false) × (has key (keys ss) ≡ false) = or_parts (bytes_eq s.0 key) (has key (keys ss)) h in
    rw apart.0 (ap (λ t. s ∷ t) (without_absent key ss apart.1))

-- how a map's remove looks in the view
pub map-remove_entry : (key : List ℕ) (es : List (String Global × String Global)) → ascends (keys (map setting_of es)) ≡ true
    → map setting_of (remove_entry (λ k. is_eq (slice_cmp nat_cmp key (string_bytes k))) es) ≡ without_key key (map setting_of es)
map-remove_entry key [] h = refl
map-remove_entry key (e ∷ es) h =
    let parts = and_parts (is_below (string_bytes e.0) (keys (map setting_of es))) (ascends (keys (map setting_of es))) h in
    let rest = remove_entry (λ k. is_eq (slice_cmp nat_cmp key (string_bytes k))) es in
    let cases =
    elim (bytes_eq (string_bytes e.0) key) as (λ b. bytes_eq (string_bytes e.0) key ≡ b → map setting_of (cond b es (e ∷ rest)) ≡ cond (not b) (setting_of e ∷ without_key key (map setting_of es)) (without_key key (map setting_of es))) [
      | true ↦ λ same.
          let below : is_below key (keys (map setting_of es)) ≡ true = subst (λ (k : List ℕ). is_below k (keys (map setting_of es)) ≡ true) (same_text (string_bytes e.0) key (sym same)) parts.0 in
          sym (without_absent key (map setting_of es) (is_below-absent key (keys (map setting_of es)) below))
      | false ↦ λ other. ap (λ t. setting_of e ∷ t) (map-remove_entry key es parts.1)
    ] refl in
    ap (λ b. map setting_of (cond b es (e ∷ rest))) (eq_flipped key (string_bytes e.0)) ∙ cases

list_all-without : {A : Type 0} (p q : A → Bool) (xs : List A) → list_all p xs ≡ true → list_all p (filter q xs) ≡ true
list_all-without p q [] h = refl
list_all-without p q (x ∷ xs) h =
    let parts = and_parts (p x) (list_all p xs) h in
    elim (q x) as (λ b. list_all p (cond b (x ∷ filter q xs) (filter q xs)) ≡ true) [
      | true ↦ and_from _ _ parts.0 (list_all-without p q xs parts.1)
      | false ↦ list_all-without p q xs parts.1
    ]

below_without : (x key : List ℕ) (ss : List Setting) → is_below x (keys ss) ≡ true → is_below x (keys (without_key key ss)) ≡ true
below_without x key [] h = refl
below_without x key (s ∷ ss) h =
    let parts = and_parts (before x s.0) (is_below x (keys ss)) h in
    elim (not (bytes_eq s.0 key)) as (λ b. is_below x (keys (cond b (s ∷ without_key key ss) (without_key key ss))) ≡ true) [
      | true ↦ and_from _ _ parts.0 (below_without x key ss parts.1)
      | false ↦ below_without x key ss parts.1
    ]

pub ascends_without : (key : List ℕ) (ss : List Setting) → ascends (keys ss) ≡ true → ascends (keys (without_key key ss)) ≡ true
ascends_without key [] h = refl
ascends_without key (s ∷ ss) h =
    let parts = and_parts (is_below s.0 (keys ss)) (ascends (keys ss)) h in
    elim (not (bytes_eq s.0 key)) as (λ b. ascends (keys (cond b (s ∷ without_key key ss) (without_key key ss))) ≡ true) [
      | true ↦ and_from _ _ (below_without s.0 key ss parts.0) (ascends_without key ss parts.1)
      | false ↦ ascends_without key ss parts.1
    ]

pub IsSettings-without : (key : List ℕ) (ss : List Setting) → IsSettings ss → IsSettings (without_key key ss)
IsSettings-without key ss settings = record {
  ascending = ascends_from-keys [] (without_key key ss) (ascends_without key ss (ascending_keys [] ss refl settings.ascending));
  texts = list_all-without has_texts (λ s. not (bytes_eq s.0 key)) ss settings.texts;
}
