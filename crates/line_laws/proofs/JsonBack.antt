-- A state, and a value, is read back from the JSON that is written for it.
use Rattle.std.proofs.Common.{Less, Equal, Greater, ◌≡◌, ℕ, ◌+◌, ◌≤◌, true, ◌&&◌, Some, None, Option, List, [], ◌∷◌, ◌++◌, map, length, refl, sym, ap, ◌∙◌, subst, arith, append-nil, append_assoc, length-append}
use Rattle.std.specs.Prelude.{nat_lt, nat_le, codes, IfSome}
use Rattle.std.specs.Ordering.{nat_cmp, match_ordering}
use Rattle.std.specs.Cmp.Lexicographic.{slice_cmp}
use Rattle.std.specs.List.{list_all, AllByRecursion}
use Rattle.std.specs.Str.{IsUtf8, is_utf8}
use Rattle.std.proofs.lemmas.Bool.{and_parts, and_from}
use Rattle.std.proofs.lemmas.Bool.Decides.{nat_tests}
use Rattle.std.proofs.lemmas.Str.{IsUtf8-from_is_utf8, is_utf8-from_IsUtf8}
use Rattle.json.specs.Tree.{depth, items_depth, members_depth}
use Rattle.json.proofs.Printed.Utf8.{are_ascii, IsUtf8-are_ascii}
use Rattle.serde_json.specs.Data.{string, Members, member, put}
use Rattle.serde_json.specs.Read.{of_json, of_items, of_members, read}
use Rattle.serde_json.specs.View.{items_of}
use Rattle.serde_json.specs.Written.{compact_text, outline, items_outline, members_outline}
use Rattle.serde_json.proofs.Numbers.{number_of-decimal}
use Rattle.voting_config.specs.Ids.{Id, is_id, is_id_byte, comes_after, most_ids}
use Rattle.voting_config.specs.Lists.{may_follow, are_ids_after}
use Rattle.voting_config.proofs.Ascii.{IsUtf8-id}
use Rattle.cluster_state.specs.declared.state.ClusterState.{ClusterState}
use Rattle.cluster_state.specs.declared.state.ClusterValue.{ClusterValue}
use Rattle.cluster_state.specs.declared.state.StateId.{StateId}
use Rattle.cluster_state.specs.Fields.{id, ids, setting}
use Rattle.cluster_state.specs.States.{value}
use Rattle.cluster_state.specs.Json.{ids_json, master_json, setting_members, value_json, parent_json, state_json}
use Rattle.cluster_state.specs.Order.{ascends_from}
use Rattle.cluster_state.specs.Settings.{Setting, comes_after_keys, has_texts, put_setting, IsSettings}
use Rattle.cluster_state.proofs.Putting.{IsSettings-put, put_setting-last}
use Rattle.recorded_trace.specs.Json.{ids_after, ids_in, master_in, settings_after, value_in, parent_in, state_in, shaped, value_at, state_at}
use Rattle.line_laws.specs.Fits.{FitsParent}
use Rattle.line_laws.specs.Readable.{IsReadableState}
use Rattle.line_laws.proofs.Json.{value_counts, state_counts}
use Rattle.line_laws.proofs.JsonText.{AreTexts, ItemsAreTexts, MembersAreTexts, data_utf8, read_back}

-- ---- ids

-- an id that fits is one
pub fit_id : (x : Id) → id.Fits x → is_id x ≡ true
fit_id x h =
    let low : nat_lt 0 (length x) ≡ true = grind (arith, nat_tests, h.0) in
    let high : nat_le (length x) 32 ≡ true = grind (arith, nat_tests, h.1) in
    and_from (nat_lt 0 (length x) && nat_le (length x) 32) (list_all is_id_byte x) (and_from (nat_lt 0 (length x)) (nat_le (length x) 32) low high) h.2

listed_after : (prefix xs : List Id) → length prefix + length xs ≤ most_ids → ascends_from comes_after prefix xs ≡ true → AllByRecursion id.Fits xs → are_ids_after prefix xs ≡ true
listed_after prefix [] few up each = refl
listed_after prefix (x ∷ xs) few up each =
    let parts = and_parts (comes_after x prefix) (ascends_from comes_after (prefix ++ x ∷ []) xs) up in
    let room : nat_lt (length prefix) most_ids ≡ true = grind (arith, nat_tests, few) in
    let longer : length (prefix ++ x ∷ []) + length xs ≤ most_ids = omega (arith, length-append prefix (x ∷ [])) in
    and_from (may_follow prefix x) (are_ids_after (prefix ++ x ∷ []) xs)
    (and_from (is_id x && nat_lt (length prefix) most_ids) (comes_after x prefix) (and_from (is_id x) (nat_lt (length prefix) most_ids) (fit_id x each.0) room) parts.0)
    (listed_after (prefix ++ x ∷ []) xs longer parts.1 each.1)

-- ids that fit are a list
pub listed : (xs : List Id) → (ids most_ids).Fits xs → are_ids_after [] xs ≡ true
listed xs h = listed_after [] xs (omega (arith, h.0)) h.1 h.2

texts_back : (xs : List Id) → of_items (items_outline (items_of (map string xs))) ≡ Some (items_of (map string xs))
texts_back [] = refl
texts_back (x ∷ xs) = rw (texts_back xs) refl

texts_shallow : (xs : List Id) → items_depth (items_outline (items_of (map string xs))) ≤ 0
texts_shallow [] = omega arith
texts_shallow (x ∷ xs) = omega (arith, texts_shallow xs)

texts_utf8 : (xs : List Id) → AllByRecursion id.Fits xs → ItemsAreTexts (items_of (map string xs))
texts_utf8 [] h = tt
texts_utf8 (x ∷ xs) h = (IsUtf8-id x (fit_id x h.0), texts_utf8 xs h.1)

ids_read : (prefix xs : List Id) → are_ids_after prefix xs ≡ true → ids_after prefix (items_of (map string xs)) ≡ Some (prefix ++ xs)
ids_read prefix [] h = ap Some (sym (append-nil prefix))
ids_read prefix (x ∷ xs) h =
    let parts = and_parts (may_follow prefix x) (are_ids_after (prefix ++ x ∷ []) xs) h in
    let is : is_id x ≡ true = (and_parts (is_id x) (nat_lt (length prefix) most_ids) (and_parts (is_id x && nat_lt (length prefix) most_ids) (comes_after x prefix) parts.0).0).0 in
    rw (is, parts.0) (ids_read (prefix ++ x ∷ []) xs parts.1 ∙ ap Some (append_assoc prefix (x ∷ []) xs))

ids_again : (xs : List Id) → (ids most_ids).Fits xs → ids_in (ids_json xs) ≡ Some xs
ids_again xs h = ids_read [] xs (listed xs h)

-- ---- a master

master_back : (o : Option Id) → of_json (outline (master_json o)) ≡ Some (master_json o)
master_back None = refl
master_back (Some x) = refl

master_shallow : (o : Option Id) → depth (outline (master_json o)) ≤ 0
master_shallow None = omega arith
master_shallow (Some x) = omega arith

master_utf8 : (o : Option Id) → IfSome o id.Fits → AreTexts (master_json o)
master_utf8 None h = tt
master_utf8 (Some x) h = IsUtf8-id x (fit_id x h)

master_again : (o : Option Id) → IfSome o id.Fits → master_in (master_json o) ≡ Some o
master_again None h = refl
master_again (Some x) h = rw (fit_id x h) refl

-- ---- settings

put_is : (s : Setting) (ts : List Setting) → put s.0 (string s.1) (setting_members ts) ≡ setting_members (put_setting s ts)
put_is s [] = refl
put_is s (t ∷ ts) =
    elim (slice_cmp nat_cmp s.0 t.0) as (λ o. match_ordering o (member s.0 (string s.1) (member t.0 (string t.1) (setting_members ts))) (member t.0 (string s.1) (setting_members ts)) (member t.0 (string t.1) (put s.0 (string s.1) (setting_members ts)))
    ≡ setting_members (match_ordering o (s ∷ t ∷ ts) ((t.0, s.1) ∷ ts) (t ∷ put_setting s ts))) [
      | Less ↦ refl
      | Equal ↦ refl
      | Greater ↦ ap (λ (ms : Members). member t.0 (string t.1) ms) (put_is s ts)
    ]

-- what is put behind settings that come before it
last_put : (s : Setting) (prefix : List Setting) → IsSettings prefix → comes_after_keys s prefix ≡ true → put s.0 (string s.1) (setting_members prefix) ≡ setting_members (prefix ++ s ∷ [])
last_put s prefix set after = put_is s prefix ∙ ap setting_members (put_setting-last s prefix set after)

one_more : (s : Setting) (prefix : List Setting) → IsSettings prefix → comes_after_keys s prefix ≡ true → has_texts s ≡ true → IsSettings (prefix ++ s ∷ [])
one_more s prefix set after texts = subst IsSettings (put_setting-last s prefix set after) (IsSettings-put s prefix set texts)

settings_back : (prefix ss : List Setting) → IsSettings prefix → ascends_from comes_after_keys prefix ss ≡ true → list_all has_texts ss ≡ true
    → of_members (members_outline (setting_members ss)) (setting_members prefix) ≡ Some (setting_members (prefix ++ ss))
settings_back prefix [] set up texts = ap (λ (l : List Setting). Some (setting_members l)) (sym (append-nil prefix))
settings_back prefix (s ∷ ss) set up texts =
    let parts = and_parts (comes_after_keys s prefix) (ascends_from comes_after_keys (prefix ++ s ∷ []) ss) up in
    let each = and_parts (has_texts s) (list_all has_texts ss) texts in
    ap (λ (ms : Members). of_members (members_outline (setting_members ss)) ms) (last_put s prefix set parts.0)
    ∙ settings_back (prefix ++ s ∷ []) ss (one_more s prefix set parts.0 each.0) parts.1 each.1
    ∙ ap (λ (l : List Setting). Some (setting_members l)) (append_assoc prefix (s ∷ []) ss)

settings_read : (prefix ss : List Setting) → IsSettings prefix → ascends_from comes_after_keys prefix ss ≡ true → list_all has_texts ss ≡ true → settings_after prefix (setting_members ss) ≡ Some (prefix ++ ss)
settings_read prefix [] set up texts = ap Some (sym (append-nil prefix))
settings_read prefix (s ∷ ss) set up texts =
    let parts = and_parts (comes_after_keys s prefix) (ascends_from comes_after_keys (prefix ++ s ∷ []) ss) up in
    let each = and_parts (has_texts s) (list_all has_texts ss) texts in
    ap (λ (l : List Setting). settings_after l (setting_members ss)) (put_setting-last s prefix set parts.0)
    ∙ settings_read (prefix ++ s ∷ []) ss (one_more s prefix set parts.0 each.0) parts.1 each.1
    ∙ ap Some (append_assoc prefix (s ∷ []) ss)

settings_shallow : (ss : List Setting) → members_depth (members_outline (setting_members ss)) ≤ 0
settings_shallow [] = omega arith
settings_shallow (s ∷ ss) = omega (arith, settings_shallow ss)

settings_utf8 : (ss : List Setting) → AllByRecursion setting.Fits ss → MembersAreTexts (setting_members ss)
settings_utf8 [] h = tt
settings_utf8 (s ∷ ss) h = (IsUtf8-from_is_utf8 s.0 h.0.0.2, IsUtf8-from_is_utf8 s.1 h.0.1.2, settings_utf8 ss h.1)

all_texts : (ss : List Setting) → AllByRecursion setting.Fits ss → list_all has_texts ss ≡ true
all_texts [] h = refl
all_texts (s ∷ ss) h = and_from (has_texts s) (list_all has_texts ss) (and_from (is_utf8 s.0) (is_utf8 s.1) h.0.0.2 h.0.1.2) (all_texts ss h.1)

no_settings : IsSettings []
no_settings = record { ascending = refl; texts = refl }

-- ---- a value

value_back : (v : ClusterValue) → value.Fits v → of_json (outline (value_json v)) ≡ Some (value_json v)
value_back v h = rw (texts_back v.exclusions, master_back v.master, texts_back v.members, settings_back [] v.settings no_settings h.1.1.1.1 (all_texts v.settings h.1.1.1.2)) refl

value_shallow : (v : ClusterValue) → depth (outline (value_json v)) ≤ 2
value_shallow v = omega (arith, texts_shallow v.exclusions, master_shallow v.master, texts_shallow v.members, settings_shallow v.settings)

key : (k : List ℕ) → are_ascii k ≡ true → IsUtf8 k
key k h = IsUtf8-are_ascii k h

value_utf8 : (v : ClusterValue) → value.Fits v → AreTexts (value_json v)
value_utf8 v h = ((
  key (codes "exclusions") refl,
  texts_utf8 v.exclusions h.1.1.0.2,
  (
    key (codes "master") refl,
    master_utf8 v.master h.0,
    (
      key (codes "members") refl,
      texts_utf8 v.members h.1.0.2,
      (key (codes "settings") refl, settings_utf8 v.settings h.1.1.1.2, tt),
    ),
  ),
)
    )

fewer_ids : (xs : List Id) → (ids 10).Fits xs → (ids most_ids).Fits xs
fewer_ids xs h = (omega (arith, h.0), h.1, h.2)

value_again : (v : ClusterValue) → value.Fits v → value_in (value_json v) ≡ Some v
value_again v h =
    rw (ids_again v.exclusions (fewer_ids v.exclusions h.1.1.0), master_again v.master h.0, ids_again v.members h.1.0, settings_read [] v.settings no_settings h.1.1.1.1 (all_texts v.settings h.1.1.1.2)) refl

pub value_told : (v : ClusterValue) → value.Fits v → value_at (compact_text (value_json v)) ≡ shaped (Some v)
value_told v h =
    let utf8 : is_utf8 (compact_text (value_json v)) ≡ true = is_utf8-from_IsUtf8 _ (data_utf8 (value_json v) (value_counts v) (value_utf8 v h)) in
    let back : read (compact_text (value_json v)) ≡ Some (value_json v) = read_back (value_json v) (value_counts v) (omega (arith, value_shallow v)) (value_back v h) in
    rw (utf8, back) (ap shaped (value_again v h))

-- ---- a state

parent_back : (o : Option StateId) → FitsParent o → of_json (outline (parent_json o)) ≡ Some (parent_json o)
parent_back None h = refl
parent_back (Some i) h = rw (number_of-decimal i.term h.0, number_of-decimal i.version h.1) refl

parent_shallow : (o : Option StateId) → depth (outline (parent_json o)) ≤ 1
parent_shallow None = omega arith
parent_shallow (Some i) = omega arith

parent_utf8 : (o : Option StateId) → AreTexts (parent_json o)
parent_utf8 None = tt
parent_utf8 (Some i) = (key (codes "term") refl, tt, (key (codes "version") refl, tt, tt))

parent_again : (o : Option StateId) → parent_in (parent_json o) ≡ Some o
parent_again None = refl
parent_again (Some i) = refl

state_back : (s : ClusterState) → IsReadableState s → of_json (outline (state_json s)) ≡ Some (state_json s)
state_back s h =
    rw (texts_back s.committed, texts_back s.config, parent_back s.parent h.numbers.1, number_of-decimal s.term h.numbers.0.0, value_back s.value h.value, number_of-decimal s.version h.numbers.0.1) refl

state_shallow : (s : ClusterState) → depth (outline (state_json s)) ≤ 3
state_shallow s = omega (arith, texts_shallow s.committed, texts_shallow s.config, parent_shallow s.parent, value_shallow s.value)

state_utf8 : (s : ClusterState) → IsReadableState s → AreTexts (state_json s)
state_utf8 s h = ((
  key (codes "committed") refl,
  texts_utf8 s.committed h.committed.2,
  (
    key (codes "config") refl,
    texts_utf8 s.config h.config.2,
    (
      key (codes "parent") refl,
      parent_utf8 s.parent,
      (
        key (codes "term") refl,
        tt,
        (
          key (codes "value") refl,
          value_utf8 s.value h.value,
          (key (codes "version") refl, tt, tt),
        ),
      ),
    ),
  ),
)
    )

state_again : (s : ClusterState) → IsReadableState s → state_in (state_json s) ≡ Some s
state_again s h = rw (ids_again s.committed h.committed, ids_again s.config h.config, parent_again s.parent, value_again s.value h.value) refl

pub state_told : (s : ClusterState) → IsReadableState s → state_at (compact_text (state_json s)) ≡ shaped (Some s)
state_told s h =
    let small = state_counts s h.numbers in
    let utf8 : is_utf8 (compact_text (state_json s)) ≡ true = is_utf8-from_IsUtf8 _ (data_utf8 (state_json s) small (state_utf8 s h)) in
    let back : read (compact_text (state_json s)) ≡ Some (state_json s) = read_back (state_json s) small (omega (arith, state_shallow s)) (state_back s h) in
    rw (utf8, back) (ap shaped (state_again s h))
