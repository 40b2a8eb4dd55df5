-- No line feed stands in JSON; and the numbers of a state.
use Rattle.std.proofs.Common.{ℤ, pos, negsuc, suc, ◌≡◌, ℕ, ◌/◌, ◌%◌, Bool, true, false, cond, not, Option, None, Some, List, [], ◌∷◌, ◌++◌, refl, decimal, arith}
use Rattle.std.specs.Prelude.{◌==◌, nat_lt}
use Rattle.std.specs.Char.{digit_char}
use Rattle.std.specs.Fmt.{signed_decimal}
use Rattle.schedule_text.specs.Words.{is_digit}
use Rattle.std.proofs.lemmas.Bool.Decides.{nat_tests}
use Rattle.json.specs.Print.{escape, escape_byte, escape_letter, quoted}
use Rattle.serde_json.specs.Data.{Num, unsigned, negative, float, Data, null, boolean, number, string, array, object, Items, no_items, item, Members, no_members, member}
use Rattle.serde_json.specs.Written.{compact_text, items_text, members_text, number_text, comma_if}
use Rattle.voting_config.specs.Ids.{Id}
use Rattle.cluster_state.specs.declared.state.ClusterState.{ClusterState}
use Rattle.cluster_state.specs.declared.state.ClusterValue.{ClusterValue}
use Rattle.cluster_state.specs.declared.state.StateId.{StateId}
use Rattle.cluster_state.specs.Settings.{Setting}
use Rattle.cluster_state.specs.Json.{ids_json, master_json, settings_json, value_json, parent_json, state_json}
use Rattle.schedule_text.proofs.WordLaws.{lacks, all_append, all_weaker}
use Rattle.line_laws.specs.Fits.{IsSmall, FitsParent, FitsState}
use Rattle.line_laws.proofs.Plain.{number_digits}

pub both : (xs ys : List ℕ) → lacks 10 xs ≡ true → lacks 10 ys ≡ true → lacks 10 (xs ++ ys) ≡ true
both xs ys h k = all_append (λ b. not (b == 10)) xs ys h k

digit_feed : (b : ℕ) → is_digit b ≡ true → not (b == 10) ≡ true
digit_feed b h = grind (arith, nat_tests)

pub digits_feedless : (x : ℕ) → lacks 10 (decimal x) ≡ true
digits_feedless x = all_weaker is_digit (λ b. not (b == 10)) digit_feed (decimal x) (number_digits x)

-- ---- strings

letter_feedless : (x : ℕ) → not (escape_letter x == 10) ≡ true
letter_feedless x = grind (arith, nat_tests)

digit_feedless : (x : ℕ) → not (digit_char x == 10) ≡ true
digit_feedless x = grind (arith, nat_tests)

byte_feedless : (x : ℕ) → lacks 10 (escape_byte x) ≡ true
unfolding escape_byte
byte_feedless x =
    elim (nat_lt 0 (escape_letter x)) as (λ b. lacks 10 (cond b (92 ∷ escape_letter x ∷ []) (cond (nat_lt x 32) (92 ∷ 117 ∷ 48 ∷ 48 ∷ digit_char (x / 16) ∷ digit_char (x % 16) ∷ []) (x ∷ []))) ≡ true) [
      | true ↦ rw (letter_feedless x) refl
      | false ↦
          elim (nat_lt x 32) as (λ b. nat_lt x 32 ≡ b → lacks 10 (cond b (92 ∷ 117 ∷ 48 ∷ 48 ∷ digit_char (x / 16) ∷ digit_char (x % 16) ∷ []) (x ∷ [])) ≡ true) [
            | true ↦ λ e. rw (digit_feedless (x / 16), digit_feedless (x % 16)) refl
            | false ↦ λ e. let other : not (x == 10) ≡ true = grind (arith, nat_tests) in rw other refl
          ] refl
    ]

escape_feedless : (s : List ℕ) → lacks 10 (escape s) ≡ true
escape_feedless [] = refl
escape_feedless (x ∷ xs) = both (escape_byte x) (escape xs) (byte_feedless x) (escape_feedless xs)

quoted_feedless : (s : List ℕ) → lacks 10 (quoted s) ≡ true
quoted_feedless s = both (escape s) (34 ∷ []) (escape_feedless s) refl

-- ---- values

signed_feedless : (z : ℤ) → lacks 10 (signed_decimal z) ≡ true
signed_feedless (pos n) = digits_feedless n
signed_feedless (negsuc n) = digits_feedless (suc n)

number_feedless : (n : Num) → lacks 10 (number_text n) ≡ true
number_feedless (unsigned n) = digits_feedless n
number_feedless (negative z) = signed_feedless z
number_feedless (float x) = refl

comma_feedless : (later : Bool) → lacks 10 (comma_if later) ≡ true
comma_feedless true = refl
comma_feedless false = refl

mutual
  pub data_feedless : (d : Data) → lacks 10 (compact_text d) ≡ true
  data_feedless null = refl
  data_feedless (boolean true) = refl
  data_feedless (boolean false) = refl
  data_feedless (number n) = number_feedless n
  data_feedless (string s) = quoted_feedless s
  data_feedless (array ds) = items_feedless false ds
  data_feedless (object ms) = members_feedless false ms

  items_feedless : (later : Bool) (ds : Items) → lacks 10 (items_text later ds) ≡ true
  items_feedless later no_items = refl
  items_feedless later (item d ds) = both (comma_if later) (compact_text d ++ items_text true ds) (comma_feedless later) (both (compact_text d) (items_text true ds) (data_feedless d) (items_feedless true ds))

  members_feedless : (later : Bool) (ms : Members) → lacks 10 (members_text later ms) ≡ true
  members_feedless later no_members = refl
  members_feedless later (member k d ms) =
      both (comma_if later) (quoted k ++ 58 ∷ (compact_text d ++ members_text true ms)) (comma_feedless later)
      (both (quoted k) (58 ∷ (compact_text d ++ members_text true ms)) (quoted_feedless k) (both (compact_text d) (members_text true ms) (data_feedless d) (members_feedless true ms)))

-- ---- values whose numbers have 64 bits and no sign

abbrev pub IsCount : Num → Type 0
IsCount (unsigned n) = IsSmall n
IsCount (negative z) = ⊥
IsCount (float x) = ⊥

abbrev mutual
  pub counts : Data → Type 0
  counts null = Unit {0}
  counts (boolean b) = Unit {0}
  counts (number n) = IsCount n
  counts (string s) = Unit {0}
  counts (array ds) = items_count ds
  counts (object ms) = members_count ms

  pub items_count : Items → Type 0
  items_count no_items = Unit {0}
  items_count (item d ds) = counts d × items_count ds

  pub members_count : Members → Type 0
  members_count no_members = Unit {0}
  members_count (member k d ms) = counts d × members_count ms

-- ---- states

ids_count : (xs : List Id) → counts (ids_json xs)
ids_count [] = tt
ids_count (x ∷ xs) = (tt, ids_count xs)

master_count : (m : Option Id) → counts (master_json m)
master_count None = tt
master_count (Some x) = tt

settings_count : (ss : List Setting) → counts (settings_json ss)
settings_count [] = tt
settings_count (s ∷ ss) = (tt, settings_count ss)

pub value_counts : (v : ClusterValue) → counts (value_json v)
value_counts v = (ids_count v.exclusions, (master_count v.master, (ids_count v.members, (settings_count v.settings, tt))))

parent_count : (o : Option StateId) → FitsParent o → counts (parent_json o)
parent_count None h = tt
parent_count (Some i) h = (h.0, (h.1, tt))

pub state_counts : (s : ClusterState) → FitsState s → counts (state_json s)
state_counts s h = (ids_count s.committed, (ids_count s.config, (parent_count s.parent h.1, (h.0.0, (value_counts s.value, (h.0.1, tt))))))
