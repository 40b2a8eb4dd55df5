-- An id's bytes, filled up, are an id as it is held.
use Rattle.std.proofs.Common.{◌≡◌, ℕ, ◌+◌, ◌-◌, ◌<◌, ◌≤◌, ◌++◌, List, false, length, take, drop, get_or, min, refl, ap, ◌∙◌, arith, inl, inr, IsTrue, ◌&&◌, nat_lt, length-append}
use Rattle.std.specs.Prelude.{nat_le}
use Rattle.std.specs.List.{list_all}
use Rattle.std.proofs.Math.Nat.{min-eq_left, min-eq_right}
use Rattle.std.proofs.lemmas.Bool.{and_parts, cases_lt}
use Rattle.std.proofs.lemmas.Bool.Decides.{nat_tests}
use Rattle.std.proofs.lemmas.List.{take_at, get_or-drop, get_or_append_left, get_or-append_right, length-drop}
use Rattle.std.proofs.lemmas.List.Folds.{list_all_at}
use Rattle.voting_config.specs.Ids.{is_id, is_id_byte}
use Rattle.voting_config.specs.Padded.{IsPadded, blank, padded, held_length, id_length}

-- the last place of an id of fewer than 32 bytes says how many it has
last_of_short : (text : List ℕ) → length text < 32 → get_or (padded text) 31 0 ≡ length text
last_of_short text short =
    let place : length text + (31 - length text) ≡ 31 = omega (arith, short) in
    get_or-append_right text (drop (length text) (blank (length text))) (length text) 31 0 refl (omega (arith, short))
    ∙ get_or-drop (length text) (blank (length text)) (31 - length text) 0
    ∙ ap (λ i. get_or (blank (length text)) i 0) place

-- no byte of an id is below 32
last_of_full : (text : List ℕ) → IsTrue (is_id text) → 32 ≤ length text → 32 ≤ get_or (padded text) 31 0
last_of_full text h full =
    let there : get_or (padded text) 31 0 ≡ get_or text 31 0 = get_or_append_left text (drop (length text) (blank (length text))) 0 31 (omega (arith, full)) in
    let bytes = and_parts (nat_lt 0 (length text) && nat_le (length text) 32) _ h in
    elim (cases_lt (get_or text 31 0) 32) [
      | inl below ↦
          let no : is_id_byte (get_or text 31 0) ≡ false = grind (arith, nat_tests, below) in
          let none : list_all is_id_byte text ≡ false = list_all_at is_id_byte text 31 0 (omega (arith, full)) no in
          absurd (cc (none, bytes.1))
      | inr above ↦ omega (arith, there, above)
    ]

held_length_of : (text : List ℕ) → IsTrue (is_id text) → held_length (padded text) ≡ length text
held_length_of text h =
    elim (cases_lt (length text) 32) [
      | inl short ↦ ap (λ n. min n 32) (last_of_short text short) ∙ min-eq_left (omega (arith, short))
      | inr full ↦ min-eq_right (last_of_full text h full) ∙ omega (arith, full, id_length text h)
    ]

pub padded_back : (text : List ℕ) → IsTrue (is_id text) → take (held_length (padded text)) (padded text) ≡ text
padded_back text h = rw (held_length_of text h) (take_at text (drop (length text) (blank (length text))) (length text) refl)

pub is_padded : (text : List ℕ) (d : List ℕ) → IsTrue (is_id text) → d ≡ blank (length text) → IsPadded (text ++ drop (length text) d)
is_padded text d h e =
    let text_back = padded_back text h in
    rw e (record {
      full = rw (length-append, length-drop) (omega (arith, id_length text h));
      id = rw text_back h;
      back = ap padded text_back;
    })
