-- What a bit more or less, and an id more on the roster, make of the set that a word is.
use Rattle.std.proofs.Common.{◌≡◌, ℕ, ◌+◌, ◌*◌, ◌^◌, ◌≤◌, ◌<◌, Bool, true, false, cond, Some, ◌&&◌, ◌||◌, List, [], ◌∷◌, ◌++◌, length, count_by, refl, sym, ◌∙◌, ap, subst, arith, nat_lt, w64}
use Rattle.std.specs.Prelude.{bit_and, bit_or, count_ones}
use Rattle.std.specs.Int.{bit_at, bit_not}
use Rattle.std.specs.Int.Bits.{or_shifted_r, and_self}
use Rattle.std.proofs.lemmas.Bool.{and_from}
use Rattle.std.proofs.lemmas.List.Sums.{sum_by-cons}
use Rattle.std.proofs.lemmas.Nat.{and_le_l, or_lt, pow_below}
use Rattle.std.proofs.lemmas.Nat.Bits.{bit_at_and, bit_at_or, bit_at_not, bit_at-lt, bit_at-pow_same, bit_at-pow_other}
use Rattle.voting_config.specs.Ids.{Id, same, has, with_id, without_id, set_of, are_among, is_quorum_of, most_ids, IsIdSet}
use Rattle.voting_config.specs.Rosters.{are_distinct, IsRoster, place_on, mask_of, ids_at, marked, is_quorum_mask}
use Rattle.voting_config.proofs.Sets.{same_self}
use Rattle.voting_config.proofs.Rosters.{at_roster, ascends-set_of, place_some, place-within, marked-with, marked-without, ids_at-append, mask_of-append, mask_of-lt, mask_of-marked, ones_shared, count_both, count_all_on, distinct_of}

-- the bit of an id set, and cleared

pub marked_or : (x : Id) (roster : List Id) (w place : ℕ) → are_distinct roster ≡ true → place_on roster x ≡ Some place → marked roster (bit_or w (2 ^ place)) ≡ with_id x (marked roster w)
marked_or x roster w place h at =
    let some = place_some x roster place at in
    marked-with x roster w (bit_or w (2 ^ place)) h some.0
    (subst (λ n. bit_at (bit_or w (2 ^ place)) n ≡ 1) some.1 (bit_at_or w (2 ^ place) place ∙ omega (arith, bit_at-pow_same place, bit_at-lt w place)))
    (λ i apart less. bit_at_or w (2 ^ place) i ∙ omega (arith, bit_at-pow_other place i (λ e. apart (e ∙ some.1))))

pub marked_clear : (x : Id) (roster : List Id) (w place : ℕ) → are_distinct roster ≡ true → length roster ≤ most_ids → place_on roster x ≡ Some place → marked roster (bit_and w (bit_not w64 (2 ^ place))) ≡ without_id x (marked roster w)
marked_clear x roster w place h fits at =
    let some = place_some x roster place at in
    let low : place < 64 = omega (arith, place-within x roster place at, fits) in
    marked-without x roster w (bit_and w (bit_not w64 (2 ^ place))) h
    (subst (λ n. bit_at (bit_and w (bit_not w64 (2 ^ place))) n ≡ 0) some.1
    (bit_at_and w (bit_not w64 (2 ^ place)) place ∙ omega (arith, bit_at_not w64 (2 ^ place) place (pow_below place 64 low) low, bit_at-pow_same place)))
    (λ i apart less.
    let within : i < 64 = omega (arith, less, fits) in
    bit_at_and w (bit_not w64 (2 ^ place)) i
    ∙ omega (arith, bit_at_not w64 (2 ^ place) i (pow_below place 64 low) within, bit_at-pow_other place i (λ e. apart (e ∙ some.1)), bit_at-lt w i))

pub or-within : (x : Id) (roster : List Id) (w place : ℕ) → w < 2 ^ length roster → place_on roster x ≡ Some place → bit_or w (2 ^ place) < 2 ^ length roster
or-within x roster w place small at = or_lt (length roster) w (2 ^ place) small (pow_below place (length roster) (place-within x roster place at))

pub and-within : (roster : List Id) (w other : ℕ) → w < 2 ^ length roster → bit_and w other < 2 ^ length roster
and-within roster w other small = omega (arith, and_le_l w other)

zeros : (roster : List Id) → ids_at roster 0 ≡ []
zeros [] = refl
zeros (x ∷ roster) = zeros roster

pub marked_zero : (roster : List Id) → marked roster 0 ≡ []
marked_zero roster = ap set_of (zeros roster)

-- an id more on the roster

pub marked_append : (roster : List Id) (x : Id) (w : ℕ) → w < 2 ^ length roster → marked (roster ++ x ∷ []) w ≡ marked roster w
marked_append roster x w small = ap set_of (ids_at-append roster x w small)

pub mask_admitted : (roster : List Id) (x : Id) (set : List Id) → mask_of (roster ++ x ∷ []) set ≡ cond (has x set) (bit_or (mask_of roster set) (2 ^ length roster)) (mask_of roster set)
mask_admitted roster x set = mask_of-append roster x set ∙ by (has x set) (mask_of-lt roster set)
  where
    by : (b : Bool) → mask_of roster set < 2 ^ length roster → mask_of roster set + cond b 1 0 * 2 ^ length roster ≡ cond b (bit_or (mask_of roster set) (2 ^ length roster)) (mask_of roster set)
    by true below =
        let one : 1 * 2 ^ length roster ≡ 2 ^ length roster = omega arith in
        sym (ap (bit_or (mask_of roster set)) (sym one) ∙ or_shifted_r 1 (length roster) (mask_of roster set) below ∙ omega arith)
    by false below = omega arith

-- the ids of a word are on the roster

pub marked_on : (x : Id) (roster : List Id) (w : ℕ) → are_distinct roster ≡ true → has x (marked roster w) ≡ true → has x roster ≡ true
marked_on x roster w h there =
    elim (has x roster) as (λ b. has x roster ≡ b → b ≡ true) [
      | true ↦ λ e. refl
      | false ↦ λ e. sym (at_roster x roster w h e) ∙ there
    ] refl

pub among_from : (roster xs : List Id) → ((x : Id) → has x xs ≡ true → has x roster ≡ true) → are_among roster xs ≡ true
among_from roster [] on = refl
among_from roster (x ∷ xs) on =
    and_from _ _ (on x (rw (same_self x) refl)) (among_from roster xs (λ y h. on y (rw h (or_true (same x y)))))
  where
    or_true : (b : Bool) → (b || true) ≡ true
    or_true true = refl
    or_true false = refl

-- a quorum by words

pub marked_quorum : (roster config : List Id) (w : ℕ) → are_distinct roster ≡ true → w < 2 ^ length roster → are_distinct config ≡ true
    → is_quorum_mask w (mask_of roster config) (length config) ≡ is_quorum_of config (marked roster w)
marked_quorum roster config w h small distinct =
    let votes = marked roster w in
    ap (λ n. is_quorum_mask n (mask_of roster config) (length config)) (sym (mask_of-marked roster w h small))
    ∙ ap (λ n. nat_lt (length config) (2 * n))
    (ones_shared roster votes config
    ∙ count_both (λ x. has x votes) roster config h distinct
    ∙ count_all_on roster votes config (λ x there. marked_on x roster w h there))

-- a set is a roster

pub IsRoster-from_set : (ids : List Id) → IsIdSet ids → IsRoster ids
IsRoster-from_set ids set = record { distinct = distinct_of ids set.ascending; each = set.each; fits = set.fits }

-- a word has as many bits as its set has ids

count_every : (roster xs : List Id) → ((x : Id) → has x xs ≡ true → has x roster ≡ true) → count_by (λ x. has x roster) xs ≡ length xs
count_every roster [] on = refl
count_every roster (x ∷ xs) on =
    sum_by-cons (λ q. cond (has q roster) 1 0) x xs
    ∙ (λ i. cond (on x (rw (same_self x) refl) i) 1 0 + count_every roster xs (λ y h. on y (rw h (or_true (same x y)))) i)
    ∙ omega arith
  where
    or_true : (b : Bool) → (b || true) ≡ true
    or_true true = refl
    or_true false = refl

count_twice : (votes roster : List Id) → count_by (λ x. has x votes && has x votes) roster ≡ count_by (λ x. has x votes) roster
count_twice votes [] = refl
count_twice votes (x ∷ roster) =
    sum_by-cons (λ q. cond (has q votes && has q votes) 1 0) x roster
    ∙ (λ i. cond (both (has x votes) i) 1 0 + count_twice votes roster i)
    ∙ sym (sum_by-cons (λ q. cond (has q votes) 1 0) x roster)
  where
    both : (b : Bool) → (b && b) ≡ b
    both true = refl
    both false = refl

pub count_marked : (roster : List Id) (w : ℕ) → are_distinct roster ≡ true → w < 2 ^ length roster → count_ones w ≡ length (marked roster w)
count_marked roster w h small =
    let votes = marked roster w in
    let word : mask_of roster votes ≡ w = mask_of-marked roster w h small in
    ap count_ones (sym (and_self w) ∙ (λ i. bit_and (sym word i) (sym word i)))
    ∙ ones_shared roster votes votes
    ∙ count_twice votes roster
    ∙ count_both (λ x. true) roster votes h (distinct_of votes (ascends-set_of (ids_at roster w)))
    ∙ count_every roster votes (λ x there. marked_on x roster w h there)
