-- Sets as words over a roster.
use Rattle.std.proofs.Common.{◌≡◌, ◌≢◌, ℕ, suc, ◌+◌, ◌*◌, ◌/◌, ◌%◌, ◌^◌, ◌≤◌, ◌<◌, min, Bool, true, false, cond, not, Some, None, ◌&&◌, ◌||◌, List, [], ◌∷◌, ◌++◌, length, take, get_or, filter, fold, count_by, refl, sym, ◌∙◌, ap, subst, arith, nat_lt}
use Rattle.std.specs.Prelude.{bit_and, bit_or, count_ones, nat_eq}
use Rattle.std.specs.List.{position_or_len}
use Rattle.std.specs.Int.{bit_at}
use Rattle.std.specs.Int.Bits.{and_step, or_shifted_r}
use Rattle.std.specs.Int.Count.{ones_step}
use Rattle.std.specs.Cmp.Lexicographic.{same_text}
use Rattle.std.proofs.Math.Nat.{pow-suc}
use Rattle.std.proofs.Math.Pow.{pow_mono}
use Rattle.std.proofs.lemmas.Bool.{and_parts, and_from, or_parts, lt-ltb}
use Rattle.std.proofs.lemmas.Bool.Decides.{nat_tests}
use Rattle.std.proofs.lemmas.List.{take_more, length-append, length-take, length-take-le}
use Rattle.std.proofs.lemmas.List.Sums.{sum_by-cons, fold-append}
use Rattle.std.proofs.lemmas.Nat.{ones_le_self}
use Rattle.std.proofs.lemmas.Nat.Bits.{bit_at_lowest, bit_at-suc}
use Rattle.voting_config.specs.Ids.{Id, same, before, has, is_below, ascends, put, with_id, without_id, set_of, is_id, are_among, most_ids, has_room}
use Rattle.voting_config.specs.Rosters.{are_distinct, IsRoster, place_on, admitted, mask_of, ids_at, marked, LawQuorumMask}
use Rattle.voting_config.proofs.Sorted.{ascends-put, has-with_id, is_below-absent, before_flip, is_below-before, ascends-without_id, list_all-push}
use Rattle.voting_config.proofs.Sets.{has-set_of, length-set_of, has-without_id, same_flipped, same_self}

-- ---- sets that have the same ids are the same

same_has : (x y : Id) (zs : List Id) → same x y ≡ true → has x zs ≡ has y zs
same_has x y zs h = subst (λ (i : Id). has x zs ≡ has i zs) (same_text x y (sym h)) refl

pub ascends-with_id : (x : Id) (ys : List Id) → ascends ys ≡ true → ascends (with_id x ys) ≡ true
ascends-with_id x ys h =
    elim (has x ys) as (λ b. has x ys ≡ b → ascends (cond b ys (put x ys)) ≡ true) [
      | true ↦ λ e. h
      | false ↦ λ e. ascends-put x ys h e
    ] refl

fold_ascends : (set ids : List Id) → ascends set ≡ true → ascends (fold (λ s id. with_id id s) set ids) ≡ true
fold_ascends set [] h = h
fold_ascends set (x ∷ ids) h = fold_ascends (with_id x set) ids (ascends-with_id x set h)

pub ascends-set_of : (ids : List Id) → ascends (set_of ids) ≡ true
ascends-set_of ids = fold_ascends [] ids refl

-- an id that is before the first of a set is not in it
below_first : (x y : Id) (ys : List Id) → before x y ≡ true → is_below y ys ≡ true → has x (y ∷ ys) ≡ false
below_first x y ys h k = is_below-absent x (y ∷ ys) (and_from _ _ h (is_below-before x y ys h k))

-- the first ids of two sets with the same ids are the same
same_first : (x y : Id) (xs ys : List Id) → is_below x xs ≡ true → is_below y ys ≡ true → ((z : Id) → has z (x ∷ xs) ≡ has z (y ∷ ys)) → same x y ≡ true
same_first x y xs ys below_x below_y h =
    elim (same x y) as (λ b. same x y ≡ b → b ≡ true) [
      | true ↦ λ e. refl
      | false ↦ λ e. elim (before x y) as (λ b. before x y ≡ b → false ≡ true) [
        | true ↦ λ f.
            let there : has x (x ∷ xs) ≡ true = rw (same_self x) refl in
            let not_there : has x (y ∷ ys) ≡ false = below_first x y ys f below_y in
            sym not_there ∙ sym (h x) ∙ there
        | false ↦ λ f.
            let other : same y x ≡ false = same_flipped y x ∙ e in
            let flipped : before y x ≡ true = before_flip y x f e in
            let there : has y (y ∷ ys) ≡ true = rw (same_self y) refl in
            let not_there : has y (x ∷ xs) ≡ false = below_first y x xs flipped below_x in
            sym not_there ∙ h y ∙ there
      ] refl
    ] refl

pub same_set : (xs ys : List Id) → ascends xs ≡ true → ascends ys ≡ true → ((z : Id) → has z xs ≡ has z ys) → xs ≡ ys
same_set [] [] h k same = refl
same_set [] (y ∷ ys) h k equal =
    let there : has y (y ∷ ys) ≡ true = rw (same_self y) refl in
    let no : false ≡ true = equal y ∙ there in
    absurd (cc)
same_set (x ∷ xs) [] h k equal =
    let there : has x (x ∷ xs) ≡ true = rw (same_self x) refl in
    let no : true ≡ false = sym there ∙ equal x in
    absurd (cc)
same_set (x ∷ xs) (y ∷ ys) h k equal =
    let lower = and_parts (is_below x xs) (ascends xs) h in
    let upper = and_parts (is_below y ys) (ascends ys) k in
    let first = same_first x y xs ys lower.0 upper.0 equal in
    let first_is : x ≡ y = same_text x y (sym first) in
    let rest : xs ≡ ys = same_set xs ys lower.1 upper.1 (λ z. tail z lower.0 upper.0 first) in
    cc
  where
    tail : (z : Id) → is_below x xs ≡ true → is_below y ys ≡ true → same x y ≡ true → has z xs ≡ has z ys
    tail z below_x below_y first =
        elim (same x z) as (λ b. same x z ≡ b → has z xs ≡ has z ys) [
          | true ↦ λ e.
              let left : has z xs ≡ false = sym (same_has x z xs e) ∙ is_below-absent x xs below_x in
              let right : has z ys ≡ false = sym (same_has x z ys e) ∙ same_has x y ys first ∙ is_below-absent y ys below_y in
              left ∙ sym right
          | false ↦ λ e.
              let other : same y z ≡ false = subst (λ (i : Id). same i z ≡ false) (same_text x y (sym first)) e in
              let both : (false || has z xs) ≡ (false || has z ys) = subst (λ b. (b || has z xs) ≡ (false || has z ys)) e (subst (λ b. (same x z || has z xs) ≡ (b || has z ys)) other (equal z)) in
              both
        ] refl

-- ---- the bit of an id

not_true : (b : Bool) → not b ≡ true → b ≡ false
not_true true k = sym k
not_true false k = refl

-- how many of the roster stand before an id
abbrev pub spot : Id → List Id → ℕ
spot x roster = position_or_len (λ y. same y x) roster

is_odd : (w : ℕ) → nat_eq (w % 2) 1 ≡ nat_eq (bit_at w 0) 1
is_odd w = ap (λ n. nat_eq n 1) (sym (bit_at_lowest w))

next_bit : (w n : ℕ) → nat_eq (bit_at w (1 + n)) 1 ≡ nat_eq (bit_at (w / 2) n) 1
next_bit w n = let e : 1 + n ≡ suc n = omega arith in ap (λ i. nat_eq (bit_at w i) 1) e ∙ ap (λ b. nat_eq b 1) (bit_at-suc w n)

-- an id stands at the bits of a word where it is on the roster and its bit is set
pub has-ids_at : (y : Id) (roster : List Id) (w : ℕ) → are_distinct roster ≡ true → has y (ids_at roster w) ≡ (has y roster && nat_eq (bit_at w (spot y roster)) 1)
has-ids_at y [] w h = refl
has-ids_at y (x ∷ roster) w h =
    from (same x y) refl (nat_eq (w % 2) 1) refl (has-ids_at y roster (w / 2) (and_parts (not (has x roster)) (are_distinct roster) h).1)
  where
    absent : same x y ≡ true → has y roster ≡ false
    absent e = sym (same_has x y roster e) ∙ not_true (has x roster) (and_parts (not (has x roster)) (are_distinct roster) h).0

    from : (s : Bool) → same x y ≡ s → (b : Bool) → nat_eq (w % 2) 1 ≡ b → has y (ids_at roster (w / 2)) ≡ (has y roster && nat_eq (bit_at (w / 2) (spot y roster)) 1)
        → has y (cond b (x ∷ ids_at roster (w / 2)) (ids_at roster (w / 2))) ≡ ((s || has y roster) && nat_eq (bit_at w (cond (not s) (1 + spot y roster) 0)) 1)
    from true e true f rest = rw e (sym f ∙ is_odd w)
    from true e false f rest = rest ∙ rw (absent e) (sym f ∙ is_odd w)
    from false e true f rest = rw e (rest ∙ ap (λ b. has y roster && b) (sym (next_bit w (spot y roster))))
    from false e false f rest = rest ∙ ap (λ b. has y roster && b) (sym (next_bit w (spot y roster)))

pub has-marked : (y : Id) (roster : List Id) (w : ℕ) → are_distinct roster ≡ true → has y (marked roster w) ≡ (has y roster && nat_eq (bit_at w (spot y roster)) 1)
has-marked y roster w h = has-set_of y (ids_at roster w) ∙ has-ids_at y roster w h

-- no id but those of the roster
pub at_roster : (y : Id) (roster : List Id) (w : ℕ) → are_distinct roster ≡ true → has y roster ≡ false → has y (marked roster w) ≡ false
at_roster y roster w h absent = has-marked y roster w h ∙ rw absent refl

pub spot-within : (y : Id) (roster : List Id) → has y roster ≡ true → spot y roster < length roster
spot-within y [] h = absurd cc
spot-within y (x ∷ roster) h = from (same x y) (spot-within y roster) h
  where
    from : (s : Bool) → (has y roster ≡ true → spot y roster < length roster) → (s || has y roster) ≡ true → cond (not s) (1 + spot y roster) 0 < suc (length roster)
    from true rest k = omega arith
    from false rest k = omega (arith, rest k)

-- different ids have different bits
pub spot-same : (x y : Id) (roster : List Id) → has x roster ≡ true → spot x roster ≡ spot y roster → same x y ≡ true
spot-same x y [] h e = absurd cc
spot-same x y (z ∷ roster) h e = from (spot-same x y roster) (same z x) refl (same z y) refl h e
  where
    from : (has x roster ≡ true → spot x roster ≡ spot y roster → same x y ≡ true) → (s : Bool) → same z x ≡ s → (t : Bool) → same z y ≡ t → (s || has x roster) ≡ true → cond (not s) (1 + spot x roster) 0 ≡ cond (not t) (1 + spot y roster) 0 → same x y ≡ true
    from rest true a true b k f = subst (λ (i : Id). same i y ≡ true) (same_text z x (sym a)) b
    from rest true a false b k f = absurd (omega (arith, f))
    from rest false a true b k f = absurd (omega (arith, f))
    from rest false a false b k f = rest k (omega (arith, f))

pub spot-of_same : (x y : Id) (roster : List Id) → same x y ≡ true → spot x roster ≡ spot y roster
spot-of_same x y roster h = ap (λ (i : Id). spot i roster) (same_text x y (sym h))

-- ---- one bit more, and one less

with_parts : (s h b c : Bool) → (s ≡ true → h ≡ true) → (s ≡ true → c ≡ true) → (s ≡ false → h ≡ true → c ≡ b) → (h && c) ≡ (s || (h && b))
with_parts true true b c f g k = g refl
with_parts true false b c f g k = f refl
with_parts false true b c f g k = k refl refl
with_parts false false b c f g k = refl

without_parts : (s h b c : Bool) → (s ≡ true → h ≡ true → c ≡ false) → (s ≡ false → h ≡ true → c ≡ b) → (h && c) ≡ ((h && b) && not s)
without_parts true true true c f g = f refl refl
without_parts true true false c f g = f refl refl
without_parts true false b c f g = refl
without_parts false true true c f g = g refl refl
without_parts false true false c f g = g refl refl
without_parts false false b c f g = refl

-- a word with the bit of an id set, and all others as before
pub marked-with : (x : Id) (roster : List Id) (w v : ℕ) → are_distinct roster ≡ true → has x roster ≡ true
    → bit_at v (spot x roster) ≡ 1 → ((i : ℕ) → i ≢ spot x roster → i < length roster → bit_at v i ≡ bit_at w i) → marked roster v ≡ with_id x (marked roster w)
marked-with x roster w v h on set others =
    same_set (marked roster v) (with_id x (marked roster w)) (ascends-set_of (ids_at roster v)) (ascends-with_id x (marked roster w) (ascends-set_of (ids_at roster w))) (λ z.
    has-marked z roster v h
    ∙ with_parts (same x z) (has z roster) (nat_eq (bit_at w (spot z roster)) 1) (nat_eq (bit_at v (spot z roster)) 1)
    (λ s. sym (same_has x z roster s) ∙ on)
    (λ s. ap (λ i. nat_eq (bit_at v i) 1) (sym (spot-of_same x z roster s)) ∙ ap (λ b. nat_eq b 1) set)
    (λ s k. ap (λ b. nat_eq b 1) (others (spot z roster) (λ e. apart z s k e) (spot-within z roster k)))
    ∙ ap (λ b. same x z || b) (sym (has-marked z roster w h))
    ∙ sym (has-with_id z x (marked roster w)))
  where
    apart : (z : Id) → same x z ≡ false → has z roster ≡ true → spot z roster ≡ spot x roster → ⊥
    apart z s k e = let t : same x z ≡ true = same_flipped x z ∙ spot-same z x roster k e in absurd (cc (s, t))

-- a word with the bit of an id cleared, and all others as before
pub marked-without : (x : Id) (roster : List Id) (w v : ℕ) → are_distinct roster ≡ true
    → bit_at v (spot x roster) ≡ 0 → ((i : ℕ) → i ≢ spot x roster → i < length roster → bit_at v i ≡ bit_at w i) → marked roster v ≡ without_id x (marked roster w)
marked-without x roster w v h cleared others =
    same_set (marked roster v) (without_id x (marked roster w)) (ascends-set_of (ids_at roster v)) (ascends-without_id x (marked roster w) (ascends-set_of (ids_at roster w))) (λ z.
    has-marked z roster v h
    ∙ without_parts (same x z) (has z roster) (nat_eq (bit_at w (spot z roster)) 1) (nat_eq (bit_at v (spot z roster)) 1)
    (λ s k. ap (λ i. nat_eq (bit_at v i) 1) (sym (spot-of_same x z roster s)) ∙ ap (λ b. nat_eq b 1) cleared)
    (λ s k. ap (λ b. nat_eq b 1) (others (spot z roster) (λ e. apart z s k e) (spot-within z roster k)))
    ∙ ap (λ b. b && not (same x z)) (sym (has-marked z roster w h))
    ∙ sym (has-without_id z x (marked roster w)))
  where
    apart : (z : Id) → same x z ≡ false → has z roster ≡ true → spot z roster ≡ spot x roster → ⊥
    apart z s k e = let t : same x z ≡ true = same_flipped x z ∙ spot-same z x roster k e in absurd (cc (s, t))

-- ---- an id more on the roster

-- no bit behind the roster is set, so the new id has none
pub ids_at-append : (roster : List Id) (x : Id) (w : ℕ) → w < 2 ^ length roster → ids_at (roster ++ x ∷ []) w ≡ ids_at roster w
ids_at-append [] x w h = let none : w ≡ 0 = omega (arith, h) in rw none refl
ids_at-append (y ∷ roster) x w h =
    let half : w / 2 < 2 ^ length roster = omega (arith, h, pow-suc 2 (length roster)) in
    let rest = ids_at-append roster x (w / 2) half in
    ap (λ (ids : List Id). cond (nat_eq (w % 2) 1) (y ∷ ids) ids) rest

or_false : (b : Bool) → (b || false) ≡ b
or_false true = refl
or_false false = refl

or_assoc : (a b c : Bool) → (a || (b || c)) ≡ ((a || b) || c)
or_assoc true b c = refl
or_assoc false b c = refl

pub has-append : (q : Id) (ids : List Id) (z : Id) → has q (ids ++ z ∷ []) ≡ (has q ids || (same z q || false))
has-append q [] z = refl
has-append q (i ∷ ids) z = ap (λ b. same i q || b) (has-append q ids z) ∙ or_assoc (same i q) (has q ids) (same z q || false)

absent_behind : (x y : Id) (roster : List Id) → same x y ≡ false → not (has y roster) ≡ true → not (has y (roster ++ x ∷ [])) ≡ true
absent_behind x y roster s n = ap not (has-append y roster x) ∙ rw s (ap not (or_false (has y roster)) ∙ n)

pub are_distinct-append : (roster : List Id) (x : Id) → are_distinct roster ≡ true → has x roster ≡ false → are_distinct (roster ++ x ∷ []) ≡ true
are_distinct-append [] x h k = refl
are_distinct-append (y ∷ roster) x h k =
    let parts = and_parts (not (has y roster)) (are_distinct roster) h in
    let apart = or_parts (same y x) (has x roster) k in
    and_from _ _ (absent_behind x y roster (same_flipped x y ∙ apart.0) parts.0) (are_distinct-append roster x parts.1 apart.1)

-- ---- masks

absent_first : (x : Id) (roster : List Id) → are_distinct (x ∷ roster) ≡ true → has x roster ≡ false
absent_first x roster h = not_true (has x roster) (and_parts (not (has x roster)) (are_distinct roster) h).0

-- the mask of a word's set is the word
pub mask_of-ids_at : (roster : List Id) (w : ℕ) (set : List Id) → are_distinct roster ≡ true → w < 2 ^ length roster → ((y : Id) → has y roster ≡ true → has y set ≡ has y (ids_at roster w)) → mask_of roster set ≡ w
mask_of-ids_at [] w set h small equal = omega (arith, small)
mask_of-ids_at (x ∷ roster) w set h small equal =
    let half : w / 2 < 2 ^ length roster = omega (arith, small, pow-suc 2 (length roster)) in
    let rest : mask_of roster set ≡ w / 2 = mask_of-ids_at roster (w / 2) set (and_parts (not (has x roster)) (are_distinct roster) h).1 half behind in
    first (has x set) (nat_eq (w % 2) 1) refl head rest
  where
    none : has x (ids_at roster (w / 2)) ≡ false
    none = has-ids_at x roster (w / 2) (and_parts (not (has x roster)) (are_distinct roster) h).1 ∙ rw (absent_first x roster h) refl

    head : has x set ≡ nat_eq (w % 2) 1
    head = equal x (rw (same_self x) refl) ∙ bit (nat_eq (w % 2) 1)
      where
        bit : (b : Bool) → has x (cond b (x ∷ ids_at roster (w / 2)) (ids_at roster (w / 2))) ≡ b
        bit true = rw (same_self x) refl
        bit false = none

    behind : (y : Id) → has y roster ≡ true → has y set ≡ has y (ids_at roster (w / 2))
    behind y k = equal y (rw k (or_true (same x y))) ∙ skip (nat_eq (w % 2) 1) (same x y) refl
      where
        or_true : (b : Bool) → (b || true) ≡ true
        or_true true = refl
        or_true false = refl

        skip : (b s : Bool) → same x y ≡ s → has y (cond b (x ∷ ids_at roster (w / 2)) (ids_at roster (w / 2))) ≡ has y (ids_at roster (w / 2))
        skip false s e = refl
        skip true false e = rw e refl
        skip true true e = let no : true ≡ false = sym k ∙ sym (same_has x y roster e) ∙ absent_first x roster h in absurd (cc)

    first : (b c : Bool) → nat_eq (w % 2) 1 ≡ c → b ≡ c → mask_of roster set ≡ w / 2 → cond b 1 0 + 2 * mask_of roster set ≡ w
    first true true k e r = grind (arith, nat_tests, k, r)
    first false false k e r = grind (arith, nat_tests, k, r)
    first true false k e r = absurd (cc)
    first false true k e r = absurd (cc)

pub mask_of-marked : (roster : List Id) (w : ℕ) → are_distinct roster ≡ true → w < 2 ^ length roster → mask_of roster (marked roster w) ≡ w
mask_of-marked roster w h small = mask_of-ids_at roster w (marked roster w) h small (λ y k. has-set_of y (ids_at roster w))

pub mask_of-lt : (roster set : List Id) → mask_of roster set < 2 ^ length roster
mask_of-lt [] set = omega arith
mask_of-lt (x ∷ roster) set = step (has x set) (mask_of-lt roster set)
  where
    step : (b : Bool) → mask_of roster set < 2 ^ length roster → cond b 1 0 + 2 * mask_of roster set < 2 ^ suc (length roster)
    step true k = omega (arith, k, pow-suc 2 (length roster))
    step false k = omega (arith, k, pow-suc 2 (length roster))

-- one id more has its bit behind the others
pub mask_of-append : (roster : List Id) (x : Id) (set : List Id) → mask_of (roster ++ x ∷ []) set ≡ mask_of roster set + cond (has x set) 1 0 * 2 ^ length roster
mask_of-append [] x set = last (has x set)
  where
    last : (b : Bool) → cond b 1 0 + 2 * 0 ≡ 0 + cond b 1 0 * 2 ^ 0
    last true = refl
    last false = refl
mask_of-append (y ∷ roster) x set = step (has x set) (mask_of-append roster x set)
  where
    step : (b : Bool) → mask_of (roster ++ x ∷ []) set ≡ mask_of roster set + cond b 1 0 * 2 ^ length roster
        → cond (has y set) 1 0 + 2 * mask_of (roster ++ x ∷ []) set ≡ cond (has y set) 1 0 + 2 * mask_of roster set + cond b 1 0 * 2 ^ suc (length roster)
    step true k = omega (arith, k, pow-suc 2 (length roster))
    step false k = omega (arith, k)

-- ---- quorums

-- how many bits two masks share
ones_both : (b c : Bool) (m n : ℕ) → count_ones (bit_and (cond b 1 0 + 2 * m) (cond c 1 0 + 2 * n)) ≡ cond (b && c) 1 0 + count_ones (bit_and m n)
ones_both b c m n =
    ap count_ones (shape b c (and_step (cond b 1 0 + 2 * m) (cond c 1 0 + 2 * n))) ∙ low (b && c)
  where
    half : (a : Bool) (k : ℕ) → (cond a 1 0 + 2 * k) / 2 ≡ k
    half true k = omega arith
    half false k = omega arith

    shape : (b c : Bool) → bit_and (cond b 1 0 + 2 * m) (cond c 1 0 + 2 * n) ≡ bit_and ((cond b 1 0 + 2 * m) / 2) ((cond c 1 0 + 2 * n) / 2) * 2 + min ((cond b 1 0 + 2 * m) % 2) ((cond c 1 0 + 2 * n) % 2)
        → bit_and (cond b 1 0 + 2 * m) (cond c 1 0 + 2 * n) ≡ cond (b && c) 1 0 + 2 * bit_and m n
    shape true true k = k ∙ (λ i. bit_and (half true m i) (half true n i) * 2 + min ((1 + 2 * m) % 2) ((1 + 2 * n) % 2)) ∙ omega arith
    shape true false k = k ∙ (λ i. bit_and (half true m i) (half false n i) * 2 + min ((1 + 2 * m) % 2) ((0 + 2 * n) % 2)) ∙ omega arith
    shape false true k = k ∙ (λ i. bit_and (half false m i) (half true n i) * 2 + min ((0 + 2 * m) % 2) ((1 + 2 * n) % 2)) ∙ omega arith
    shape false false k = k ∙ (λ i. bit_and (half false m i) (half false n i) * 2 + min ((0 + 2 * m) % 2) ((0 + 2 * n) % 2)) ∙ omega arith

    low : (a : Bool) → count_ones (cond a 1 0 + 2 * bit_and m n) ≡ cond a 1 0 + count_ones (bit_and m n)
    low true = ones_step (1 + 2 * bit_and m n) ∙ (λ i. odd i + count_ones (half true (bit_and m n) i))
      where
        odd : (1 + 2 * bit_and m n) % 2 ≡ 1
        odd = omega arith
    low false = ones_step (0 + 2 * bit_and m n) ∙ (λ i. even i + count_ones (half false (bit_and m n) i))
      where
        even : (0 + 2 * bit_and m n) % 2 ≡ 0
        even = omega arith

pub ones_shared : (roster votes config : List Id) → count_ones (bit_and (mask_of roster votes) (mask_of roster config)) ≡ count_by (λ x. has x votes && has x config) roster
ones_shared [] votes config = omega (arith, ones_le_self 0)
ones_shared (x ∷ roster) votes config =
    ones_both (has x votes) (has x config) (mask_of roster votes) (mask_of roster config)
    ∙ ap (λ n. cond (has x votes && has x config) 1 0 + n) (ones_shared roster votes config)
    ∙ sym (sum_by-cons (λ q. cond (has q votes && has q config) 1 0) x roster)

-- two numbers of ids that are on both lists, the one counted along the one list and the other along the other, are the same

pub distinct_of : (xs : List Id) → ascends xs ≡ true → are_distinct xs ≡ true
distinct_of [] h = refl
distinct_of (x ∷ xs) h =
    let parts = and_parts (is_below x xs) (ascends xs) h in
    and_from _ _ (ap not (is_below-absent x xs parts.0)) (distinct_of xs parts.1)

count_none : (p : Id → Bool) (xs : List Id) → count_by (λ x. p x && false) xs ≡ 0
count_none p [] = refl
count_none p (x ∷ xs) = sum_by-cons (λ q. cond (p q && false) 1 0) x xs ∙ (λ i. cond (no (p x) i) 1 0 + count_none p xs i)
  where
    no : (b : Bool) → (b && false) ≡ false
    no true = refl
    no false = refl

count_one_more : (p : Id → Bool) (x : Id) (roster config : List Id) → has x roster ≡ false → are_distinct config ≡ true
    → count_by (λ y. p y && (same x y || has y roster)) config ≡ cond (p x && has x config) 1 0 + count_by (λ y. p y && has y roster) config
count_one_more p x roster [] h k = sym (none (p x))
  where
    none : (b : Bool) → cond (b && false) 1 0 + 0 ≡ 0
    none true = refl
    none false = refl
count_one_more p x roster (y ∷ config) h k =
    sum_by-cons (λ q. cond (p q && (same x q || has q roster)) 1 0) y config
    ∙ step (same x y) refl (count_one_more p x roster config h (and_parts (not (has y config)) (are_distinct config) k).1)
    ∙ ap (λ n. cond (p x && (same y x || has x config)) 1 0 + n) (sym (sum_by-cons (λ q. cond (p q && has q roster) 1 0) y config))
  where
    left : ℕ
    left = count_by (λ q. p q && (same x q || has q roster)) config

    right : ℕ
    right = count_by (λ q. p q && has q roster) config

    step : (s : Bool) → same x y ≡ s → left ≡ cond (p x && has x config) 1 0 + right
        → cond (p y && (same x y || has y roster)) 1 0 + left ≡ cond (p x && (same y x || has x config)) 1 0 + (cond (p y && has y roster) 1 0 + right)
    step true s e =
        let back : same y x ≡ true = same_flipped y x ∙ s in
        let behind : has x config ≡ false = sym (same_has y x config back) ∙ absent_first y config k in
        let off : has y roster ≡ false = sym (same_has x y roster s) ∙ h in
        let one : p y ≡ p x = ap p (sym (same_text x y (sym s))) in
        rw (s, back, off, one) (here (p x) (rw behind at e))
      where
        here : (b : Bool) → left ≡ cond (b && false) 1 0 + right → cond (b && true) 1 0 + left ≡ cond (b && true) 1 0 + (cond (b && false) 1 0 + right)
        here true f = ap (λ n. 1 + n) f
        here false f = ap (λ n. 0 + n) f
    step false s e =
        let back : same y x ≡ false = same_flipped y x ∙ s in
        rw (s, back) (omega (arith, e))

pub count_both : (p : Id → Bool) (roster config : List Id) → are_distinct roster ≡ true → are_distinct config ≡ true
    → count_by (λ x. p x && has x config) roster ≡ count_by (λ x. p x && has x roster) config
count_both p [] config h k = sym (count_none p config)
count_both p (x ∷ roster) config h k =
    sum_by-cons (λ q. cond (p q && has q config) 1 0) x roster
    ∙ ap (λ n. cond (p x && has x config) 1 0 + n) (count_both p roster config (and_parts (not (has x roster)) (are_distinct roster) h).1 k)
    ∙ sym (count_one_more p x roster config (absent_first x roster h) k)

among_has : (roster votes : List Id) (x : Id) → are_among roster votes ≡ true → has x votes ≡ true → has x roster ≡ true
among_has roster [] x h k = absurd cc
among_has roster (v ∷ votes) x h k =
    let parts = and_parts (has v roster) (are_among roster votes) h in
    from (same v x) refl parts.0 (among_has roster votes x parts.1) k
  where
    from : (s : Bool) → same v x ≡ s → has v roster ≡ true → (has x votes ≡ true → has x roster ≡ true) → (s || has x votes) ≡ true → has x roster ≡ true
    from true s on rest t = sym (same_has v x roster s) ∙ on
    from false s on rest t = rest t

pub count_all_on : (roster votes config : List Id) → ((x : Id) → has x votes ≡ true → has x roster ≡ true) → count_by (λ x. has x votes && has x roster) config ≡ count_by (λ x. has x votes) config
count_all_on roster votes [] on = refl
count_all_on roster votes (x ∷ config) on =
    sum_by-cons (λ q. cond (has q votes && has q roster) 1 0) x config
    ∙ (λ i. cond (here (has x votes) refl i) 1 0 + count_all_on roster votes config on i)
    ∙ sym (sum_by-cons (λ q. cond (has q votes) 1 0) x config)
  where
    here : (b : Bool) → has x votes ≡ b → (b && has x roster) ≡ b
    here true e = on x e
    here false e = refl

pub quorum_mask : LawQuorumMask
quorum_mask roster config votes on ids cast among =
    ap (λ n. nat_lt (length config) (2 * n))
    (ones_shared roster votes config
    ∙ count_both (λ x. has x votes) roster config on.distinct (distinct_of config ids.ascending)
    ∙ count_all_on roster votes config (λ x h. among_has roster votes x among h))

-- ---- what the calls of a roster do

-- `position` by the number of those that stand before
found_at : (x : Id) (roster : List Id) → has x roster ≡ true → place_on roster x ≡ Some (spot x roster)
found_at x roster h = rw (lt-ltb (spot x roster) (length roster) (spot-within x roster h)) refl

spot-absent : (x : Id) (roster : List Id) → has x roster ≡ false → spot x roster ≡ length roster
spot-absent x [] h = refl
spot-absent x (y ∷ roster) h =
    let parts = or_parts (same y x) (has x roster) h in
    rw parts.0 (omega (arith, spot-absent x roster parts.1))

not_below : (n : ℕ) → nat_lt n n ≡ false
not_below n = grind (arith, nat_tests)

not_found : (x : Id) (roster : List Id) → has x roster ≡ false → place_on roster x ≡ None
not_found x roster h = rw (spot-absent x roster h, not_below (length roster)) refl

-- an id has a place exactly where it is on the roster
pub place_none : (x : Id) (roster : List Id) → place_on roster x ≡ None → has x roster ≡ false
place_none x roster h =
    elim (has x roster) as (λ b. has x roster ≡ b → b ≡ false) [
      | true ↦ λ e. let found = found_at x roster e in absurd (cc (h, found))
      | false ↦ λ e. refl
    ] refl

pub place_some : (x : Id) (roster : List Id) (place : ℕ) → place_on roster x ≡ Some place → (has x roster ≡ true) × (place ≡ spot x roster)
place_some x roster place h =
    elim (has x roster) as (λ b. has x roster ≡ b → (b ≡ true) × (place ≡ spot x roster)) [
      | true ↦ λ e. let found = found_at x roster e in (refl, cc (h, found))
      | false ↦ λ e. let none = not_found x roster e in absurd (cc (h, none))
    ] refl

pub place-within : (x : Id) (roster : List Id) (place : ℕ) → place_on roster x ≡ Some place → place < length roster
place-within x roster place h =
    let some = place_some x roster place h in
    omega (arith, some.1, spot-within x roster some.0)

-- a new id comes behind the others
pub has_self-append : (x : Id) (roster : List Id) → has x (roster ++ x ∷ []) ≡ true
has_self-append x roster = has-append x roster x ∙ rw (same_self x) (or_true (has x roster))
  where
    or_true : (b : Bool) → (b || true) ≡ true
    or_true true = refl
    or_true false = refl

spot-last : (x : Id) (roster : List Id) → has x roster ≡ false → spot x (roster ++ x ∷ []) ≡ length roster
spot-last x [] h = rw (same_self x) refl
spot-last x (y ∷ roster) h =
    let parts = or_parts (same y x) (has x roster) h in
    rw parts.0 (omega (arith, spot-last x roster parts.1))

pub place_last : (x : Id) (roster : List Id) → has x roster ≡ false → Some (length roster) ≡ place_on (roster ++ x ∷ []) x
place_last x roster h = sym (found_at x (roster ++ x ∷ []) (has_self-append x roster) ∙ ap Some (spot-last x roster h))

pub IsRoster-append : (x : Id) (roster : List Id) → IsRoster roster → is_id x ≡ true → has x roster ≡ false → length roster < most_ids → IsRoster (roster ++ x ∷ [])
IsRoster-append x roster on id new room = record {
  distinct = are_distinct-append roster x on.distinct new;
  each = list_all-push is_id x roster on.each id;
  fits = rw length-append (omega arith);
}

-- one id more in a mask
pub mask_step : (ids set : List Id) (i : ℕ) (x : Id) → i < length ids → x ≡ get_or ids i x → (b : Bool) → has x set ≡ b → mask_of (take (i + 1) ids) set ≡ cond b (bit_or (mask_of (take i ids) set) (2 ^ i)) (mask_of (take i ids) set)
mask_step ids set i x less at b there =
    let more : take (i + 1) ids ≡ take i ids ++ x ∷ [] = take_more ids i x less ∙ ap (λ (y : Id). take i ids ++ y ∷ []) (sym at) in
    let long : length (take i ids) ≡ i = length-take-le i ids (omega arith) in
    let below : mask_of (take i ids) set < 2 ^ i = subst (λ n. mask_of (take i ids) set < 2 ^ n) long (mask_of-lt (take i ids) set) in
    ap (λ (l : List Id). mask_of l set) more ∙ mask_of-append (take i ids) x set ∙ (λ j. mask_of (take i ids) set + cond (there j) 1 0 * 2 ^ long j) ∙ by b below
  where
    by : (b : Bool) → mask_of (take i ids) set < 2 ^ i → mask_of (take i ids) set + cond b 1 0 * 2 ^ i ≡ cond b (bit_or (mask_of (take i ids) set) (2 ^ i)) (mask_of (take i ids) set)
    by true below = let one : 1 * 2 ^ i ≡ 2 ^ i = omega arith in sym (ap (bit_or (mask_of (take i ids) set)) (sym one) ∙ or_shifted_r 1 i (mask_of (take i ids) set) below ∙ omega arith)
    by false below = omega arith

-- one id more in the set of a word
ids_at-last : (roster : List Id) (x : Id) (w : ℕ) → ids_at (roster ++ x ∷ []) w ≡ ids_at roster w ++ cond (nat_eq (bit_at w (length roster)) 1) (x ∷ []) []
ids_at-last [] x w = ap (λ b. cond b (x ∷ []) []) (is_odd w)
ids_at-last (y ∷ roster) x w = step (nat_eq (w % 2) 1) (ids_at-last roster x (w / 2)) ∙ ap (λ b. cond (nat_eq (w % 2) 1) (y ∷ ids_at roster (w / 2)) (ids_at roster (w / 2)) ++ cond b (x ∷ []) []) (sym (bit_behind w (length roster)))
  where
    bit_behind : (w n : ℕ) → nat_eq (bit_at w (suc n)) 1 ≡ nat_eq (bit_at (w / 2) n) 1
    bit_behind w n = ap (λ b. nat_eq b 1) (bit_at-suc w n)

    step : (b : Bool) → ids_at (roster ++ x ∷ []) (w / 2) ≡ ids_at roster (w / 2) ++ cond (nat_eq (bit_at (w / 2) (length roster)) 1) (x ∷ []) []
        → cond b (y ∷ ids_at (roster ++ x ∷ []) (w / 2)) (ids_at (roster ++ x ∷ []) (w / 2)) ≡ cond b (y ∷ ids_at roster (w / 2)) (ids_at roster (w / 2)) ++ cond (nat_eq (bit_at (w / 2) (length roster)) 1) (x ∷ []) []
    step true e = ap (λ (l : List Id). y ∷ l) e
    step false e = e

pub marked_step : (ids : List Id) (w i : ℕ) (d : Id) → i < length ids → (b : Bool) → nat_eq (bit_at w i) 1 ≡ b → marked (take (i + 1) ids) w ≡ cond b (with_id (get_or ids i d) (marked (take i ids) w)) (marked (take i ids) w)
marked_step ids w i d less b bit =
    let x = get_or ids i d in
    let long : length (take i ids) ≡ i = length-take-le i ids (omega arith) in
    ap (λ (l : List Id). marked l w) (take_more ids i d less)
    ∙ ap set_of (ids_at-last (take i ids) x w ∙ (λ j. ids_at (take i ids) w ++ cond (nat_eq (bit_at w (long j)) 1) (x ∷ []) []) ∙ ap (λ c. ids_at (take i ids) w ++ cond c (x ∷ []) []) bit)
    ∙ by b
  where
    by : (b : Bool) → set_of (ids_at (take i ids) w ++ cond b (get_or ids i d ∷ []) []) ≡ cond b (with_id (get_or ids i d) (marked (take i ids) w)) (marked (take i ids) w)
    by true = fold-append (λ s id. with_id id s) [] (ids_at (take i ids) w) (get_or ids i d ∷ [])
    by false = fold-append (λ s id. with_id id s) [] (ids_at (take i ids) w) []

length-ids_at : (roster : List Id) (w : ℕ) → length (ids_at roster w) ≤ length roster
length-ids_at [] w = omega arith
length-ids_at (x ∷ roster) w = by (nat_eq (w % 2) 1) (length-ids_at roster (w / 2))
  where
    by : (b : Bool) → length (ids_at roster (w / 2)) ≤ length roster → length (cond b (x ∷ ids_at roster (w / 2)) (ids_at roster (w / 2))) ≤ suc (length roster)
    by true e = omega arith
    by false e = omega arith

pub length-marked : (roster : List Id) (w : ℕ) → length (marked roster w) ≤ length roster
length-marked roster w = omega (arith, length-set_of (ids_at roster w), length-ids_at roster w)

pub marked-room : (ids : List Id) (w i : ℕ) (x : Id) → i < length ids → length ids ≤ most_ids → has_room (marked (take i ids) w) x ≡ true
marked-room ids w i x less fits =
    let room : length (marked (take i ids) w) < most_ids = omega (arith, length-marked (take i ids) w, length-take-le i ids (omega arith)) in
    rw (lt-ltb (length (marked (take i ids) w)) most_ids room) (or_true (has x (marked (take i ids) w)))
  where
    or_true : (b : Bool) → (b || true) ≡ true
    or_true true = refl
    or_true false = refl

-- an id has a mark where it is on the roster and the bit at its place is set
pub marked_at : (x : Id) (roster : List Id) (w place : ℕ) → are_distinct roster ≡ true → place_on roster x ≡ Some place → nat_eq (bit_at w place) 1 ≡ has x (marked roster w)
marked_at x roster w place h at =
    let some = place_some x roster place at in
    ap (λ n. nat_eq (bit_at w n) 1) some.1 ∙ sym (has-marked x roster w h ∙ rw some.0 refl)

pub marked_none : (x : Id) (roster : List Id) (w : ℕ) → are_distinct roster ≡ true → place_on roster x ≡ None → false ≡ has x (marked roster w)
marked_none x roster w h at = sym (at_roster x roster w h (place_none x roster at))

-- ---- the mask of a set is the set

ids_at-mask : (roster set : List Id) → ids_at roster (mask_of roster set) ≡ filter (λ x. has x set) roster
ids_at-mask [] set = refl
ids_at-mask (x ∷ roster) set = by (has x set) (ids_at-mask roster set)
  where
    by : (b : Bool) → ids_at roster (mask_of roster set) ≡ filter (λ x. has x set) roster
        → ids_at (x ∷ roster) (cond b 1 0 + 2 * mask_of roster set) ≡ cond b (x ∷ filter (λ x. has x set) roster) (filter (λ x. has x set) roster)
    by true e =
        let odd : (1 + 2 * mask_of roster set) % 2 ≡ 1 = omega arith in
        let half : (1 + 2 * mask_of roster set) / 2 ≡ mask_of roster set = omega arith in
        rw (odd, half) (ap (λ (l : List Id). x ∷ l) e)
    by false e =
        let even : (0 + 2 * mask_of roster set) % 2 ≡ 0 = omega arith in
        let half : (0 + 2 * mask_of roster set) / 2 ≡ mask_of roster set = omega arith in
        rw (even, half) e

has-among : (y : Id) (xs set : List Id) → has y (filter (λ x. has x set) xs) ≡ (has y xs && has y set)
has-among y [] set = refl
has-among y (x ∷ xs) set = by (has x set) refl (same x y) refl (has-among y xs set)
  where
    by : (b : Bool) → has x set ≡ b → (s : Bool) → same x y ≡ s → has y (filter (λ x. has x set) xs) ≡ (has y xs && has y set)
        → has y (cond b (x ∷ filter (λ x. has x set) xs) (filter (λ x. has x set) xs)) ≡ ((s || has y xs) && has y set)
    by true h true s e = rw s (sym h ∙ same_has x y set s)
    by true h false s e = rw s e
    by false h true s e =
        let off : has y set ≡ false = sym (same_has x y set s) ∙ h in
        e ∙ rw off (no (has y xs))
      where
        no : (b : Bool) → (b && false) ≡ false
        no true = refl
        no false = refl
    by false h false s e = e

all_on : (y : Id) (roster set : List Id) → are_among roster set ≡ true → (has y roster && has y set) ≡ has y set
all_on y roster set h = by (has y set) refl
  where
    by : (b : Bool) → has y set ≡ b → (has y roster && b) ≡ b
    by true e = rw (among_has roster set y h e) refl
    by false e = no (has y roster)
      where
        no : (b : Bool) → (b && false) ≡ false
        no true = refl
        no false = refl

pub marked-mask : (roster set : List Id) → ascends set ≡ true → are_among roster set ≡ true → marked roster (mask_of roster set) ≡ set
marked-mask roster set h among =
    same_set (marked roster (mask_of roster set)) set (ascends-set_of (ids_at roster (mask_of roster set))) h (λ z.
    has-set_of z (ids_at roster (mask_of roster set)) ∙ ap (has z) (ids_at-mask roster set) ∙ has-among z roster set ∙ all_on z roster set among)

room_where_on : (x : Id) (roster : List Id) → has x roster ≡ true → has_room roster x ≡ true
room_where_on x roster h = rw h refl

room_where_few : (x : Id) (roster : List Id) → length roster < most_ids → has_room roster x ≡ true
room_where_few x roster h = rw (lt-ltb (length roster) most_ids h) (by (has x roster))
  where
    by : (b : Bool) → (b || true) ≡ true
    by true = refl
    by false = refl

-- when an id is admitted
pub admits_known : (x : Id) (roster : List Id) (place : ℕ) → place_on roster x ≡ Some place → (roster ≡ admitted roster x) × (has_room roster x ≡ true)
admits_known x roster place h =
    let on = (place_some x roster place h).0 in
    (rw on refl, room_where_on x roster on)

pub admits_new : (x : Id) (roster : List Id) → place_on roster x ≡ None → length roster < most_ids → (roster ++ x ∷ [] ≡ admitted roster x) × (has_room roster x ≡ true)
admits_new x roster h room = (rw (place_none x roster h) refl, room_where_few x roster room)

pub admits_none : (x : Id) (roster : List Id) → place_on roster x ≡ None → most_ids ≤ length roster → has_room roster x ≡ false
admits_none x roster h full =
    let none = place_none x roster h in
    let no : nat_lt (length roster) most_ids ≡ false = grind (arith, nat_tests, full) in
    rw (none, no) refl

pub mask_of-take-lt : (ids set : List Id) (i : ℕ) → mask_of (take i ids) set < 2 ^ length ids
mask_of-take-lt ids set i =
    let short : length (take i ids) ≤ length ids = omega (arith, length-take i ids) in
    omega (arith, mask_of-lt (take i ids) set, pow_mono short)
