-- Who is in a set with an id more or less, and how many.
use Rattle.std.proofs.Common.{◌≡◌, ℕ, suc, ◌+◌, ◌*◌, ◌≤◌, ◌<◌, Bool, true, false, cond, not, ◌&&◌, ◌||◌, List, [], ◌∷◌, length, take, get_or, fold, count_by, refl, sym, ◌∙◌, ap, subst, arith, nat_lt}
use Rattle.std.specs.Cmp.Lexicographic.{bytes_decides, nat_list_cmp_total, nat_list_eq_equiv, same_text}
use Rattle.std.specs.Ordering.{is_lt, ordering_reverse}
use Rattle.std.proofs.lemmas.Bool.{and_parts, lt-ltb}
use Rattle.std.proofs.lemmas.Bool.Decides.{nat_tests}
use Rattle.std.proofs.lemmas.List.{length-take}
use Rattle.std.proofs.lemmas.List.Edits.{length-remove}
use Rattle.std.proofs.lemmas.List.Sums.{sum_by-cons, sum_by-take-le, fold_more}
use Rattle.voting_config.specs.Ids.{Id, same, before, has, is_below, ascends, most_ids, put, with_id, without_id, place_of, has_room, set_of, union, union_count_of, same_config, IsIdSet, is_quorum_of}
use Rattle.voting_config.proofs.Sorted.{less_is, before_trans, before_flip, length-put, has-put, has-with_id, is_below-absent, without_id-absent, remove-place_of, place_of-within, after-not_same, ascends-without_id}

-- ---- whether two ids are the same, or two lists of them

pub same_self : (x : Id) → same x x ≡ true
same_self x = (bytes_decides x x).1 refl

pub same_is : (x y : Id) → same x y ≡ true → x ≡ y
same_is x y h = (bytes_decides x y).0 h

pub same_flipped : (x y : Id) → same x y ≡ same y x
same_flipped x y = nat_list_eq_equiv.symm x y

pub same_config_is : (xs ys : List Id) → same_config xs ys ≡ true → xs ≡ ys
same_config_is [] [] h = refl
same_config_is [] (y ∷ ys) h = cc
same_config_is (x ∷ xs) [] h = cc
same_config_is (x ∷ xs) (y ∷ ys) h =
    let parts = and_parts _ _ h in
    let heads = same_is x y parts.0 in
    let tails = same_config_is xs ys parts.1 in
    cc

-- ---- an id more

pub length-with_id : (x : Id) (ys : List Id) → length (with_id x ys) ≡ length ys + cond (has x ys) 0 1
length-with_id x ys =
    elim (has x ys) as (λ b. length (cond b ys (put x ys)) ≡ length ys + cond b 0 1) [
      | true ↦ omega arith
      | false ↦ omega (arith, length-put x ys)
    ]

pub length-with_id-absent : (x : Id) (ys : List Id) → has x ys ≡ false → length (with_id x ys) ≡ suc (length ys)
length-with_id-absent x ys h = rw h (length-put x ys)

pub length-with_id-le : (x : Id) (ys : List Id) → length (with_id x ys) ≤ suc (length ys)
length-with_id-le x ys =
    elim (has x ys) as (λ b. length (cond b ys (put x ys)) ≤ suc (length ys)) [
      | true ↦ omega arith
      | false ↦ omega (arith, length-put x ys)
    ]

not_before : (x y : Id) → before x y ≡ true → before y x ≡ false
not_before x y h = ap is_lt (nat_list_cmp_total.antisymm y x ∙ ap ordering_reverse (less_is _ h))

-- an id before all others goes in at the start
put-first : (x : Id) (ys : List Id) → is_below x ys ≡ true → put x ys ≡ x ∷ ys
put-first x [] h = refl
put-first x (y ∷ ys) h = rw (not_before x y (and_parts (before x y) (is_below x ys) h).0) refl

pub with_id-first : (x : Id) (ys : List Id) → is_below x ys ≡ true → with_id x ys ≡ x ∷ ys
with_id-first x ys h = rw (is_below-absent x ys h) (put-first x ys h)

-- ---- the set of some ids

-- of two ids that differ, one comes before the other
one_before : (x y : Id) → same y x ≡ false → before x y ≡ not (before y x)
one_before x y h =
    elim (before y x) as (λ b. before y x ≡ b → before x y ≡ not b) [
      | true ↦ λ e. not_before y x e
      | false ↦ λ e. before_flip x y e h
    ] refl

-- z is before x, and not before y
between : (x y z : Id) → before z x ≡ true → before z y ≡ false → before y x ≡ true
between x y z h k =
    elim (same z y) as (λ b. same z y ≡ b → before y x ≡ true) [
      | true ↦ λ e. subst (λ (i : Id). before i x ≡ true) (same_text z y (sym e)) h
      | false ↦ λ e. before_trans y z x (before_flip y z k e) h
    ] refl

-- two ids go in in either order
either_first : (b : Bool) (x y : Id) (zs : List Id) → cond b (y ∷ x ∷ zs) (x ∷ y ∷ zs) ≡ cond (not b) (x ∷ y ∷ zs) (y ∷ x ∷ zs)
either_first true x y zs = refl
either_first false x y zs = refl

put-swap : (x y : Id) (zs : List Id) → same y x ≡ false → put x (put y zs) ≡ put y (put x zs)
put-swap x y [] h = rw (one_before x y h) (either_first (before y x) x y [])
put-swap x y (z ∷ zs) h = from (before z x) (before z y) refl refl (put-swap x y zs h)
  where
    from : (a b : Bool) → before z x ≡ a → before z y ≡ b → put x (put y zs) ≡ put y (put x zs) → put x (cond b (z ∷ put y zs) (y ∷ z ∷ zs)) ≡ put y (cond a (z ∷ put x zs) (x ∷ z ∷ zs))
    from true true e f rest = rw (e, f) (ap (λ t. z ∷ t) rest)
    from true false e f rest = rw (between x y z e f, e, f) refl
    from false true e f rest = rw (between y x z f e, e, f) refl
    from false false e f rest = rw (e, f, one_before x y h) (either_first (before y x) x y (z ∷ zs))

with_id-swap : (x y : Id) (zs : List Id) → with_id x (with_id y zs) ≡ with_id y (with_id x zs)
with_id-swap x y zs =
    elim (same y x) as (λ b. same y x ≡ b → with_id x (with_id y zs) ≡ with_id y (with_id x zs)) [
      | true ↦ λ e. subst (λ (i : Id). with_id i (with_id y zs) ≡ with_id y (with_id i zs)) (same_text y x (sym e)) refl
      | false ↦ λ e. apart e (same_flipped x y ∙ e) (has x zs) (has y zs) refl refl
    ] refl
  where
    apart : same y x ≡ false → same x y ≡ false → (a b : Bool) → has x zs ≡ a → has y zs ≡ b
        → cond (has x (cond b zs (put y zs))) (cond b zs (put y zs)) (put x (cond b zs (put y zs))) ≡ cond (has y (cond a zs (put x zs))) (cond a zs (put x zs)) (put y (cond a zs (put x zs)))
    apart e f true true h k = rw (h, k) refl
    apart e f true false h k = rw (has-put, e, h, k) refl
    apart e f false true h k = rw (has-put, f, h, k) refl
    apart e f false false h k = rw (has-put x y zs, has-put y x zs, e, f, h, k) (put-swap x y zs e)

fold-with_id : (x : Id) (set ids : List Id) → fold (λ s id. with_id id s) (with_id x set) ids ≡ with_id x (fold (λ s id. with_id id s) set ids)
fold-with_id x set [] = refl
fold-with_id x set (y ∷ ids) = ap (λ s. fold (λ t id. with_id id t) s ids) (with_id-swap y x set) ∙ fold-with_id x (with_id y set) ids

-- the set of the ids is that of the others with the first one
pub set_of-cons : (x : Id) (ids : List Id) → set_of (x ∷ ids) ≡ with_id x (set_of ids)
set_of-cons x ids = fold-with_id x [] ids

-- it has those ids
pub has-set_of : (x : Id) (ids : List Id) → has x (set_of ids) ≡ has x ids
has-set_of x [] = refl
has-set_of x (y ∷ ids) = ap (has x) (set_of-cons y ids) ∙ has-with_id x y (set_of ids) ∙ ap (λ b. same y x || b) (has-set_of x ids)

-- a set has at most as many ids as it is made of
length-fold : (set ids : List Id) → length (fold (λ s id. with_id id s) set ids) ≤ length set + length ids
length-fold set [] = omega arith
length-fold set (x ∷ ids) = omega (arith, length-fold (with_id x set) ids, length-with_id-le x set)

pub length-set_of : (ids : List Id) → length (set_of ids) ≤ length ids
length-set_of ids = omega (arith, length-fold [] ids)

pub length-set_of-take : (ids : List Id) (n : ℕ) → length (set_of (take n ids)) ≤ n
length-set_of-take ids n = omega (arith, length-fold [] (take n ids), length-take n ids)

-- ---- an id less

other_than : (x y q : Id) → (same y q && not (same y x)) ≡ (same y q && not (same x q))
other_than x y q =
    elim (same y q) as (λ b. same y q ≡ b → (b && not (same y x)) ≡ (b && not (same x q))) [
      | true ↦ λ e. ap not (subst (λ (i : Id). same i x ≡ same x q) (sym (same_text y q (sym e))) (same_flipped q x))
      | false ↦ λ e. refl
    ] refl

left_step : (a b c h : Bool) → (a && not b) ≡ (a && not c) → (cond (not b) (a || (h && not c)) (h && not c)) ≡ ((a || h) && not c)
left_step true true true true p = refl
left_step true true true false p = refl
left_step true true false h p = absurd (cc)
left_step true false true h p = absurd (cc)
left_step true false false h p = refl
left_step false true c h p = refl
left_step false false c h p = refl

pub has-without_id : (q x : Id) (ys : List Id) → has q (without_id x ys) ≡ (has q ys && not (same x q))
has-without_id q x [] = refl
has-without_id q x (y ∷ ys) =
    inner (same y x) (has-without_id q x ys) ∙ left_step (same y q) (same y x) (same x q) (has q ys) (other_than x y q)
  where
    inner : (b : Bool) → has q (without_id x ys) ≡ (has q ys && not (same x q)) → has q (cond (not b) (y ∷ without_id x ys) (without_id x ys)) ≡ cond (not b) (same y q || (has q ys && not (same x q))) (has q ys && not (same x q))
    inner true rest = rest
    inner false rest = ap (λ t. same y q || t) rest

-- how many are left: one less, where it was in
pub length-without_id-is : (x : Id) (ys : List Id) → ascends ys ≡ true → length (without_id x ys) + cond (has x ys) 1 0 ≡ length ys
length-without_id-is x ys h =
    elim (has x ys) as (λ b. has x ys ≡ b → length (without_id x ys) + cond b 1 0 ≡ length ys) [
      | true ↦ λ e. rw (← remove-place_of x ys h e) (length-remove ys (place_of x ys) (place_of-within x ys h e))
      | false ↦ λ e. rw (without_id-absent x ys e) (omega arith)
    ] refl

-- no more of a set's ids are among others than there are others
and_true : (b : Bool) → (b && true) ≡ b
and_true true = refl
and_true false = refl

among_left : (x q : Id) (ys : List Id) → before x q ≡ true → has q (without_id x ys) ≡ has q ys
among_left x q ys h =
    let other : same x q ≡ false = same_flipped x q ∙ after-not_same x q h in
    has-without_id q x ys ∙ rw other (and_true (has q ys))

-- 1 for an id that is in the set
abbrev present : List Id → Id → ℕ
present set x = cond (has x set) 1 0

count_left : (x : Id) (xs ys : List Id) → is_below x xs ≡ true → count_by (λ q. has q ys) xs ≤ count_by (λ q. has q (without_id x ys)) xs
count_left x [] ys h = omega arith
count_left x (q ∷ xs) ys h =
    let parts = and_parts (before x q) (is_below x xs) h in
    let here : present ys q ≡ present (without_id x ys) q = rw (among_left x q ys parts.0) refl in
    omega (arith, here, count_left x xs ys parts.1, sum_by-cons (present ys) q xs, sum_by-cons (present (without_id x ys)) q xs)

pub count_among-le : (xs ys : List Id) → ascends xs ≡ true → ascends ys ≡ true → count_by (λ q. has q ys) xs ≤ length ys
count_among-le [] ys h k = omega arith
count_among-le (x ∷ xs) ys h k =
    let parts = and_parts (is_below x xs) (ascends xs) h in
    omega (arith, sum_by-cons (present ys) x xs, count_left x xs ys parts.0, count_among-le xs (without_id x ys) parts.1 (ascends-without_id x ys k), length-without_id-is x ys k)

-- half of a configuration is no quorum of it
pub half_is_none : (config votes : List Id) → IsIdSet config → IsIdSet votes → 2 * length votes ≤ length config → false ≡ is_quorum_of config votes
half_is_none config votes ids cast half =
    let few = count_among-le config votes ids.ascending cast.ascending in
    grind (arith, nat_tests, few, half)

-- ---- two sets as one

-- 1 for an id that is not in the set
abbrev absent : List Id → Id → ℕ
absent set x = cond (not (has x set)) 1 0

-- with an id more, no more are absent
absent-le : (b c : Bool) → cond (not (b || c)) 1 0 ≤ cond (not c) 1 0
absent-le true true = omega arith
absent-le true false = omega arith
absent-le false c = omega arith

absent-put : (x : Id) (set ids : List Id) → count_by (λ y. not (has y (put x set))) ids ≤ count_by (λ y. not (has y set)) ids
absent-put x set [] = omega arith
absent-put x set (y ∷ ys) =
    let here : absent (put x set) y ≤ absent set y = rw has-put (absent-le (same x y) (has y set)) in
    omega (arith, here, absent-put x set ys, sum_by-cons (absent (put x set)) y ys, sum_by-cons (absent set) y ys)

one_more : (x : Id) (set ids : List Id) → union_count_of ids (with_id x set) ≤ union_count_of (x ∷ ids) set
one_more x set ids =
    elim (has x set) as (λ b. has x set ≡ b → union_count_of ids (cond b set (put x set)) ≤ union_count_of (x ∷ ids) set) [
      | true ↦ λ e. omega (arith, sum_by-cons (absent set) x ids)
      | false ↦ λ e.
          let here : absent set x ≡ 1 = rw e refl in
          omega (arith, here, length-put x set, absent-put x set ids, sum_by-cons (absent set) x ids)
    ] refl

pub length-union : (set ids : List Id) → length (union set ids) ≤ union_count_of ids set
length-union set [] = omega arith
length-union set (x ∷ ids) = omega (arith, length-union (with_id x set) ids, one_more x set ids)

-- on the way to a union there are no more ids than in it
length-union-take : (set ids : List Id) (n : ℕ) → length (union set (take n ids)) ≤ union_count_of ids set
length-union-take set ids n = omega (arith, length-union set (take n ids), sum_by-take-le (absent set) ids n)

-- so there is room for the next one
pub union-room : (set ids : List Id) (i : ℕ) (x : Id) → i < length ids → x ≡ get_or ids i x → union_count_of ids set ≤ most_ids → has_room (union set (take i ids)) x ≡ true
union-room set ids i x less at fits =
    let so_far = union set (take i ids) in
    let next : union set (take (i + 1) ids) ≡ with_id x so_far =
    fold_more (λ s id. with_id id s) set ids i x less ∙ ap (λ (y : Id). with_id y so_far) (sym at) in
    elim (has x so_far) as (λ b. length so_far + cond b 0 1 ≤ most_ids → (b || nat_lt (length so_far) most_ids) ≡ true) [
      | true ↦ λ k. refl
      | false ↦ λ k. lt-ltb (length so_far) most_ids (omega (arith, k))
    ] (omega (arith, length-union-take set ids (i + 1), ap length next, length-with_id x so_far, fits))
