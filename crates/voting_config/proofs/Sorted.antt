-- Sets of ids as lists that ascend.
use Rattle.std.proofs.Common.{◌≡◌, ℕ, suc, not, ◌≤◌, Some, ◌+◌, ◌<◌, Bool, true, false, cond, ◌||◌, List, [], ◌∷◌, ◌++◌, ◌-◌, slice_get, length, refl, sym, ◌∙◌, ap, subst, arith}
use Rattle.std.proofs.lemmas.Grind.{common_steps}
use Rattle.std.proofs.lemmas.List.{length-append}
use Rattle.std.proofs.lemmas.Bool.{and_parts, and_from, or_parts}
use Rattle.std.specs.List.{insert, remove, list_all}
use Rattle.std.specs.Ordering.{is_lt, is_eq, ordering_reverse}
use Rattle.std.specs.declared.cmp.Ordering.{Ordering}
use Rattle.std.specs.declared.cmp.Ordering.TheVariants.{Less, Equal, Greater}
use Rattle.std.specs.Cmp.Lexicographic.{nat_list_cmp_total, texts_ties, same_text}
use Rattle.voting_config.specs.Ids.{Id, is_id, same, before, has, is_below, ascends, IsIdSet, most_ids, comes_after, put, with_id, without_id, place_of}

pub put-insert : (x : Id) (ys : List Id) → put x ys ≡ insert ys (place_of x ys) x
put-insert x [] = refl
put-insert x (y ∷ ys) =
    elim (before y x) as (λ b. cond b (y ∷ put x ys) (x ∷ y ∷ ys) ≡ insert (y ∷ ys) (cond b (1 + place_of x ys) 0) x) [
      | true ↦ ap (λ t. y ∷ t) (put-insert x ys) ∙ grind (arith, common_steps)
      | false ↦ refl
    ]

pub less_is : (o : Ordering) → is_lt o ≡ true → o ≡ Less
less_is Less h = refl
less_is Equal h = cc
less_is Greater h = cc

neither : (o : Ordering) → is_lt o ≡ false → is_eq o ≡ false → is_lt (ordering_reverse o) ≡ true
neither Less h k = cc
neither Equal h k = cc
neither Greater h k = refl

pub before_trans : (x y z : Id) → before x y ≡ true → before y z ≡ true → before x z ≡ true
before_trans x y z h k = ap is_lt (nat_list_cmp_total.trans x y z (less_is _ h) (less_is _ k))

pub before_flip : (x y : Id) → before y x ≡ false → same y x ≡ false → before x y ≡ true
before_flip x y h k = ap is_lt (nat_list_cmp_total.antisymm x y) ∙ neither _ h (sym (texts_ties y x) ∙ k)

pub is_below-before : (x y : Id) (ys : List Id) → before x y ≡ true → is_below y ys ≡ true → is_below x ys ≡ true
is_below-before x y [] h k = refl
is_below-before x y (z ∷ zs) h k =
    let parts = and_parts _ _ k in
    and_from _ _ (before_trans x y z h parts.0) (is_below-before x y zs h parts.1)

pub is_below-put : (y x : Id) (ys : List Id) → before y x ≡ true → is_below y ys ≡ true → is_below y (put x ys) ≡ true
is_below-put y x [] h k = and_from _ _ h refl
is_below-put y x (z ∷ zs) h k =
    let parts = and_parts _ _ k in
    elim (before z x) as (λ b. is_below y (cond b (z ∷ put x zs) (x ∷ z ∷ zs)) ≡ true) [
      | true ↦ and_from _ _ parts.0 (is_below-put y x zs h parts.1)
      | false ↦ and_from _ _ h k
    ]

pub ascends-put : (x : Id) (ys : List Id) → ascends ys ≡ true → has x ys ≡ false → ascends (put x ys) ≡ true
ascends-put x [] h k = refl
ascends-put x (y ∷ ys) h k =
    let parts = and_parts _ _ h in
    let apart = or_parts _ _ k in
    elim (before y x) as (λ b. before y x ≡ b → ascends (cond b (y ∷ put x ys) (x ∷ y ∷ ys)) ≡ true) [
      | true ↦ λ e. and_from _ _ (is_below-put y x ys e parts.0) (ascends-put x ys parts.1 apart.1)
      | false ↦ λ e.
          let less = before_flip x y e apart.0 in
          and_from _ _ (and_from _ _ less (is_below-before x y ys less parts.0)) h
    ] refl

pub ascends-with_id : (x : Id) (ys : List Id) → ascends ys ≡ true → ascends (with_id x ys) ≡ true
ascends-with_id x ys h =
    elim (has x ys) as (λ b. has x ys ≡ b → ascends (cond b ys (put x ys)) ≡ true) [
      | true ↦ λ e. h
      | false ↦ λ e. ascends-put x ys h e
    ] refl

-- what putting an id in changes: who is in
pub has-put : (q x : Id) (ys : List Id) → has q (put x ys) ≡ (same x q || has q ys)
has-put q x [] = refl
has-put q x (y ∷ ys) =
    elim (before y x) as (λ b. has q (cond b (y ∷ put x ys) (x ∷ y ∷ ys)) ≡ (same x q || (same y q || has q ys))) [
      | true ↦ ap (λ t. same y q || t) (has-put q x ys) ∙ swap (same y q) (same x q) (has q ys)
      | false ↦ refl
    ]
  where
    swap : (a b c : Bool) → (a || (b || c)) ≡ (b || (a || c))
    swap true true c = refl
    swap true false c = refl
    swap false b c = refl

pub has_same : (x q : Id) (ys : List Id) → same x q ≡ true → has x ys ≡ true → has q ys ≡ true
has_same x q ys e h = subst (λ (i : Id). has i ys ≡ true) (same_text x q (sym e)) h

pub has-with_id : (q x : Id) (ys : List Id) → has q (with_id x ys) ≡ (same x q || has q ys)
has-with_id q x ys =
    elim (has x ys) as (λ b. has x ys ≡ b → has q (cond b ys (put x ys)) ≡ (same x q || has q ys)) [
      | true ↦ λ e. elim (same x q) as (λ b. same x q ≡ b → has q ys ≡ (b || has q ys)) [ true ↦ λ s. has_same x q ys s e | false ↦ λ s. refl ] refl
      | false ↦ λ e. has-put q x ys
    ] refl

-- where x is not in, it goes in at its place
pub with_id-absent : (x : Id) (ys zs : List Id) (place : ℕ) → false ≡ has x ys → zs ≡ ys → place ≡ place_of x zs → with_id x ys ≡ insert zs place x
with_id-absent x ys zs place h e p = rw (← h, p, e) (put-insert x ys)

-- an id after the last one is after the first
pub before-comes_after : (x y : Id) (ys : List Id) → ascends (y ∷ ys) ≡ true → comes_after x (y ∷ ys) ≡ true → before y x ≡ true
before-comes_after x y [] h k = k
before-comes_after x y (z ∷ zs) h k =
    let parts = and_parts _ _ h in
    before_trans y z x (and_parts _ _ parts.0).0 (before-comes_after x z zs parts.1 k)

pub list_all-push : (p : Id → Bool) (x : Id) (ys : List Id) → list_all p ys ≡ true → p x ≡ true → list_all p (ys ++ x ∷ []) ≡ true
list_all-push p x [] h k = and_from _ _ k refl
list_all-push p x (y ∷ ys) h k = let parts = and_parts _ _ h in and_from _ _ parts.0 (list_all-push p x ys parts.1 k)

-- where x comes after the last one, it may go in at the end
pub ascends-push : (x : Id) (ys : List Id) → ascends ys ≡ true → comes_after x ys ≡ true → ascends (ys ++ x ∷ []) ≡ true
ascends-push x [] h k = refl
ascends-push x (y ∷ []) h k = and_from _ _ (and_from _ _ k refl) refl
ascends-push x (y ∷ z ∷ zs) h k =
    let parts = and_parts _ _ h in
    and_from _ _ (list_all-push (before y) x (z ∷ zs) parts.0 (before-comes_after x y (z ∷ zs) h k)) (ascends-push x (z ∷ zs) parts.1 k)

-- the place of an id that comes after the last one is behind them all
pub place_of-last : (x : Id) (ys : List Id) → ascends ys ≡ true → comes_after x ys ≡ true → place_of x ys ≡ length ys
place_of-last x [] h k = refl
place_of-last x (y ∷ []) h k = rw k refl
place_of-last x (y ∷ z ∷ zs) h k =
    let rest : place_of x (z ∷ zs) ≡ length (z ∷ zs) = place_of-last x (z ∷ zs) (and_parts (is_below y (z ∷ zs)) (ascends (z ∷ zs)) h).1 k in
    rw (before-comes_after x y (z ∷ zs) h k) (omega (arith, rest))

-- the test on the last one alone
pub comes_after-last : (x y : Id) (ys : List Id) → Some y ≡ slice_get ys (length ys - 1) → comes_after x ys ≡ before y x
comes_after-last x y [] h = absurd cc
comes_after-last x y (z ∷ []) h = let e : y ≡ z = cc in rw e refl
comes_after-last x y (z ∷ w ∷ ws) h =
    let e : suc (suc (length ws)) - 1 ≡ suc (length ws) = omega arith in
    let f : suc (length ws) - 1 ≡ length ws = omega arith in
    comes_after-last x y (w ∷ ws) (rw f (rw e at h))

pub list_all-put : (p : Id → Bool) (x : Id) (ys : List Id) → p x ≡ true → list_all p ys ≡ true → list_all p (put x ys) ≡ true
list_all-put p x [] h k = and_from _ _ h refl
list_all-put p x (y ∷ ys) h k =
    let parts = and_parts _ _ k in
    elim (before y x) as (λ b. list_all p (cond b (y ∷ put x ys) (x ∷ y ∷ ys)) ≡ true) [
      | true ↦ and_from _ _ parts.0 (list_all-put p x ys h parts.1)
      | false ↦ and_from _ _ h k
    ]

pub length-put : (x : Id) (ys : List Id) → length (put x ys) ≡ suc (length ys)
length-put x [] = refl
length-put x (y ∷ ys) =
    elim (before y x) as (λ b. length (cond b (y ∷ put x ys) (x ∷ y ∷ ys)) ≡ suc (suc (length ys))) [
      | true ↦ ap suc (length-put x ys)
      | false ↦ refl
    ]

-- a set stays one with an id more
pub IsIdSet-push : (x : Id) (ys : List Id) → IsIdSet ys → is_id x ≡ true → comes_after x ys ≡ true → length ys < most_ids → IsIdSet (ys ++ x ∷ [])
IsIdSet-push x ys set id after room = record {
  ascending = ascends-push x ys set.ascending after;
  each = list_all-push is_id x ys set.each id;
  fits = rw length-append (omega arith);
}

pub IsIdSet-with_id : (x : Id) (ys : List Id) → IsIdSet ys → is_id x ≡ true → has x ys ≡ false → length ys < most_ids → IsIdSet (with_id x ys)
IsIdSet-with_id x ys set id absent room = rw absent record {
  ascending = ascends-put x ys set.ascending absent;
  each = list_all-put is_id x ys id set.each;
  fits = rw length-put (omega arith);
}

-- Taking an id out.

pub before-not_same : (x y : Id) → before y x ≡ true → same y x ≡ false
before-not_same x y h = texts_ties y x ∙ ap is_eq (less_is _ h)

pub after-not_same : (x y : Id) → before x y ≡ true → same y x ≡ false
after-not_same x y h = texts_ties y x ∙ ap is_eq (nat_list_cmp_total.antisymm y x ∙ ap ordering_reverse (less_is _ h))

-- an id that is before all of them is not one of them
pub is_below-absent : (x : Id) (ys : List Id) → is_below x ys ≡ true → has x ys ≡ false
is_below-absent x [] h = refl
is_below-absent x (y ∷ ys) h =
    let parts = and_parts _ _ h in
    rw (after-not_same x y parts.0) (is_below-absent x ys parts.1)

pub without_id-absent : (x : Id) (ys : List Id) → has x ys ≡ false → without_id x ys ≡ ys
without_id-absent x [] h = refl
without_id-absent x (y ∷ ys) h =
    let apart : (same y x ≡ false) × (has x ys ≡ false) = or_parts (same y x) (has x ys) h in
    rw apart.0 (ap (λ t. y ∷ t) (without_id-absent x ys apart.1))

remove-later : (y : Id) (ys : List Id) (k : ℕ) → remove (y ∷ ys) (1 + k) ≡ y ∷ remove ys k
remove-later y ys k = let e : 1 + k ≡ suc k = omega arith in rw e refl

-- an id that is in stands at its place, and the others stay
pub remove-place_of : (x : Id) (ys : List Id) → ascends ys ≡ true → has x ys ≡ true → remove ys (place_of x ys) ≡ without_id x ys
remove-place_of x [] h k = absurd cc
remove-place_of x (y ∷ ys) h k =
    let parts = and_parts _ _ h in
    elim (before y x) as (λ b. before y x ≡ b → remove (y ∷ ys) (cond b (1 + place_of x ys) 0) ≡ without_id x (y ∷ ys)) [
      | true ↦ λ e.
          let other = before-not_same x y e in
          let in_rest : has x ys ≡ true = rw other at k in
          rw other (remove-later y ys (place_of x ys) ∙ ap (λ t. y ∷ t) (remove-place_of x ys parts.1 in_rest))
      | false ↦ λ e. first e parts.0
    ] refl
  where
    first : before y x ≡ false → is_below y ys ≡ true → remove (y ∷ ys) 0 ≡ without_id x (y ∷ ys)
    first e low =
        elim (same y x) as (λ b. same y x ≡ b → remove (y ∷ ys) 0 ≡ without_id x (y ∷ ys)) [
          | true ↦ λ s.
              let below : is_below x ys ≡ true = subst (λ (i : Id). is_below i ys ≡ true) (same_text y x (sym s)) low in
              rw s (sym (without_id-absent x ys (is_below-absent x ys below)))
          | false ↦ λ s.
              let absent = is_below-absent x ys (is_below-before x y ys (before_flip x y e s) low) in
              let in_rest : has x ys ≡ true = rw s at k in
              absurd (cc)
        ] refl

pub place_of-within : (x : Id) (ys : List Id) → ascends ys ≡ true → has x ys ≡ true → place_of x ys < length ys
place_of-within x [] h k = absurd cc
place_of-within x (y ∷ ys) h k =
    let parts : (is_below y ys ≡ true) × (ascends ys ≡ true) = and_parts (is_below y ys) (ascends ys) h in
    elim (before y x) as (λ b. before y x ≡ b → cond b (1 + place_of x ys) 0 < suc (length ys)) [
      | true ↦ λ e.
          let other = before-not_same x y e in
          let in_rest : has x ys ≡ true = rw other at k in
          let lower : place_of x ys < length ys = place_of-within x ys parts.1 in_rest in
          omega (arith, lower)
      | false ↦ λ e. omega arith
    ] refl

pub list_all-without_id : (p : Id → Bool) (x : Id) (ys : List Id) → list_all p ys ≡ true → list_all p (without_id x ys) ≡ true
list_all-without_id p x [] h = refl
list_all-without_id p x (y ∷ ys) h =
    let parts = and_parts _ _ h in
    elim (same y x) as (λ b. list_all p (cond (not b) (y ∷ without_id x ys) (without_id x ys)) ≡ true) [
      | true ↦ list_all-without_id p x ys parts.1
      | false ↦ and_from _ _ parts.0 (list_all-without_id p x ys parts.1)
    ]

pub ascends-without_id : (x : Id) (ys : List Id) → ascends ys ≡ true → ascends (without_id x ys) ≡ true
ascends-without_id x [] h = refl
ascends-without_id x (y ∷ ys) h =
    let parts = and_parts _ _ h in
    elim (same y x) as (λ b. ascends (cond (not b) (y ∷ without_id x ys) (without_id x ys)) ≡ true) [
      | true ↦ ascends-without_id x ys parts.1
      | false ↦ and_from _ _ (list_all-without_id (before y) x ys parts.0) (ascends-without_id x ys parts.1)
    ]

pub length-without_id : (x : Id) (ys : List Id) → length (without_id x ys) ≤ length ys
length-without_id x [] = omega arith
length-without_id x (y ∷ ys) =
    let lower = length-without_id x ys in
    elim (same y x) as (λ b. length (cond (not b) (y ∷ without_id x ys) (without_id x ys)) ≤ suc (length ys)) [
      | true ↦ omega arith
      | false ↦ omega arith
    ]

pub IsIdSet-without_id : (x : Id) (ys : List Id) → IsIdSet ys → IsIdSet (without_id x ys)
IsIdSet-without_id x ys set = record {
  ascending = ascends-without_id x ys set.ascending;
  each = list_all-without_id is_id x ys set.each;
  fits = let shorter = length-without_id x ys in omega (arith, set.fits);
}
