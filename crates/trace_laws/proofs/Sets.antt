-- How many ids a set has, and which.
use Rattle.std.proofs.Common.{◌≡◌, ◌<◌, ◌≤◌, Bool, true, false, ◌||◌, List, [], ◌∷◌, length, refl, sym, ap, ◌∙◌, subst, arith}
use Rattle.std.specs.List.{list_all}
use Rattle.std.specs.Cmp.Lexicographic.{same_text}
use Rattle.std.proofs.Math.Bool.{or-true}
use Rattle.std.proofs.lemmas.Bool.{and_parts, and_from}
use Rattle.voting_config.specs.Ids.{Id, same, before, has, is_below, ascends, put, most_ids, IsIdSet}
use Rattle.voting_config.proofs.Sorted.{before-not_same, ascends-put, is_below-before, length-put, list_all-put}
use Rattle.voting_config.proofs.Sets.{same_self}

pub all_ids : (p q : Id → Bool) → ((x : Id) → p x ≡ true → q x ≡ true) → (xs : List Id) → list_all p xs ≡ true → list_all q xs ≡ true
all_ids p q f [] h = refl
all_ids p q f (x ∷ xs) h = let parts = and_parts (p x) _ h in and_from _ _ (f x parts.0) (all_ids p q f xs parts.1)

pub all_self : (xs : List Id) → list_all (λ x. has x xs) xs ≡ true
all_self [] = refl
all_self (x ∷ xs) =
    and_from _ _ (ap (λ (b : Bool). b || has x xs) (same_self x))
    (all_ids (λ y. has y xs) (λ y. has y (x ∷ xs)) (λ y h. ap (λ (b : Bool). same x y || b) h ∙ or-true (same x y)) xs (all_self xs))

below_at : (y x : Id) (ys : List Id) → is_below y ys ≡ true → has x ys ≡ true → before y x ≡ true
below_at y x [] h k = absurd cc
below_at y x (z ∷ zs) h k =
    let parts = and_parts (before y z) _ h in
    elim (same z x) as (λ b. same z x ≡ b → (b || has x zs) ≡ true → before y x ≡ true) [
      | true ↦ λ e m. subst (λ (i : Id). before y i ≡ true) (same_text z x (sym e)) parts.0
      | false ↦ λ e m. below_at y x zs parts.1 m
    ] refl k

-- what is above the first id of a set is among the others
among_others : (y : Id) (zs ys : List Id) → is_below y zs ≡ true → list_all (λ z. has z (y ∷ ys)) zs ≡ true → list_all (λ z. has z ys) zs ≡ true
among_others y [] ys h k = refl
among_others y (z ∷ zs) ys h k =
    let below = and_parts (before y z) _ h in
    let parts = and_parts (has z (y ∷ ys)) _ k in
    and_from _ _ (subst (λ (b : Bool). (b || has z ys) ≡ true) (before-not_same z y below.0) parts.0) (among_others y zs ys below.1 parts.1)

shorter : (xs ys : List Id) → ascends xs ≡ true → ascends ys ≡ true → list_all (λ x. has x ys) xs ≡ true → length xs ≤ length ys
shorter [] ys a b h = omega arith
shorter (x ∷ xs) [] a b h = absurd cc
shorter (x ∷ xs) (y ∷ ys) a b h =
    let first = and_parts (is_below x xs) _ a in
    let second = and_parts (is_below y ys) _ b in
    let parts = and_parts (has x (y ∷ ys)) _ h in
    elim (same y x) as (λ s. same y x ≡ s → length (x ∷ xs) ≤ length (y ∷ ys)) [
      | true ↦ λ e.
          let below : is_below y xs ≡ true = subst (λ (i : Id). is_below i xs ≡ true) (sym (same_text y x (sym e))) first.0 in
          omega (arith, shorter xs ys first.1 second.1 (among_others y xs ys below parts.1))
      | false ↦ λ e.
          let inside : has x ys ≡ true = subst (λ (s : Bool). (s || has x ys) ≡ true) e parts.0 in
          let less : before y x ≡ true = below_at y x ys second.0 inside in
          let below : is_below y (x ∷ xs) ≡ true = and_from _ _ less (is_below-before y x xs less first.0) in
          omega (arith, shorter (x ∷ xs) ys a second.1 (among_others y (x ∷ xs) ys below h))
    ] refl

-- a set of some of the ids without this one has room for it
pub has_room : (n : Id) (some ids : List Id) → IsIdSet ids → ascends some ≡ true → list_all (λ x. has x ids) some ≡ true → has n ids ≡ true → has n some ≡ false → length some < most_ids
has_room n some ids set ascending among inside outside =
    omega (arith, set.fits, length-put n some, shorter (put n some) ids (ascends-put n some ascending outside) set.ascending (list_all-put (λ x. has x ids) n some inside among))
