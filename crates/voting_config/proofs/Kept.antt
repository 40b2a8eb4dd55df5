-- Ids kept of a set are a set.
use Rattle.std.proofs.Common.{◌≡◌, ℕ, zero, suc, ◌<◌, ◌≤◌, Bool, true, false, List, [], ◌∷◌, length, take, get_or, refl, cond, arith, filter}
use Rattle.std.specs.List.{list_all}
use Rattle.std.proofs.lemmas.Bool.{and_parts, and_from}
use Rattle.std.proofs.lemmas.List.{length-take}
use Rattle.std.proofs.lemmas.List.Sums.{length-filter, count_by-le-length}
use Rattle.voting_config.specs.Ids.{Id, before, is_below, ascends, comes_after}

pub length-filter-le : (p : Id → Bool) (ids : List Id) → length (filter p ids) ≤ length ids
length-filter-le p ids = omega (arith, length-filter p ids, count_by-le-length p ids)

pub length-filter-take : (p : Id → Bool) (ids : List Id) (n : ℕ) → length (filter p (take n ids)) ≤ n
length-filter-take p ids n = omega (arith, length-filter-le p (take n ids), length-take n ids)

pub list_all-filter : (p q : Id → Bool) (xs : List Id) → list_all p xs ≡ true → list_all p (filter q xs) ≡ true
list_all-filter p q [] h = refl
list_all-filter p q (x ∷ xs) h =
    let parts = and_parts (p x) (list_all p xs) h in
    elim (q x) as (λ b. list_all p (cond b (x ∷ filter q xs) (filter q xs)) ≡ true) [
      | true ↦ and_from _ _ parts.0 (list_all-filter p q xs parts.1)
      | false ↦ list_all-filter p q xs parts.1
    ]

-- ---- one after the other

-- an id that all are before comes after them
above_all : (x : Id) (ys : List Id) → list_all (λ y. before y x) ys ≡ true → comes_after x ys ≡ true
above_all x [] h = refl
above_all x (y ∷ []) h = (and_parts (before y x) true h).0
above_all x (y ∷ z ∷ zs) h = above_all x (z ∷ zs) (and_parts (before y x) (list_all (λ w. before w x) (z ∷ zs)) h).1

below_at : (x : Id) (ys : List Id) (i : ℕ) (d : Id) → is_below x ys ≡ true → i < length ys → before x (get_or ys i d) ≡ true
below_at x [] i d h less = absurd (omega arith)
below_at x (y ∷ ys) zero d h less = (and_parts (before x y) (is_below x ys) h).0
below_at x (y ∷ ys) (suc i) d h less = below_at x ys i d (and_parts (before x y) (is_below x ys) h).1 (omega arith)

-- those before a place come before the id that stands there
earlier : (ys : List Id) (i : ℕ) (d : Id) → ascends ys ≡ true → i < length ys → list_all (λ y. before y (get_or ys i d)) (take i ys) ≡ true
earlier [] i d h less = absurd (omega arith)
earlier (y ∷ ys) zero d h less = refl
earlier (y ∷ ys) (suc i) d h less =
    let parts = and_parts (is_below y ys) (ascends ys) h in
    and_from _ _ (below_at y ys i d parts.0 (omega arith)) (earlier ys i d parts.1 (omega arith))

-- the next id that is kept comes last
pub comes_after-kept : (p : Id → Bool) (ids kept : List Id) (i : ℕ) (x : Id) → ascends ids ≡ true → i < length ids → x ≡ get_or ids i x → kept ≡ filter p (take i ids) → comes_after x kept ≡ true
comes_after-kept p ids kept i x h less at is =
    rw is (above_all x (filter p (take i ids)) (list_all-filter (λ y. before y x) p (take i ids) (rw (← at) at (earlier ids i x h less))))
