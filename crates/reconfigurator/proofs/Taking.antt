-- The first of several lists, as a set.
use Rattle.std.proofs.Common.{◌≡◌, ℕ, zero, suc, ◌+◌, ◌-◌, ◌≤◌, List, [], ◌∷◌, ◌++◌, length, take, sym, ap, ◌∙◌, arith}
use Rattle.std.proofs.lemmas.List.{length-append}
use Rattle.std.proofs.lemmas.List.Sums.{fold-append}
use Rattle.voting_config.specs.Ids.{Id, set_of, union, with_id}
use Rattle.voting_config.proofs.Sets.{length-with_id-le}

-- so many of one list and another
take_both : (n : ℕ) (xs ys : List Id) → take n (xs ++ ys) ≡ take n xs ++ take (n - length xs) ys
take_both zero xs ys =
    let none : 0 - length xs ≡ 0 = omega arith in
    ap (λ (k : ℕ). take k ys) (sym none)
take_both (suc n) [] ys =
    let all : suc n - 0 ≡ suc n = omega arith in
    ap (λ (k : ℕ). take k ys) (sym all)
take_both (suc n) (x ∷ xs) ys =
    let one_less : suc n - suc (length xs) ≡ n - length xs = omega arith in
    ap (λ (zs : List Id). x ∷ zs) (take_both n xs ys ∙ ap (λ (k : ℕ). take n xs ++ take k ys) (sym one_less))

-- what was taken of the first lists, and more of the next
taken_more : (n : ℕ) (xs ys : List Id) → union (set_of (take n xs)) (take (n - length xs) ys) ≡ set_of (take n (xs ++ ys))
taken_more n xs ys =
    sym (fold-append (λ (ids : List Id) (id : Id). with_id id ids) [] (take n xs) (take (n - length xs) ys)) ∙ ap (λ (zs : List Id). set_of zs) (sym (take_both n xs ys))

-- so many of these ids were taken, and there is room for so many more
pub record Taken (n : ℕ) (all taken : List Id) (room : ℕ) : Type 0 where
  pub taken_is : taken ≡ set_of (take n all)
  pub room_is : room ≡ n - length all

pub taken_first : (n : ℕ) (none ids taken : List Id) (room : ℕ) → none ≡ [] → taken ≡ union none (take n ids) → room ≡ n - length ids → Taken n ids taken room
taken_first n none ids taken room none_is taken_is room_is =
    record { taken_is = taken_is ∙ ap (λ (set : List Id). union set (take n ids)) none_is; room_is = room_is }

pub taken_next : (n : ℕ) (all ids taken next : List Id) (room left : ℕ) → Taken n all taken room → next ≡ union taken (take room ids) → left ≡ room - length ids → Taken n (all ++ ids) next left
taken_next n all ids taken next room left before next_is left_is =
    record {
      taken_is =
          next_is
          ∙ ap (λ (set : List Id). union set (take room ids)) before.taken_is
          ∙ ap (λ (k : ℕ). union (set_of (take n all)) (take k ids)) before.room_is
          ∙ taken_more n all ids;
      room_is = omega (arith, left_is, before.room_is, length-append all ids);
    }

pub length-union : (ids more : List Id) → length (union ids more) ≤ length ids + length more
length-union ids [] = omega arith
length-union ids (x ∷ more) = omega (arith, length-union (with_id x ids) more, length-with_id-le x ids)
