-- How many are in a round when an id goes from one of its two sets to the other.
use Rattle.std.proofs.Common.{◌≡◌, suc, ◌+◌, ◌<◌, ◌≤◌, Bool, true, false, not, ◌||◌, ◌⊎◌, inl, inr, List, [], ◌∷◌, length, refl, sym, ap, subst, cond, arith, nat_lt}
use Rattle.std.proofs.lemmas.Bool.{ltb-true}
use Rattle.voting_config.specs.Ids.{Id, has, same, put, with_id, without_id, most_ids}
use Rattle.voting_config.proofs.Sorted.{length-put, length-without_id}
use Rattle.pre_vote.specs.Rounds.{Round, fits}

-- an id that is in is gone then
shorter : (x : Id) (ys : List Id) → has x ys ≡ true → length (without_id x ys) < length ys
shorter x [] h = absurd cc
shorter x (y ∷ ys) h =
    elim (same y x) as (λ b. (b || has x ys) ≡ true → length (cond (not b) (y ∷ without_id x ys) (without_id x ys)) < suc (length ys)) [
      | true ↦ λ k. let lower = length-without_id x ys in omega (arith, lower)
      | false ↦ λ k. let lower = shorter x ys k in omega (arith, lower)
    ] h

-- two sets of at most 64 ids together, one of which has the id, or which have room for it
pub record HasRoom (x : Id) (to from : List Id) : Type 0 where
  pub room : (has x to || has x from || nat_lt (length to + length from) most_ids) ≡ true
  pub within : length to + length from ≤ most_ids

-- so are those of a round into which an answer fits
pub in_round : (x : Id) (held round : Round) → held ≡ round → fits x round ≡ true → length held.voters + length held.others ≤ most_ids → HasRoom x held.voters held.others
in_round x held round is h within = record { room = subst (λ (r : Round). fits x r ≡ true) (sym is) h; within = within }

pub other_way : (x : Id) (to from : List Id) → HasRoom x to from → HasRoom x from to
other_way x to from h = record {
  room = swapped (has x to) (has x from) (nat_lt (length to + length from) most_ids) (nat_lt (length from + length to) most_ids) (ap (λ n. nat_lt n most_ids) sums) h.room;
  within = omega (arith, h.within);
}
  where
    sums : length to + length from ≡ length from + length to
    sums = omega arith

    swapped : (a b c d : Bool) → c ≡ d → (a || b || c) ≡ true → (b || a || d) ≡ true
    swapped true true c d e k = refl
    swapped true false c d e k = refl
    swapped false true c d e k = refl
    swapped false false c d e k = cc

-- without the id in the other they are fewer than 32 together, where the one does not have it
fewer : (x : Id) (to from : List Id) → length to + length from ≤ most_ids → (has x from || nat_lt (length to + length from) most_ids) ≡ true → length to + length (without_id x from) < most_ids
fewer x to from within k =
    elim (has x from) as (λ b. has x from ≡ b → (b || nat_lt (length to + length from) most_ids) ≡ true → length to + length (without_id x from) < most_ids) [
      | true ↦ λ e m. let lower = shorter x from e in omega (arith, lower, within)
      | false ↦ λ e m. let lower = ltb-true (length to + length from) most_ids m in omega (arith, lower, length-without_id x from)
    ] refl k

-- so there is room for it in the one
pub room_in : (x : Id) (to from : List Id) → HasRoom x to from → (has x to ≡ true) ⊎ (length to < most_ids)
room_in x to from h =
    elim (has x to) as (λ a. (a || has x from || nat_lt (length to + length from) most_ids) ≡ true → (a ≡ true) ⊎ (length to < most_ids)) [
      | true ↦ λ k. inl refl
      | false ↦ λ k. inr (omega (arith, fewer x to from h.within k))
    ] h.room

-- they are at most 32 together, when it went from the other into it
pub moved_within : (x : Id) (to from : List Id) → HasRoom x to from → length (with_id x to) + length (without_id x from) ≤ most_ids
moved_within x to from h =
    let lower = length-without_id x from in
    elim (has x to) as (λ a. (a || has x from || nat_lt (length to + length from) most_ids) ≡ true → length (cond a to (put x to)) + length (without_id x from) ≤ most_ids) [
      | true ↦ λ k. omega (arith, lower, h.within)
      | false ↦ λ k. let less = fewer x to from h.within k in omega (arith, less, length-put x to)
    ] h.room
