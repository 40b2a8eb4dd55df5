-- The voters and the others of a round are, together, the node and all that have answered.
use Rattle.std.proofs.Common.{◌≡◌, ℕ, ◌+◌, Bool, true, false, not, ◌&&◌, ◌||◌, List, [], ◌∷◌, length, refl, sym, ◌∙◌, ap, cond, arith, nat_lt}
use Rattle.std.proofs.Math.Bool.{and_comm, or_comm, and-false, or-false}
use Rattle.voting_config.specs.Ids.{Id, has, same, before, ascends, with_id, without_id, most_ids}
use Rattle.voting_config.proofs.Sorted.{has-with_id, ascends-with_id, ascends-without_id}
use Rattle.voting_config.proofs.Sets.{has-without_id, length-with_id, length-without_id-is}
use Rattle.pre_vote.specs.Calls.{Calls, Start, Add, node_of, last_of, is_vote, voters_of, others_of, participants_of, has_room}
use Rattle.pre_vote.specs.Rounds.{fits, round_of}

-- A set in two parts, and an id that goes from one of them into the other.

record IsInTwo (to from both : List Id) : Type 0 where
  to_ascends : ascends to ≡ true
  from_ascends : ascends from ≡ true
  apart : (q : Id) → (has q to && has q from) ≡ false
  ids : (q : Id) → has q both ≡ (has q to || has q from)
  sizes : length both ≡ length to + length from

turned : (to from both : List Id) → IsInTwo to from both → IsInTwo from to both
turned to from both h = record {
  to_ascends = h.from_ascends;
  from_ascends = h.to_ascends;
  apart = λ q. and_comm (has q from) (has q to) ∙ h.apart q;
  ids = λ q. h.ids q ∙ or_comm (has q to) (has q from);
  sizes = omega (arith, h.sizes);
}

apart_step : (a t f : Bool) → (t && f) ≡ false → ((a || t) && (f && not a)) ≡ false
apart_step true t true h = refl
apart_step true t false h = refl
apart_step false true true h = absurd (cc)
apart_step false true false h = refl
apart_step false false f h = refl

ids_step : (a t f : Bool) → (a || (t || f)) ≡ ((a || t) || (f && not a))
ids_step true t f = refl
ids_step false true f = refl
ids_step false false true = refl
ids_step false false false = refl

sizes_step : (b c d : Bool) (n t f m : ℕ) → d ≡ (b || c) → (b && c) ≡ false → n ≡ t + f → m + cond c 1 0 ≡ f → n + cond d 0 1 ≡ t + cond b 0 1 + m
sizes_step true true d n t f m e h k l = absurd (cc)
sizes_step true false d n t f m e h k l = rw e (omega (arith, k, l))
sizes_step false true d n t f m e h k l = rw e (omega (arith, k, l))
sizes_step false false d n t f m e h k l = rw e (omega (arith, k, l))

moved : (x : Id) (to from both : List Id) → IsInTwo to from both → IsInTwo (with_id x to) (without_id x from) (with_id x both)
moved x to from both h = record {
  to_ascends = ascends-with_id x to h.to_ascends;
  from_ascends = ascends-without_id x from h.from_ascends;
  apart = λ q.
      ap (λ b. b && has q (without_id x from)) (has-with_id q x to)
      ∙ ap (λ b. (same x q || has q to) && b) (has-without_id q x from)
      ∙ apart_step (same x q) (has q to) (has q from) (h.apart q);
  ids = λ q.
      has-with_id q x both
      ∙ ap (λ b. same x q || b) (h.ids q)
      ∙ ids_step (same x q) (has q to) (has q from)
      ∙ sym (ap (λ b. b || has q (without_id x from)) (has-with_id q x to) ∙ ap (λ b. (same x q || has q to) || b) (has-without_id q x from));
  sizes =
      length-with_id x both
      ∙ sizes_step (has x to) (has x from) (has x both) (length both) (length to) (length from) (length (without_id x from)) (h.ids x) (h.apart x) h.sizes (length-without_id-is x from h.from_ascends)
      ∙ ap (λ n. n + length (without_id x from)) (sym (length-with_id x to));
}

in_two : (calls : Calls) → IsInTwo (voters_of calls) (others_of calls) (participants_of calls)
in_two (Start me last term) = record {
  to_ascends = refl;
  from_ascends = refl;
  apart = λ q. and-false (has q (me ∷ []));
  ids = λ q. sym (or-false (has q (me ∷ [])));
  sizes = omega arith;
}
in_two (Add before source term last) =
    elim (is_vote (node_of before) (last_of before) source last) as (λ b. IsInTwo (cond b (with_id source (voters_of before)) (without_id source (voters_of before))) (cond b (without_id source (others_of before)) (with_id source (others_of before))) (with_id source (participants_of before))) [
      | true ↦ moved source (voters_of before) (others_of before) (participants_of before) (in_two before)
      | false ↦
          let back = turned (voters_of before) (others_of before) (participants_of before) (in_two before) in
          turned (with_id source (others_of before)) (without_id source (voters_of before)) (with_id source (participants_of before))
          (moved source (others_of before) (voters_of before) (participants_of before) back)
    ]

-- whether a source fits, told by the calls
pub fits_is : (source : Id) (calls : Calls) → fits source (round_of calls) ≡ has_room source calls
fits_is source calls =
    let two = in_two calls in
    ap (λ b. b || nat_lt (length (voters_of calls) + length (others_of calls)) most_ids) (sym (two.ids source))
    ∙ ap (λ n. has source (participants_of calls) || nat_lt n most_ids) (sym two.sizes)
