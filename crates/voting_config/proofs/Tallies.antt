-- What the calls of tallies make of their words.
use Rattle.std.proofs.Common.{◌≡◌, ℕ, ◌^◌, ◌<◌, ◌≤◌, true, false, cond, Some, None, List, [], ◌∷◌, ◌++◌, length, refl, sym, ◌∙◌, ap, arith}
use Rattle.std.specs.Prelude.{bit_and, bit_or, count_ones}
use Rattle.std.specs.Int.{bit_not, w64}
use Rattle.std.proofs.Math.Pow.{pow_mono}
use Rattle.std.proofs.lemmas.List.{length-append}
use Rattle.voting_config.specs.Ids.{Id, has, with_id, without_id, ascends}
use Rattle.voting_config.specs.Rosters.{IsRoster, IsTally, place_on, admitted, mask_of, marked}
use Rattle.voting_config.proofs.Sorted.{without_id-absent}
use Rattle.voting_config.proofs.Rosters.{at_roster, marked-mask, mask_of-lt, place_none}
use Rattle.voting_config.proofs.Words.{among_from, and-within, count_marked, marked_append, marked_clear, marked_or, or-within}

-- an id more on the roster changes no set

longer : (roster : List Id) (x : Id) → length roster ≤ length (admitted roster x)
longer roster x =
    elim (has x roster) as (λ b. length roster ≤ length (cond b roster (roster ++ x ∷ []))) [
      | true ↦ omega arith
      | false ↦ omega (arith, length-append roster (x ∷ []))
    ]

same_marks : (roster : List Id) (x : Id) (w : ℕ) → w < 2 ^ length roster → marked (admitted roster x) w ≡ marked roster w
same_marks roster x w small =
    elim (has x roster) as (λ b. marked (cond b roster (roster ++ x ∷ [])) w ≡ marked roster w) [
      | true ↦ refl
      | false ↦ marked_append roster x w small
    ]

module _ (roster : List Id) (word : ℕ) (is : IsTally roster word) where
  -- an id that is on the new roster is counted
  module _ (x : Id) (new : List Id) (place : ℕ) (admits : new ≡ admitted roster x) (at : Some place ≡ place_on new x) (on : IsRoster new) where
    pub added : IsTally new (bit_or word (2 ^ place))
    added =
        let more : length roster ≤ length new = rw admits (longer roster x) in
        let wider : word < 2 ^ length new = omega (arith, is.within, pow_mono more) in
        record { is_roster = on; within = or-within x new word place wider (sym at) }

    pub added_view : marked new (bit_or word (2 ^ place)) ≡ with_id x (marked roster word)
    added_view =
        marked_or x new word place on.distinct (sym at)
        ∙ ap (with_id x) (ap (λ (l : List Id). marked l word) admits ∙ same_marks roster x word is.within)

  -- an id that was on the roster is taken out, and one that was not was not counted
  module _ (x : Id) (place : ℕ) (at : place_on roster x ≡ Some place) where
    pub removed : IsTally roster (bit_and word (bit_not w64 (2 ^ place)))
    removed = record { is_roster = is.is_roster; within = and-within roster word (bit_not w64 (2 ^ place)) is.within }

    pub removed_view : marked roster (bit_and word (bit_not w64 (2 ^ place))) ≡ without_id x (marked roster word)
    removed_view = marked_clear x roster word place is.is_roster.distinct is.is_roster.fits at

  pub unseen_view : (x : Id) → place_on roster x ≡ None → marked roster word ≡ without_id x (marked roster word)
  unseen_view x off = sym (without_id-absent x (marked roster word) (at_roster x roster word is.is_roster.distinct (place_none x roster off)))

  pub counted : count_ones word ≡ length (marked roster word)
  counted = count_marked roster word is.is_roster.distinct is.within

-- all the ids of a roster

pub whole : (ids : List Id) → IsRoster ids → IsTally ids (mask_of ids ids)
whole ids on = record { is_roster = on; within = mask_of-lt ids ids }

pub whole_view : (ids : List Id) → ascends ids ≡ true → marked ids (mask_of ids ids) ≡ ids
whole_view ids ascending = marked-mask ids ids ascending (among_from ids ids (λ y h. h))
