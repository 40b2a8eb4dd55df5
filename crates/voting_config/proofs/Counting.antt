-- What the calls of votes make of their words.
use Rattle.std.proofs.Common.{◌≡◌, ℕ, ◌^◌, ◌<◌, ◌≤◌, Bool, true, false, cond, Some, None, ◌&&◌, ◌/◌, List, [], ◌∷◌, ◌++◌, length, refl, sym, ◌∙◌, ap, arith, w64}
use Rattle.std.specs.Prelude.{bit_and, bit_or, count_ones}
use Rattle.std.specs.Int.{bit_not}
use Rattle.std.proofs.Math.Pow.{pow_mono}
use Rattle.std.proofs.lemmas.Bool.Decides.{nat_tests}
use Rattle.std.proofs.lemmas.List.{length-append}
use Rattle.std.proofs.lemmas.Nat.{pow_pos}
use Rattle.voting_config.specs.Ids.{Id, ascends, has, with_id, without_id, is_quorum_of}
use Rattle.voting_config.specs.Rosters.{IsRoster, are_distinct, place_on, admitted, mask_of, ids_at, marked, is_quorum_mask}
use Rattle.voting_config.proofs.Sorted.{without_id-absent}
use Rattle.voting_config.proofs.Sets.{count_among-le}
use Rattle.voting_config.proofs.Rosters.{at_roster, ascends-set_of, ascends-with_id, marked-mask, mask_of-lt, place_none, place_last}
use Rattle.voting_config.proofs.Words.{among_from, and-within, count_marked, marked_append, marked_clear, marked_or, marked_quorum, mask_admitted, or-within}
use Rattle.voting_config.specs.Votes.{AreCounted}

module _ (roster : List Id) (votes : ℕ) (committed : List Id) (cw : ℕ) (current : List Id) (nw : ℕ) (are : AreCounted roster votes committed cw current nw) where
  pub cleared : AreCounted roster 0 committed cw current nw
  cleared = record { is_roster = are.is_roster; within = pow_pos (length roster); committed_is = are.committed_is; current_is = are.current_is }

  pub known : (x : Id) (place : ℕ) → place_on roster x ≡ Some place → AreCounted roster (bit_or votes (2 ^ place)) committed cw current nw
  known x place at = record { is_roster = are.is_roster; within = or-within x roster votes place are.within at; committed_is = are.committed_is; current_is = are.current_is }

  pub known_view : (x : Id) (place : ℕ) → place_on roster x ≡ Some place → marked roster (bit_or votes (2 ^ place)) ≡ with_id x (marked roster votes)
  known_view x place at = marked_or x roster votes place are.is_roster.distinct at

  pub taken_out : (place : ℕ) → AreCounted roster (bit_and votes (bit_not w64 (2 ^ place))) committed cw current nw
  taken_out place = record { is_roster = are.is_roster; within = and-within roster votes (bit_not w64 (2 ^ place)) are.within; committed_is = are.committed_is; current_is = are.current_is }

  pub taken_out_view : (x : Id) (place : ℕ) → place_on roster x ≡ Some place → marked roster (bit_and votes (bit_not w64 (2 ^ place))) ≡ without_id x (marked roster votes)
  taken_out_view x place at = marked_clear x roster votes place are.is_roster.distinct are.is_roster.fits at

  -- a source that is not on the roster is no vote
  pub off_view : (x : Id) → place_on roster x ≡ None → marked roster votes ≡ without_id x (marked roster votes)
  off_view x off = sym (without_id-absent x (marked roster votes) (at_roster x roster votes are.is_roster.distinct (place_none x roster off)))

  -- a new source
  module _ (x : Id) (new : List Id) (place : ℕ) (off : place_on roster x ≡ None) (is : new ≡ admitted roster x) (at : Some place ≡ place_on new x) (on : IsRoster new) where
    longer : new ≡ roster ++ x ∷ []
    longer = is ∙ rw (place_none x roster off) refl

    last : place ≡ length roster
    last =
        let behind : Some (length roster) ≡ place_on (roster ++ x ∷ []) x = place_last x roster (place_none x roster off) in
        let same : Some place ≡ Some (length roster) = at ∙ ap (λ (l : List Id). place_on l x) longer ∙ sym behind in
        cc

    wider : votes < 2 ^ length new
    wider =
        let more : length roster ≤ length new = rw longer (omega (arith, length-append roster (x ∷ []))) in
        omega (arith, are.within, pow_mono more)

    mended : (config : List Id) (w : ℕ) → w ≡ mask_of roster config → cond (has x config) (bit_or w (2 ^ place)) w ≡ mask_of new config
    mended config w h =
        ap (λ n. cond (has x config) (bit_or n (2 ^ place)) n) h ∙ ap (λ n. cond (has x config) (bit_or (mask_of roster config) (2 ^ n)) (mask_of roster config)) last
        ∙ sym (ap (λ (l : List Id). mask_of l config) longer ∙ mask_admitted roster x config)

    pub added : AreCounted new (bit_or votes (2 ^ place)) committed (cond (has x committed) (bit_or cw (2 ^ place)) cw) current (cond (has x current) (bit_or nw (2 ^ place)) nw)
    added = record {
      is_roster = on;
      within = or-within x new votes place wider (sym at);
      committed_is = mended committed cw are.committed_is;
      current_is = mended current nw are.current_is;
    }

    pub added_view : marked new (bit_or votes (2 ^ place)) ≡ with_id x (marked roster votes)
    added_view =
        marked_or x new votes place on.distinct (sym at)
        ∙ ap (with_id x) (ap (λ (l : List Id). marked l votes) longer ∙ marked_append roster x votes are.within)

  pub counted : count_ones votes ≡ length (marked roster votes)
  counted = count_marked roster votes are.is_roster.distinct are.within

  pub is_quorum : (config : List Id) → are_distinct config ≡ true → is_quorum_mask votes (mask_of roster config) (length config) ≡ is_quorum_of config (marked roster votes)
  is_quorum config distinct = marked_quorum roster config votes are.is_roster.distinct are.within distinct

-- a roster of the votes alone
pub anew : (ids committed current : List Id) → IsRoster ids → AreCounted ids (mask_of ids ids) committed (mask_of ids committed) current (mask_of ids current)
anew ids committed current on = record { is_roster = on; within = mask_of-lt ids ids; committed_is = refl; current_is = refl }

pub anew_view : (x : Id) (roster : List Id) (votes : ℕ) (ids : List Id) → ids ≡ with_id x (marked roster votes) → marked ids (mask_of ids ids) ≡ ids
anew_view x roster votes ids is =
    marked-mask ids ids (rw is (ascends-with_id x (marked roster votes) (ascends-set_of (ids_at roster votes)))) (among_from ids ids (λ y h. h))

-- half of a configuration is no quorum of it
pub too_few : (config votes : List Id) → ascends config ≡ true → ascends votes ≡ true → length votes ≤ length config / 2 → (other : Bool) → false ≡ (is_quorum_of config votes && other)
too_few config votes h k half other =
    let few = count_among-le config votes h k in
    let none : is_quorum_of config votes ≡ false = grind (arith, nat_tests, few, half) in
    rw none refl
