-- The lines of a plan are lines of the schedule's nodes.
use Rattle.std.proofs.Common.{◌≡◌, ℕ, ◌+◌, ◌-◌, ◌^◌, ◌≤◌, true, ◌||◌, Ok, List, [], ◌∷◌, ◌++◌, length, refl, sym, ◌∙◌, ap, subst, arith}
use Rattle.std.specs.List.{AllByRecursion}
use Rattle.voting_config.specs.Ids.{Id, IsIdSet, same, has, most_ids, is_quorum_of}
use Rattle.voting_config.proofs.Sets.{same_self}
use Rattle.world_model.specs.NodeState.{accepted_of}
use Rattle.world_model.specs.Histories.{History, node_history}
use Rattle.schedule_text.specs.declared.level.Level.TheVariants.{Core}
use Rattle.schedule_text.specs.declared.schedule.Line.{Line}
use Rattle.schedule_text.specs.Lines.{FitsLine, most_ordinal}
use Rattle.rescue_plan.specs.declared.answer.Plan.{Plan}
use Rattle.rescue_plan.specs.Planning.{ids_of, greatest, start_lines, deliveries, one_for_all, plan_of, plan_for, planned}
use Rattle.rescue_plan.specs.Rescue.{up_of, ups}
use Rattle.rescue_plan.proofs.Numbers.{length_ups}
use Rattle.rescue_plan.proofs.Steps.{chosen}
use Rattle.rescue_plan.proofs.Sweeps.{or_right}
use Rattle.rescue_plan.proofs.Choosing.{is_chosen}
use Rattle.rescue_plan.proofs.Views.{IsPlanOf, is_plan, newest_is}
use Rattle.schedule_replay.proofs.Naming.{IsNamed}

pub both_fit : (P : Line → Type 0) (xs ys : List Line) → AllByRecursion P xs → AllByRecursion P ys → AllByRecursion P (xs ++ ys)
both_fit P [] ys a b = b
both_fit P (x ∷ xs) ys a b = (a.0, both_fit P xs ys a.1 b)

first_in : (u : Id) (us : List Id) → has u (u ∷ us) ≡ true
first_in u us = ap (λ b. b || has u us) (same_self u)

module _ (nodes : List Id) (h : History) (m : Id) (member : has m nodes ≡ true) where
  starts_fit : (term : ℕ) (us : List Id) → term ≤ 2 ^ 64 - 1 → ((u : Id) → has u us ≡ true → has u nodes ≡ true) → AllByRecursion (FitsLine Core nodes) (start_lines m term (ups h us))
  starts_fit term [] below sub = tt
  starts_fit term (u ∷ us) below sub = ((sub u (first_in u us), member, (omega arith, below)), starts_fit term us below (λ v e. sub v (or_right (same u v) (has v us) e)))

  deliveries_fit : (k : ℕ) (us : List Id) → k + length us ≤ most_ordinal → AllByRecursion (FitsLine Core nodes) (deliveries m k (ups h us))
  deliveries_fit k [] few = tt
  deliveries_fit k (u ∷ us) few = ((member, (omega arith, omega arith)), deliveries_fit (k + 1) us (omega arith))

  for_all_fit : (k : ℕ) (us : List Id) → 1 ≤ k → k ≤ most_ordinal → ((u : Id) → has u us ≡ true → has u nodes ≡ true) → AllByRecursion (FitsLine Core nodes) (one_for_all k (ups h us))
  for_all_fit k [] low high sub = tt
  for_all_fit k (u ∷ us) low high sub = ((sub u (first_in u us), (low, high)), for_all_fit k us low high (λ v e. sub v (or_right (same u v) (has v us) e)))

module _ (nodes : List Id) (h : History) (first : Id) (others : List Id) (count : ℕ) (set : IsIdSet (first ∷ others)) (sub : (u : Id) → has u (first ∷ others) ≡ true → has u nodes ≡ true) (few : count ≤ 1000000)
    (named : (n : Id) (votes : List Id) → is_quorum_of (accepted_of (node_history h n)).config votes ≡ true → IsNamed nodes (accepted_of (node_history h n)).config) where
  abbrev us : List Id
  us = first ∷ others

  abbrev m : Id
  m = chosen h first others

  fits : (p : Plan) → IsPlanOf (ups h (first ∷ others)) count (up_of h (chosen h first others)) p → AllByRecursion (FitsLine Core nodes) (plan_of (ups h (first ∷ others)) count (up_of h (chosen h first others))).lines
  fits p by =
      let member : has m nodes ≡ true = sub m (is_chosen h first others set.ascending).member in
      let number : ℕ = count + length (ups h us) + 1 in
      let size : length (ups h us) ≡ length us = length_ups h us in
      let small : length us ≤ most_ids = set.fits in
      let term_fits : greatest (ups h us) + 1 ≤ 2 ^ 64 - 1 = omega (arith, by.term_below) in
      let version_fits : (accepted_of (node_history h m)).version + 1 ≤ 2 ^ 64 - 1 = omega (arith, by.version_below) in
      let P : Line → Type 0 = FitsLine Core nodes in
      both_fit P (start_lines m (greatest (ups h us) + 1) (ups h us)) _ (starts_fit nodes h m member (greatest (ups h us) + 1) us term_fits sub)
      (both_fit P (deliveries m count (ups h us)) _ (deliveries_fit nodes h m member count us (omega arith)) (
        (member, (omega arith, version_fits), refl, named m (ids_of (ups h us)) by.accepted_quorum),
        both_fit P (one_for_all number (ups h us)) _ (for_all_fit nodes h m member number us (omega arith) (omega arith) sub)
            (deliveries_fit nodes h m member number us (omega arith)),
      ))

  pub plan_fits : (p : Plan) → planned (ups h (first ∷ others)) count ≡ Ok p → AllByRecursion (FitsLine Core nodes) p.lines
  plan_fits p made =
      let by : IsPlanOf (ups h us) count (up_of h m) p = is_plan (ups h us) count (up_of h m) p (ap (plan_for (ups h us) count) (sym (newest_is h first others)) ∙ made) in
      subst (λ (q : Plan). AllByRecursion (FitsLine Core nodes) q.lines) by.is (fits p by)
