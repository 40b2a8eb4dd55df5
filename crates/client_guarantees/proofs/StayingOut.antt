-- A node that is excluded from voting is chosen as no voter.
use Rattle.std.proofs.Common.{◌≡◌, ℕ, zero, suc, Bool, true, false, not, cond, ◌||◌, List, [], ◌∷◌, ◌++◌, length, take, filter, refl, sym, ◌∙◌, subst}
use Rattle.std.specs.Prelude.{if◌then◌else◌}
use Rattle.std.proofs.lemmas.Bool.{or_parts}
use Rattle.std.proofs.lemmas.List.Folds.{list_any-append}
use Rattle.voting_config.specs.Ids.{Id, has, same, among, outside, is_quorum_of}
use Rattle.voting_config.proofs.Sets.{same_is, has-set_of}
use Rattle.cluster_state.specs.declared.state.ClusterState.{ClusterState}
use Rattle.cluster_state.specs.declared.state.ClusterValue.{ClusterValue}
use Rattle.reconfigurator.specs.Targets.{candidates_of, chosen_of, size_of, target_of}
use Rattle.master_tasks.specs.NextState.{next_value, next_config, config_for, may_reconfigure}
use Rattle.master_tasks.specs.declared.policy.Policy.{Policy}
use Rattle.client_guarantees.specs.Laws.{LawExcludedStayOut}

neither : (a b : Bool) → a ≡ false → b ≡ false → (a || b) ≡ false
neither a b h k = rw (h, k) refl

module _ (id : Id) where
  -- ids that lack it
  lacks-append : (xs ys : List Id) → has id xs ≡ false → has id ys ≡ false → has id (xs ++ ys) ≡ false
  lacks-append xs ys h k = list_any-append (λ y. same y id) xs ys ∙ neither (has id xs) (has id ys) h k

  lacks-take : (n : ℕ) (xs : List Id) → has id xs ≡ false → has id (take n xs) ≡ false
  lacks-take zero xs h = refl
  lacks-take (suc n) [] h = refl
  lacks-take (suc n) (x ∷ xs) h = let parts = or_parts (same x id) (has id xs) h in neither _ _ parts.0 (lacks-take n xs parts.1)

  lacks-filter : (p : Id → Bool) (xs : List Id) → has id xs ≡ false → has id (filter p xs) ≡ false
  lacks-filter p [] h = refl
  lacks-filter p (x ∷ xs) h =
      let parts = or_parts (same x id) (has id xs) h in
      elim (p x) as (λ b. has id (cond b (x ∷ filter p xs) (filter p xs)) ≡ false) [
        | true ↦ neither _ _ parts.0 (lacks-filter p xs parts.1)
        | false ↦ lacks-filter p xs parts.1
      ]

  -- ids outside a list that has it
  lacks-outside : (xs ys : List Id) → has id ys ≡ true → has id (outside xs ys) ≡ false
  lacks-outside [] ys h = refl
  lacks-outside (x ∷ xs) ys h =
      elim (same x id) as (λ b. same x id ≡ b → has id (cond (not (has x ys)) (x ∷ outside xs ys) (outside xs ys)) ≡ false) [
        | true ↦ λ e. let P : Bool → Type 0 = λ b. has id (cond (not b) (x ∷ outside xs ys) (outside xs ys)) ≡ false in
            subst P (sym (subst (λ (i : Id). has i ys ≡ true) (sym (same_is x id e)) h)) (lacks-outside xs ys h)
        | false ↦ λ e. elim (not (has x ys)) as (λ b. has id (cond b (x ∷ outside xs ys) (outside xs ys)) ≡ false) [
          | true ↦ neither _ _ e (lacks-outside xs ys h)
          | false ↦ lacks-outside xs ys h
        ]
      ] refl

  -- the master comes first only where it is one of those that may vote
  lacks-first : (live voters : List Id) (master : Id) → has id live ≡ false → has id voters ≡ false → has id (if has master live || has master voters then master ∷ [] else []) ≡ false
  lacks-first live voters master h k =
      elim (same master id) as (λ b. same master id ≡ b → has id (if has master live || has master voters then master ∷ [] else []) ≡ false) [
        | true ↦ λ e. subst (λ (m : Id). has id (if has m live || has m voters then m ∷ [] else []) ≡ false) (sym (same_is master id e)) (rw (h, k) refl)
        | false ↦ λ e. elim (has master live || has master voters) as (λ b. has id (if b then master ∷ [] else []) ≡ false) [
          | true ↦ neither _ _ e refl
          | false ↦ refl
        ]
      ] refl

  lacks-candidates : (live voters : List Id) (master : Id) → has id live ≡ false → has id voters ≡ false → has id (candidates_of live voters master) ≡ false
  lacks-candidates live voters master h k =
      let others = outside live (master ∷ []) in
      let other_voters = outside voters (master ∷ []) in
      let first : List Id = if has master live || has master voters then master ∷ [] else [] in
      let o : has id others ≡ false = lacks-filter _ live h in
      let v : has id other_voters ≡ false = lacks-filter _ voters k in
      lacks-append (first ++ among others other_voters ++ outside others other_voters) (outside other_voters others)
      (lacks-append (first ++ among others other_voters) (outside others other_voters)
      (lacks-append first (among others other_voters) (lacks-first live voters master h k) (lacks-filter _ others o))
      (lacks-filter _ others o))
      (lacks-filter _ other_voters v)

  lacks-chosen : (live excluded : List Id) (master : Id) (config : List Id) (shrink : Bool) → has id excluded ≡ true → has id (chosen_of live excluded master config shrink) ≡ false
  lacks-chosen live excluded master config shrink h =
      let allowed = outside live excluded in
      let voters = outside config excluded in
      let size = size_of (length allowed) (length config) (length voters) shrink in
      let candidates = candidates_of allowed voters master in
      has-set_of id (take size candidates) ∙ lacks-take size candidates (lacks-candidates allowed voters master (lacks-outside live excluded h) (lacks-outside config excluded h))

  lacks-target : (live excluded : List Id) (master : Id) (config : List Id) (shrink : Bool) → has id excluded ≡ true → has id config ≡ false → has id (target_of live excluded master config shrink) ≡ false
  lacks-target live excluded master config shrink h k =
      let chosen = chosen_of live excluded master config shrink in
      elim (is_quorum_of chosen live) as (λ b. has id (if b then chosen else config) ≡ false) [
        | true ↦ lacks-chosen live excluded master config shrink h
        | false ↦ k
      ]

  lacks-config : (me : Id) (term : ℕ) (accepted : ClusterState) (committed votes : List Id) (policy : Policy) (value : ClusterValue)
      → has id value.exclusions ≡ true → has id accepted.config ≡ false → has id (config_for me term accepted committed votes policy value) ≡ false
  unfolding config_for
  lacks-config me term accepted committed votes policy value h k =
      elim (may_reconfigure term accepted committed policy) as (λ b. has id (if b then target_of (among value.members votes) value.exclusions me accepted.config policy.shrink else accepted.config) ≡ false) [
        | true ↦ lacks-target (among value.members votes) value.exclusions me accepted.config policy.shrink h k
        | false ↦ k
      ]

pub excluded_stay_out : LawExcludedStayOut
unfolding next_config
excluded_stay_out l t id h k = lacks-config id l.me l.term l.accepted l.committed l.votes l.policy (next_value l t) h k
