-- Every term is settled: the induction over terms.
use Rattle.std.proofs.Common.{◌≡◌, ℕ, suc, zero, ◌<◌, ◌≤◌, ◌⊎◌, inl, inr, refl, sym, ◌∙◌, ap, subst, arith}
use Rattle.std.specs.List.{Contains}
use Rattle.std.proofs.lemmas.Bool.{cases_lt}
use Rattle.cluster_state.specs.declared.state.ClusterState.{ClusterState}
use Rattle.world_model.specs.Histories.{History}
use Rattle.world_model.specs.Safety.{Published, published, IsCommitted, Descends, Itself, Child, IsAtMost}
use Rattle.world_model.proofs.Facts.{Facts, IsPublished, IsOriginal, HasSentCommit, Election, elections}
use Rattle.world_model.proofs.StateIds.{at_most_self, at_most_trans}
use Rattle.agreement.proofs.Order.{same_terms, same_versions, at_most_from_below, decide_sent_commit}
use Rattle.agreement.proofs.Lineage.{published_all, original_all, descends_trans, descends_id, parent_below, parent_term, parent_version, parent_original, root_lowest}
use Rattle.agreement.proofs.Newest.{IsRootOrChosen, IsCovered, HasOneState, committed_chosen, newest_config_step}
use Rattle.agreement.proofs.Elections.{HasOneWinner, IsSettled, IsSettledBelow, win_base_older, covered_below, descends_below, descends_parent, alone, winner_has_committed, one_winner}

-- child after child: a publication over a state that descends from r descends from r
pub descends_child : {h : History} (r s : ClusterState) (p : Published) → Contains (published h) p → p.parent ≡ s → Descends h r s → Descends h r p.state
descends_child {h} r s p is_in same descends = Child p is_in (subst (λ x. Descends h r x) (sym same) descends)

module _ {h : History} {root : ClusterState} (facts : Facts h root) where
  -- in a term with one winner an id names one state
  pub one_state : (term : ℕ) → HasOneWinner h term → HasOneState h term
  one_state term one p q p_in q_in p_term q_term version =
      facts.value_once p q p_in q_in
      (alone facts q q_in (subst (HasOneWinner h) (sym q_term) one) p p_in (p_term ∙ sym q_term))
      (p_term ∙ sym q_term) version

  -- a parent of the child's own term was published
  parent_in_term : (p : Published) → Contains (published h) p → p.parent.term ≡ p.state.term → IsPublished h p.parent
  parent_in_term p is_in term = from (parent_original facts p is_in)
    where
      from : IsOriginal h root p.parent → IsPublished h p.parent
      from (inl is_root) = absurd (omega (arith, root_lowest facts p is_in, term, same_terms is_root))
      from (inr is_published) = is_published

  -- The term's publications descend from the state on which the term's winner was elected.
  pub chain_base : (e : Election) → Contains (elections h) e → HasOneWinner h e.term → (p : Published) → Contains (published h) p → p.state.term ≡ e.term → Descends h e.base p.state
  chain_base e e_in one p is_in term = up_to (suc p.state.version) p is_in term (omega arith)
    where
      -- the election of each publisher is e
      the_election : (p : Published) (is_in : Contains (published h) p) → p.state.term ≡ e.term → (facts.value_facts p is_in).election ≡ e
      the_election p is_in term =
          let v = facts.value_facts p is_in in
          facts.win_once v.election e v.is_election e_in (one v.election e v.is_election e_in (v.same_term ∙ term) refl) (v.same_term ∙ term)

      step : (p : Published) (is_in : Contains (published h) p) → p.state.term ≡ e.term
          → ((q : Published) → Contains (published h) q → q.state.term ≡ e.term → q.state.version < p.state.version → Descends h e.base q.state)
          → (p.parent ≡ (facts.value_facts p is_in).election.base) ⊎ (p.parent.term ≡ p.state.term)
          → Descends h e.base p.state
      step p is_in term earlier (inl is_base) =
          descends_child e.base e.base p is_in (is_base ∙ ap (λ (f : Election). f.base) (the_election p is_in term)) Itself
      step p is_in term earlier (inr same_term) =
          descends_child e.base p.parent p is_in refl
          (published_all (λ s. s.term ≡ e.term → s.version < p.state.version → Descends h e.base s) (λ q q_in t v. earlier q q_in t v)
          p.parent (parent_in_term p is_in same_term) (same_term ∙ term) (parent_version facts p is_in))

      up_to : (bound : ℕ) (p : Published) → Contains (published h) p → p.state.term ≡ e.term → p.state.version < bound → Descends h e.base p.state
      up_to zero p is_in term low = absurd (omega arith)
      up_to (suc bound) p is_in term low =
          step p is_in term (λ q q_in q_term lower. up_to bound q q_in q_term (omega arith)) (facts.value_facts p is_in).follows

  -- Among the term's publications each descends from those with a lower version.
  pub chain_term : (term : ℕ) → HasOneWinner h term → (q : Published) → Contains (published h) q → q.state.term ≡ term → (p : Published) → Contains (published h) p → p.state.term ≡ term → q.state.version ≤ p.state.version → Descends h q.state p.state
  chain_term term one q q_in q_term p is_in p_term version = up_to (suc p.state.version) p is_in p_term version (omega arith)
    where
      same : (p : Published) → Contains (published h) p → p.state.term ≡ term → p.publisher ≡ q.publisher
      same p is_in p_term = alone facts q q_in (subst (HasOneWinner h) (sym q_term) one) p is_in (p_term ∙ sym q_term)

      step : (p : Published) → Contains (published h) p → p.state.term ≡ term
          → ((r : Published) → Contains (published h) r → r.state.term ≡ term → q.state.version ≤ r.state.version → r.state.version < p.state.version → Descends h q.state r.state)
          → (q.state.version < p.state.version) ⊎ (p.state.version ≡ q.state.version) → Descends h q.state p.state
      step p is_in p_term earlier (inr equal) =
          subst (λ (r : Published). Descends h q.state r.state) (one_state term one q p q_in is_in q_term p_term (sym equal)) Itself
      step p is_in p_term earlier (inl less) =
          let gap = facts.value_gap p q is_in q_in (same p is_in p_term) (p_term ∙ sym q_term) less in
          descends_child q.state p.parent p is_in refl
          (published_all (λ s. s.term ≡ term → q.state.version ≤ s.version → s.version < p.state.version → Descends h q.state s) (λ r r_in t v w. earlier r r_in t v w)
          p.parent (parent_in_term p is_in gap.0) (gap.0 ∙ p_term) gap.1 (parent_version facts p is_in))

      up_to : (bound : ℕ) (p : Published) → Contains (published h) p → p.state.term ≡ term → q.state.version ≤ p.state.version → p.state.version < bound → Descends h q.state p.state
      up_to zero p is_in p_term version low = absurd (omega arith)
      up_to (suc bound) p is_in p_term version low =
          step p is_in p_term (λ r r_in r_term v lower. up_to bound r r_in r_term v (omega arith)) (less_or_equal (cases_lt q.state.version p.state.version))
        where
          less_or_equal : (q.state.version < p.state.version) ⊎ (p.state.version ≤ q.state.version) → (q.state.version < p.state.version) ⊎ (p.state.version ≡ q.state.version)
          less_or_equal (inl less) = inl less
          less_or_equal (inr most) = inr (omega arith)

  -- each published state of the term descends from what is root or committed and at most its winner's base
  descends_through_base : (term : ℕ) → IsSettledBelow h root term → (p : Published) (is_in : Contains (published h) p) → p.state.term ≡ term → (r : ClusterState) → IsRootOrChosen h root r → IsAtMost r (facts.value_facts p is_in).election.base → Descends h r p.state
  descends_through_base term settled p is_in p_term r origin at_most =
      let v = facts.value_facts p is_in in
      let e = v.election in
      let e_term = v.same_term ∙ p_term in
      let older : e.base.term < term = omega (arith, win_base_older facts e v.is_election) in
      descends_trans
      (chain_base e v.is_election (subst (HasOneWinner h) (sym e_term) (one_winner facts term settled)) p is_in (sym v.same_term))
      (descends_below facts term settled e.base (facts.win_facts e v.is_election).original older r origin at_most)

  -- the state on which a publisher was elected is root or above it
  root_at_most_base : (p : Published) (is_in : Contains (published h) p) → IsAtMost root (facts.value_facts p is_in).election.base
  root_at_most_base p is_in =
      let v = facts.value_facts p is_in in
      original_all (λ s. IsAtMost root s) (at_most_self root) (λ q q_in. inl (root_lowest facts q q_in)) v.election.base (facts.win_facts v.election v.is_election).original

  -- each published state of the term descends from root
  from_root : (term : ℕ) → IsSettledBelow h root term → (p : Published) → Contains (published h) p → p.state.term ≡ term → Descends h root p.state
  from_root term settled p is_in p_term = descends_through_base term settled p is_in p_term root (inl refl) (root_at_most_base p is_in)

  -- each published state of the term descends from each committed state that is at most it
  from_committed : (term : ℕ) → IsSettledBelow h root term → (p : Published) → Contains (published h) p → p.state.term ≡ term → (c : Published) → IsCommitted h c → IsAtMost c.state p.state → Descends h c.state p.state
  from_committed term settled p is_in p_term c is_committed (inl less) =
      let v = facts.value_facts p is_in in
      let e = v.election in
      let e_term = v.same_term ∙ p_term in
      let c_less : c.state.term < e.term = omega arith in
      descends_through_base term settled p is_in p_term c.state (inr (committed_chosen c is_committed))
      (winner_has_committed facts e v.is_election (subst (IsSettledBelow h root) (sym e_term) settled) c is_committed c_less)
  from_committed term settled p is_in p_term c is_committed (inr same) =
      chain_term term (one_winner facts term settled) c is_committed.0 (sym same.0 ∙ p_term) p is_in p_term same.1

  -- Each published state of the term is covered: by itself where it is committed, else by what covers its parent.
  covered : (term : ℕ) → IsSettledBelow h root term → (p : Published) → Contains (published h) p → p.state.term ≡ term → IsCovered h root p.state
  covered term settled p is_in p_term = up_to (suc p.state.version) p is_in p_term (omega arith)
    where
      one : HasOneState h term
      one = one_state term (one_winner facts term settled)

      by_itself : (p : Published) → IsCommitted h p → IsCovered h root p.state
      by_itself p is_committed = record {
        newest = p.state;
        is_newest = record { origin = inr (committed_chosen p is_committed); at_most = at_most_self p.state; above_all = λ c c_committed at_most. at_most };
        is_one = inl refl;
      }

      -- what is committed and at most p is at most p's parent, where p is not committed itself
      at_most_parent : (p : Published) → Contains (published h) p → p.state.term ≡ term → (HasSentCommit h p.publisher p.state.term p.state.version → ⊥) → (c : Published) → IsCommitted h c → IsAtMost c.state p.state → IsAtMost c.state p.parent
      at_most_parent p is_in p_term not_sent c is_committed at_most =
          descends_id facts
          (descends_parent facts p is_in (subst (HasOneState h) (sym p_term) one) c.state (from_committed term settled p is_in p_term c is_committed at_most) differ)
        where
          differ : p.state ≡ c.state → ⊥
          differ same = not_sent (subst (λ (x : Published). HasSentCommit h x.publisher x.state.term x.state.version) (sym is_c) is_committed.1)
            where
              is_c : p ≡ c
              is_c = one p c is_in is_committed.0 p_term (sym (same_terms same) ∙ p_term) (same_versions same)

      one_at_parent : (p : Published) → Contains (published h) p → p.state.term ≡ term → (p.parent.term < term) ⊎ (p.parent.term ≡ term) → HasOneState h p.parent.term
      one_at_parent p is_in p_term (inl less) = (settled p.parent.term less).one_state
      one_at_parent p is_in p_term (inr same) = subst (HasOneState h) (sym same) one

      by_parent : (p : Published) → Contains (published h) p → p.state.term ≡ term → (HasSentCommit h p.publisher p.state.term p.state.version → ⊥) → HasOneState h p.parent.term → IsCovered h root p.parent → IsCovered h root p.state
      by_parent p is_in p_term not_sent one_there at_parent = record {
        newest = at_parent.newest;
        is_newest = record {
          origin = at_parent.is_newest.origin;
          at_most = at_most_trans at_parent.newest p.parent p.state at_parent.is_newest.at_most (at_most_from_below p.parent p.state (parent_below facts p is_in));
          above_all = λ c c_committed at_most. at_parent.is_newest.above_all c c_committed (at_most_parent p is_in p_term not_sent c c_committed at_most);
        };
        is_one = newest_config_step facts p at_parent.newest is_in one_there at_parent.is_newest at_parent.is_one;
      }

      less_or_same : (p : Published) → Contains (published h) p → p.state.term ≡ term → (p.parent.term < term) ⊎ (term ≤ p.parent.term) → (p.parent.term < term) ⊎ (p.parent.term ≡ term)
      less_or_same p is_in p_term (inl less) = inl less
      less_or_same p is_in p_term (inr most) = inr (omega (arith, parent_term facts p is_in))

      step : (p : Published) → Contains (published h) p → p.state.term ≡ term
          → ((q : Published) → Contains (published h) q → q.state.term ≡ term → q.state.version < p.state.version → IsCovered h root q.state)
          → HasSentCommit h p.publisher p.state.term p.state.version ⊎ (HasSentCommit h p.publisher p.state.term p.state.version → ⊥)
          → (p.parent.term < term) ⊎ (p.parent.term ≡ term)
          → IsCovered h root p.state
      step p is_in p_term earlier (inl is_sent) parent = by_itself p (is_in, is_sent)
      step p is_in p_term earlier (inr not_sent) (inl less) =
          by_parent p is_in p_term not_sent (one_at_parent p is_in p_term (inl less)) (covered_below facts term settled p.parent (parent_original facts p is_in) less)
      step p is_in p_term earlier (inr not_sent) (inr same) =
          by_parent p is_in p_term not_sent (one_at_parent p is_in p_term (inr same))
          (published_all (λ s. s.term ≡ term → s.version < p.state.version → IsCovered h root s) (λ q q_in t v. earlier q q_in t v)
          p.parent (parent_in_term p is_in (same ∙ sym p_term)) same (parent_version facts p is_in))

      up_to : (bound : ℕ) (p : Published) → Contains (published h) p → p.state.term ≡ term → p.state.version < bound → IsCovered h root p.state
      up_to zero p is_in p_term low = absurd (omega arith)
      up_to (suc bound) p is_in p_term low =
          step p is_in p_term (λ q q_in q_term lower. up_to bound q q_in q_term (omega arith))
          (decide_sent_commit h p.publisher p.state.term p.state.version)
          (less_or_same p is_in p_term (cases_lt p.parent.term term))

  -- a term is settled where all lower ones are
  settle : (term : ℕ) → IsSettledBelow h root term → IsSettled h root term
  settle term settled = record {
    one_winner = one_winner facts term settled;
    one_state = one_state term (one_winner facts term settled);
    from_root = from_root term settled;
    from_committed = from_committed term settled;
    covered = covered term settled;
  }

  -- the strong induction: every term below a bound is settled
  settle_below : (bound : ℕ) → IsSettledBelow h root bound
  settle_below zero lower less = absurd (omega arith)
  settle_below (suc bound) lower less = settle lower (λ term lower_still. settle_below bound term (omega arith))

  -- every term is settled
  pub agree_terms : (term : ℕ) → IsSettled h root term
  agree_terms term = settle_below (suc term) term (omega arith)
