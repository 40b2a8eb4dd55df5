-- What the facts of a history give of it: one winner a term, one committed state a version, one line of them.
use Rattle.std.proofs.Common.{◌≡◌, ◌<◌, ◌≤◌, ◌⊎◌, ◌↔◌, inl, inr, Bool, true, false, cond, [], ◌∷◌, ◌++◌, refl, sym, ◌∙◌, ap, subst, arith}
use Rattle.std.specs.List.{Contains}
use Rattle.std.proofs.lemmas.List.Elements.{Contains-append_left, Contains-push, Contains-push_cases}
use Rattle.voting_config.specs.Ids.{Id}
use Rattle.cluster_state.specs.declared.state.ClusterState.{ClusterState}
use Rattle.world_model.specs.Acts.{wins}
use Rattle.world_model.specs.declared.acts.Act.{Act}
use Rattle.world_model.specs.declared.acts.Outcome.{Outcome}
use Rattle.world_model.specs.NodeState.{term_of, accepted_of}
use Rattle.world_model.specs.Histories.{History, NoEntries, Next, node_history}
use Rattle.world_model.specs.Safety.{Win, winners, Published, published, IsCommitted, Descends, HoldsAnswers, IsSafeFrom, IsAtMost}
use Rattle.world_model.proofs.Facts.{Facts, IsPublished, Election, elections}
use Rattle.world_model.proofs.StateIds.{IsBelow}
use Rattle.agreement.proofs.Order.{same_versions, at_most_or_below, at_most_from_below, at_most_term}
use Rattle.agreement.proofs.Lineage.{IsAfter, published_all, root_lowest, descends_after, descends_id}
use Rattle.agreement.proofs.Terms.{agree_terms}

-- the election of a win
pub record IsElected (h : History) (w : Win) : Type 0 where
  pub election : Election
  pub is_in : Contains (elections h) election
  pub same_node : election.node ≡ w.node
  pub same_term : election.term ≡ w.term

-- an election of now is one of later
IsElected-later : (h : History) (node : Id) (act : Act) (outcome : Outcome) (w : Win) → IsElected h w → IsElected (Next h node act outcome) w
IsElected-later h node act outcome w old = record {
  election = old.election;
  is_in = Contains-append_left (elections h) _ old.election old.is_in;
  same_node = old.same_node;
  same_term = old.same_term;
}

-- each win has its election
pub winner_elected : (h : History) (w : Win) → Contains (winners h) w → IsElected h w
winner_elected NoEntries w is_in = absurd (omega (arith, is_in.1))
winner_elected (Next h node act outcome) w is_in = at_this (winner_elected h w) (wins outcome) refl is_in
  where
    win : Win
    win = record { node = node; term = term_of (node_history h node) }

    election : Election
    election = record { node = node; term = term_of (node_history h node); base = accepted_of (node_history h node) }

    is_new : wins outcome ≡ true → Contains (elections h ++ cond (wins outcome) (election ∷ []) []) election
    is_new e = subst (λ b. Contains (elections h ++ cond b (election ∷ []) []) election) (sym e) (Contains-push (elections h) election)

    of_new : wins outcome ≡ true → win ≡ w → IsElected (Next h node act outcome) w
    of_new e same = record { election = election; is_in = is_new e; same_node = ap (λ (x : Win). x.node) same; same_term = ap (λ (x : Win). x.term) same }

    at_this : (Contains (winners h) w → IsElected h w) → (b : Bool) → wins outcome ≡ b → Contains (cond b (winners h ++ win ∷ []) (winners h)) w → IsElected (Next h node act outcome) w
    at_this earlier false e is_in = IsElected-later h node act outcome w (earlier is_in)
    at_this earlier true e is_in =
        elim (Contains-push_cases (winners h) win w is_in) [
          | inl before ↦ IsElected-later h node act outcome w (earlier before)
          | inr now ↦ of_new e now
        ]

module _ {h : History} {root : ClusterState} (facts : Facts h root) where
  -- (i) a term has one winner
  pub agree_winner : (v w : Win) → Contains (winners h) v → Contains (winners h) w → v.term ≡ w.term → v.node ≡ w.node
  agree_winner v w v_in w_in term =
      let a = winner_elected h v v_in in
      let b = winner_elected h w w_in in
      sym a.same_node ∙ ((agree_terms facts v.term).one_winner a.election b.election a.is_in b.is_in a.same_term (b.same_term ∙ sym term) ∙ b.same_node)

  -- each published state descends from each committed state that is at most it
  pub published_descends : (p c : Published) → Contains (published h) p → IsCommitted h c → IsAtMost c.state p.state → Descends h c.state p.state
  published_descends p c p_in c_committed at_most = (agree_terms facts p.state.term).from_committed p p_in refl c c_committed at_most

  -- .. and from root
  pub published_from_root : (p : Published) → Contains (published h) p → Descends h root p.state
  published_from_root p p_in = (agree_terms facts p.state.term).from_root p p_in refl

  -- of two committed states one descends from the other
  pub committed_line : (p q : Published) → IsCommitted h p → IsCommitted h q → Descends h p.state q.state ⊎ Descends h q.state p.state
  committed_line p q p_committed q_committed = from (at_most_or_below p.state q.state)
    where
      from : IsAtMost p.state q.state ⊎ IsBelow q.state p.state → Descends h p.state q.state ⊎ Descends h q.state p.state
      from (inl at_most) = inl (published_descends q p q_committed.0 p_committed at_most)
      from (inr below) = inr (published_descends p q p_committed.0 q_committed (at_most_from_below q.state p.state below))

  -- (ii) committed states of one version are the same
  pub agree_state : (p q : Published) → IsCommitted h p → IsCommitted h q → p.state.version ≡ q.state.version → p.state ≡ q.state
  agree_state p q p_committed q_committed version = from (committed_line p q p_committed q_committed)
    where
      equal : (r s : ClusterState) → r.version ≡ s.version → IsAfter r s → s ≡ r
      equal r s version (inl same) = same
      equal r s version (inr after) = absurd (omega arith)

      from : Descends h p.state q.state ⊎ Descends h q.state p.state → p.state ≡ q.state
      from (inl d) = sym (equal p.state q.state version (descends_after facts d))
      from (inr d) = equal q.state p.state (sym version) (descends_after facts d)

  -- (iii) a committed state descends from each one of a lower version
  pub agree_line : (p q : Published) → IsCommitted h p → IsCommitted h q → p.state.version < q.state.version → Descends h p.state q.state
  agree_line p q p_committed q_committed version = from (committed_line p q p_committed q_committed)
    where
      impossible : (r s : ClusterState) → s.version < r.version → IsAfter r s → ⊥
      impossible r s version (inl same) = absurd (omega (arith, same_versions same))
      impossible r s version (inr after) = absurd (omega arith)

      from : Descends h p.state q.state ⊎ Descends h q.state p.state → Descends h p.state q.state
      from (inl d) = d
      from (inr d) = absurd (impossible q.state p.state version (descends_after facts d))

  -- (iii) .. and from root
  pub agree_root : (p : Published) → IsCommitted h p → Descends h root p.state
  agree_root p is_committed = published_from_root p is_committed.0

  -- A state that a node may have accepted, so root, the empty state or a published one, descends from just those
  -- committed states that are at most it.
  pub accepted_descends : (s : ClusterState) → (s.term ≤ root.term) ⊎ IsPublished h s → (c : Published) → IsCommitted h c → Descends h c.state s ↔ IsAtMost c.state s
  accepted_descends s origin c is_committed = ((λ d. descends_id facts d), λ at_most. from origin at_most)
    where
      c_above : root.term < c.state.term
      c_above = root_lowest facts c is_committed.0

      from : (s.term ≤ root.term) ⊎ IsPublished h s → IsAtMost c.state s → Descends h c.state s
      from (inl low) at_most = absurd (omega (arith, c_above, at_most_term c.state s at_most))
      from (inr is_published) at_most =
          published_all (λ x. IsAtMost c.state x → Descends h c.state x) (λ p p_in a. published_descends p c p_in is_committed a) s is_published at_most

-- What is promised of each legal history, from its facts and from what each node keeps.
pub safe_from_facts : (root : ClusterState) (h : History) → Facts h root → HoldsAnswers h → IsSafeFrom root h
safe_from_facts root h facts held = record {
  one_winner = agree_winner facts;
  one_state = agree_state facts;
  one_line = agree_line facts;
  from_root = agree_root facts;
  held = held;
}
