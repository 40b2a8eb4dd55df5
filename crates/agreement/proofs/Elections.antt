-- Winners: one of each term, and each has what was committed in earlier terms.
use Rattle.std.proofs.Common.{◌≡◌, ℕ, suc, zero, ◌<◌, ◌⊎◌, inl, inr, List, refl, sym, ◌∙◌, ap, subst, arith, IsTrue}
use Rattle.std.specs.List.{Contains}
use Rattle.voting_config.specs.Ids.{Id, has, is_quorum_of}
use Rattle.cluster_state.specs.declared.state.ClusterState.{ClusterState}
use Rattle.world_model.specs.Histories.{History}
use Rattle.world_model.specs.Safety.{Published, published, IsCommitted, Descends, Itself, IsAtMost}
use Rattle.world_model.proofs.Facts.{Facts, IsPublishedByOther, IsOriginal, IsAlone, HasJoined, Election, elections, took, CommitFacts}
use Rattle.agreement.proofs.Quorums.{quorum_meet, Shared}
use Rattle.world_model.proofs.StateIds.{IsBelow, id_trans, at_most_trans}
use Rattle.agreement.proofs.Order.{same_terms, same_versions, at_most_or_below, at_most_from_below, at_most_term, not_below}
use Rattle.agreement.proofs.Lineage.{published_state, original_all, descends_step, Step, descends_id, descends_version, parent_term, parent_version, parent_original}
use Rattle.agreement.proofs.Newest.{IsChosen, IsRootOrChosen, IsNewest, IsOneOf, IsCovered, HasOneState, above_chosen, covered_root, chosen_not_root, same_if_each_at_most, newest_config_step, newest_win_quorum}

-- this term has one winner at most
abbrev pub HasOneWinner : History → ℕ → Type 0
HasOneWinner h term = (e f : Election) → Contains (elections h) e → Contains (elections h) f → e.term ≡ term → f.term ≡ term → e.node ≡ f.node

-- All that is claimed of a term.
pub record IsSettled (h : History) (root : ClusterState) (term : ℕ) : Type 0 where
  pub one_winner : HasOneWinner h term
  pub one_state : HasOneState h term
  pub from_root : (p : Published) → Contains (published h) p → p.state.term ≡ term → Descends h root p.state
  -- each published state descends from each committed state that is at most it
  pub from_committed : (p : Published) → Contains (published h) p → p.state.term ≡ term → (c : Published) → IsCommitted h c → IsAtMost c.state p.state → Descends h c.state p.state
  pub covered : (p : Published) → Contains (published h) p → p.state.term ≡ term → IsCovered h root p.state

abbrev pub IsSettledBelow : History → ClusterState → ℕ → Type 0
IsSettledBelow h root term = (lower : ℕ) → lower < term → IsSettled h root lower

-- a quorum of both configurations of c took it
pub record IsAcked (h : History) (c : ClusterState) : Type 0 where
  pub acks : List Id
  pub config_quorum : IsTrue (is_quorum_of c.config acks)
  pub committed_quorum : IsTrue (is_quorum_of c.committed acks)
  pub publisher : Id
  pub took_it : (acker : Id) → IsTrue (has acker acks) → Contains (took h) (record { node = acker; publisher = publisher; state = c })

module _ {h : History} {root : ClusterState} (facts : Facts h root) where
  -- two elections of one term with a common voter have one winner
  pub same_candidate : (voter node other : Id) (term : ℕ) → HasJoined h voter node term → HasJoined h voter other term → node ≡ other
  same_candidate voter node other term a b =
      sym a.has_target ∙ (facts.join_once a.join b.join a.is_sent b.is_sent (a.has_source ∙ sym b.has_source) (a.has_term ∙ sym b.has_term) ∙ b.has_target)

  -- the state on which a winner was elected is of an earlier term: if another node had published it in this
  -- term, a voter of the winner would have joined both
  pub win_base_older : (e : Election) → Contains (elections h) e → e.base.term < e.term
  win_base_older e is_in = from (facts.win_facts e is_in).older
    where
      other : e.base.term ≡ e.term → IsPublishedByOther h e.node e.base → ⊥
      other term by_other =
          let p = by_other.as_published in
          let value = facts.value_facts p by_other.is_in in
          let quorum = subst (λ (x : ClusterState). IsTrue (is_quorum_of x.config value.votes)) by_other.is_state value.quorum in
          let shared = quorum_meet e.base.config (facts.win_facts e is_in).votes value.votes (facts.win_facts e is_in).accepted_quorum quorum in
          let to_winner = (facts.win_facts e is_in).voted shared.id shared.is_voter in
          let to_other = subst (λ (t : ℕ). HasJoined h shared.id p.publisher t) (same_terms by_other.is_state ∙ term) (value.joined shared.id shared.is_other) in
          by_other.is_other (same_candidate shared.id p.publisher e.node e.term to_other to_winner.joined)

      from : (e.base.term < e.term) ⊎ ((e.base.term ≡ e.term) × IsPublishedByOther h e.node e.base) → e.base.term < e.term
      from (inl less) = less
      from (inr same) = absurd (other same.0 same.1)

  -- below a settled term each original state is covered
  pub covered_below : (term : ℕ) → IsSettledBelow h root term → (s : ClusterState) → IsOriginal h root s → s.term < term → IsCovered h root s
  covered_below term settled s original =
      original_all (λ x. x.term < term → IsCovered h root x) (λ less. covered_root root) (λ p is_in less. (settled p.state.term less).covered p is_in refl) s original

  -- .. and descends from root and from each committed state that is at most it
  pub descends_below : (term : ℕ) → IsSettledBelow h root term → (s : ClusterState) → IsOriginal h root s → s.term < term → (r : ClusterState) → IsRootOrChosen h root r → IsAtMost r s → Descends h r s
  descends_below term settled s original less r origin at_most =
      original_all (λ x. x.term < term → IsAtMost r x → Descends h r x) (λ l a. at_root origin a) (λ p is_in l a. at_published p is_in l origin a) s original less at_most
    where
      at_root : IsRootOrChosen h root r → IsAtMost r root → Descends h r root
      at_root (inl is_root) a = subst (λ x. Descends h x root) (sym is_root) Itself
      at_root (inr chosen) a = absurd (chosen_not_root facts r chosen a)

      at_published : (p : Published) → Contains (published h) p → p.state.term < term → IsRootOrChosen h root r → IsAtMost r p.state → Descends h r p.state
      at_published p is_in l (inl is_root) a = subst (λ x. Descends h x p.state) (sym is_root) ((settled p.state.term l).from_root p is_in refl)
      at_published p is_in l (inr chosen) a =
          subst (λ x. Descends h x p.state) chosen.is_state
          ((settled p.state.term l).from_committed p is_in refl chosen.as_published chosen.is_committed (subst (λ x. IsAtMost x p.state) (sym chosen.is_state) a))

  -- in a term with one state of each id a state has one parent, so what it descends from its parent descends from
  pub descends_parent : (p : Published) → Contains (published h) p → HasOneState h p.state.term → (r : ClusterState) → Descends h r p.state → (p.state ≡ r → ⊥) → Descends h r p.parent
  descends_parent p is_in one r descends differ = from (descends_step descends differ)
    where
      from : Step h r p.state → Descends h r p.parent
      from step =
          let same = one step.child p step.is_in is_in (same_terms step.is_state) refl (same_versions step.is_state) in
          subst (λ (q : Published). Descends h r q.parent) same step.parent_descends

  -- in a term with one winner one node publishes
  pub alone : (p : Published) → Contains (published h) p → HasOneWinner h p.state.term → IsAlone h p.publisher p.state.term
  alone p is_in one q q_in term =
      let v = facts.value_facts p is_in in
      let w = facts.value_facts q q_in in
      sym w.same_node ∙ (one w.election v.election w.is_election v.is_election (w.same_term ∙ term) v.same_term ∙ v.same_node)

  -- a committed state was taken by a quorum of both its configurations
  pub commit_acks : (c : Published) → IsCommitted h c → HasOneWinner h c.state.term → IsAcked h c.state
  commit_acks c is_committed one = subst (IsAcked h) same acked
    where
      commit : CommitFacts h c.publisher c.state.term c.state.version
      commit = facts.commit_facts c.publisher c.state.term c.state.version is_committed.1 (alone c is_committed.0 one)

      same : commit.as_published.state ≡ c.state
      same = ap (λ (p : Published). p.state) (facts.value_once commit.as_published c commit.is_in is_committed.0 commit.has_publisher commit.has_term commit.has_version)

      acked : IsAcked h commit.as_published.state
      acked = record { acks = commit.acks; config_quorum = commit.config_quorum; committed_quorum = commit.committed_quorum; publisher = c.publisher; took_it = commit.took_it }

  -- a winner whose votes meet those who took c has c below its base
  pub voters_tell : (e : Election) (is_in : Contains (elections h) e) (c : ClusterState) (acked : IsAcked h c) → c.term < e.term → Shared (facts.win_facts e is_in).votes acked.acks → IsAtMost c e.base
  voters_tell e is_in c acked less shared =
      let vote = (facts.win_facts e is_in).voted shared.id shared.is_voter in
      let join = vote.joined in
      let later : c.term < join.join.term = omega (arith, join.has_term) in
      let told = facts.join_carries (record { node = shared.id; publisher = acked.publisher; state = c }) join.join (acked.took_it shared.id shared.is_other) join.is_sent (sym join.has_source) later in
      id_trans c.term c.version join.join.last_term join.join.last_version e.base.term e.base.version told vote.not_above

  -- One step of the next theorem: c is above the base of e, and the theorem holds of all that is committed
  -- with a lower version. Then c's parent has the same newest committed state below it as the base of e, and so a quorum
  -- that took c meets the votes of e.
  committed_reaches : (e : Election) → Contains (elections h) e → IsSettledBelow h root e.term → (c : Published) → IsCommitted h c → c.state.term < e.term → IsBelow e.base c.state
      → ((d : Published) → IsCommitted h d → d.state.version < c.state.version → d.state.term < e.term → IsAtMost d.state e.base)
      → IsAtMost c.state e.base
  committed_reaches e is_in settled c is_committed less below earlier =
      voters_tell e is_in c.state acked less (quorum_meet at_base.newest.config (facts.win_facts e is_in).votes acked.acks votes_quorum acks_quorum)
    where
      c_in : Contains (published h) c
      c_in = is_committed.0

      c_settled : IsSettled h root c.state.term
      c_settled = settled c.state.term less

      -- the newest committed state below the base
      at_base : IsCovered h root e.base
      at_base = covered_below e.term settled e.base (facts.win_facts e is_in).original (win_base_older e is_in)

      base_newest : IsNewest h root e.base at_base.newest
      base_newest = at_base.is_newest

      newest_at_most : IsAtMost at_base.newest c.state
      newest_at_most = at_most_trans at_base.newest e.base c.state base_newest.at_most (at_most_from_below e.base c.state below)

      differ : c.state ≡ at_base.newest → ⊥
      differ same = not_below c.state e.base (subst (λ (x : ClusterState). IsAtMost x e.base) (sym same) base_newest.at_most) below

      parent_descends : Descends h at_base.newest c.parent
      parent_descends =
          descends_parent c c_in c_settled.one_state at_base.newest
          (descends_below e.term settled c.state (inr (published_state c c_in)) less at_base.newest base_newest.origin newest_at_most) differ

      -- the newest committed state below c's parent
      parent_less : c.parent.term < e.term
      parent_less = omega (arith, parent_term facts c c_in)

      at_parent : IsCovered h root c.parent
      at_parent = covered_below e.term settled c.parent (parent_original facts c c_in) parent_less

      parent_newest : IsNewest h root c.parent at_parent.newest
      parent_newest = at_parent.is_newest

      newest_less : at_parent.newest.term < e.term
      newest_less = omega (arith, parent_less, at_most_term at_parent.newest c.parent parent_newest.at_most)

      newest_version : at_parent.newest.version < c.state.version
      newest_version =
          omega (
            arith,
            parent_version facts c c_in,
            descends_version facts (descends_below e.term settled c.parent (parent_original facts c c_in) parent_less at_parent.newest parent_newest.origin parent_newest.at_most),
          )

      -- the one below the parent is at most the base, by what is known of lower versions
      below_base : IsChosen h at_parent.newest → IsAtMost at_parent.newest e.base
      below_base chosen =
          let same = chosen.is_state in
          subst (λ (x : ClusterState). IsAtMost x e.base) same
          (earlier chosen.as_published chosen.is_committed
          (omega (arith, newest_version, same_versions same))
          (omega (arith, newest_less, same_terms same)))

      same_newest : at_parent.newest ≡ at_base.newest
      same_newest =
          same_if_each_at_most facts at_parent.newest at_base.newest (settled at_parent.newest.term newest_less).one_state parent_newest.origin base_newest.origin
          (λ chosen. above_chosen base_newest at_parent.newest chosen (below_base chosen))
          (λ chosen. above_chosen parent_newest at_base.newest chosen (descends_id facts parent_descends))

      -- its configuration is one of the two of c, and both had a quorum that took c
      is_one : IsOneOf c.state at_base.newest.config
      is_one =
          subst (λ (x : ClusterState). IsOneOf c.state x.config) same_newest
          (newest_config_step facts c at_parent.newest c_in (settled c.parent.term parent_less).one_state parent_newest at_parent.is_one)

      acked : IsAcked h c.state
      acked = commit_acks c is_committed c_settled.one_winner

      acks_quorum : IsTrue (is_quorum_of at_base.newest.config acked.acks)
      acks_quorum = from is_one
        where
          from : IsOneOf c.state at_base.newest.config → IsTrue (is_quorum_of at_base.newest.config acked.acks)
          from (inl e) = rw e acked.config_quorum
          from (inr e) = rw e acked.committed_quorum

      votes_quorum : IsTrue (is_quorum_of at_base.newest.config (facts.win_facts e is_in).votes)
      votes_quorum = newest_win_quorum facts e at_base.newest is_in (settled e.base.term (win_base_older e is_in)).one_state base_newest at_base.is_one

  -- a winner was elected over a state that has below it all that was ever committed in earlier terms
  pub winner_has_committed : (e : Election) → Contains (elections h) e → IsSettledBelow h root e.term → (c : Published) → IsCommitted h c → c.state.term < e.term → IsAtMost c.state e.base
  winner_has_committed e is_in settled c is_committed less = up_to (suc c.state.version) c is_committed (omega arith) less
    where
      step : (c : Published) → IsCommitted h c → c.state.term < e.term → ((d : Published) → IsCommitted h d → d.state.version < c.state.version → d.state.term < e.term → IsAtMost d.state e.base) → IsAtMost c.state e.base ⊎ IsBelow e.base c.state → IsAtMost c.state e.base
      step c is_committed less earlier (inl at_most) = at_most
      step c is_committed less earlier (inr below) = committed_reaches e is_in settled c is_committed less below earlier

      up_to : (bound : ℕ) (c : Published) → IsCommitted h c → c.state.version < bound → c.state.term < e.term → IsAtMost c.state e.base
      up_to zero c is_committed low less = absurd (omega arith)
      up_to (suc bound) c is_committed low less =
          step c is_committed less (λ d d_committed lower d_less. up_to bound d d_committed (omega arith) d_less) (at_most_or_below c.state e.base)

  -- a term has one winner
  pub one_winner : (term : ℕ) → IsSettledBelow h root term → HasOneWinner h term
  one_winner term settled e f e_in f_in e_term f_term =
      same_candidate shared.id e.node f.node term (vote e e_in e_term shared.id shared.is_voter) (vote f f_in f_term shared.id shared.is_other)
    where
      base_less : (e : Election) → Contains (elections h) e → e.term ≡ term → e.base.term < term
      base_less e e_in e_term = omega (arith, win_base_older e e_in)

      at_base : (e : Election) → Contains (elections h) e → e.term ≡ term → IsCovered h root e.base
      at_base e e_in e_term = covered_below term settled e.base (facts.win_facts e e_in).original (base_less e e_in e_term)

      newest_less : (e : Election) (e_in : Contains (elections h) e) (e_term : e.term ≡ term) → (at_base e e_in e_term).newest.term < term
      newest_less e e_in e_term = omega (arith, base_less e e_in e_term, at_most_term (at_base e e_in e_term).newest e.base (at_base e e_in e_term).is_newest.at_most)

      -- what is committed below the base of the one is at most what is below the base of the other
      at_most_other : (e f : Election) (e_in : Contains (elections h) e) (f_in : Contains (elections h) f) (e_term : e.term ≡ term) (f_term : f.term ≡ term) → IsChosen h (at_base e e_in e_term).newest → IsAtMost (at_base e e_in e_term).newest (at_base f f_in f_term).newest
      at_most_other e f e_in f_in e_term f_term chosen =
          above_chosen (at_base f f_in f_term).is_newest (at_base e e_in e_term).newest chosen
          (subst (λ (x : ClusterState). IsAtMost x f.base) chosen.is_state
          (winner_has_committed f f_in (subst (IsSettledBelow h root) (sym f_term) settled) chosen.as_published chosen.is_committed
          (omega (arith, newest_less e e_in e_term, same_terms chosen.is_state))))

      same_newest : (at_base e e_in e_term).newest ≡ (at_base f f_in f_term).newest
      same_newest =
          same_if_each_at_most facts (at_base e e_in e_term).newest (at_base f f_in f_term).newest (settled (at_base e e_in e_term).newest.term (newest_less e e_in e_term)).one_state
          (at_base e e_in e_term).is_newest.origin (at_base f f_in f_term).is_newest.origin
          (at_most_other e f e_in f_in e_term f_term) (at_most_other f e f_in e_in f_term e_term)

      quorum : (e : Election) (e_in : Contains (elections h) e) (e_term : e.term ≡ term) → IsTrue (is_quorum_of (at_base e e_in e_term).newest.config (facts.win_facts e e_in).votes)
      quorum e e_in e_term =
          newest_win_quorum facts e (at_base e e_in e_term).newest e_in (settled e.base.term (base_less e e_in e_term)).one_state (at_base e e_in e_term).is_newest (at_base e e_in e_term).is_one

      shared : Shared (facts.win_facts e e_in).votes (facts.win_facts f f_in).votes
      shared =
          quorum_meet (at_base f f_in f_term).newest.config (facts.win_facts e e_in).votes (facts.win_facts f f_in).votes
          (subst (λ (x : ClusterState). IsTrue (is_quorum_of x.config (facts.win_facts e e_in).votes)) same_newest (quorum e e_in e_term))
          (quorum f f_in f_term)

      vote : (e : Election) (e_in : Contains (elections h) e) → e.term ≡ term → (voter : Id) → IsTrue (has voter (facts.win_facts e e_in).votes) → HasJoined h voter e.node term
      vote e e_in e_term voter is_voter = subst (HasJoined h voter e.node) e_term ((facts.win_facts e e_in).voted voter is_voter).joined
