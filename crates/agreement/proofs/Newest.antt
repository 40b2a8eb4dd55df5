-- The newest committed state that a state has below it, and its configuration.
use Rattle.std.proofs.Common.{◌≡◌, ℕ, ◌<◌, ◌⊎◌, inl, inr, List, refl, sym, ◌∙◌, ap, subst, arith, IsTrue}
use Rattle.std.specs.List.{Contains}
use Rattle.voting_config.specs.Ids.{Id, is_quorum_of}
use Rattle.cluster_state.specs.declared.state.ClusterState.{ClusterState}
use Rattle.world_model.specs.Histories.{History}
use Rattle.world_model.specs.Safety.{Published, published, IsCommitted, IsAtMost}
use Rattle.world_model.proofs.Facts.{Facts, IsPublished, IsOriginal, IsHeldFor, IsCommitOf, HasSentCommit, Election, elections}
use Rattle.world_model.proofs.StateIds.{at_most_self}
use Rattle.agreement.proofs.Order.{same_terms, same_versions, same_id, at_most_term}
use Rattle.agreement.proofs.Lineage.{root_lowest, root_lowest_state, published_state}

-- the state was published, and its commit was sent
pub record IsChosen (h : History) (state : ClusterState) : Type 0 where
  pub as_published : Published
  pub is_committed : IsCommitted h as_published
  pub is_state : as_published.state ≡ state

abbrev pub IsRootOrChosen : History → ClusterState → ClusterState → Type 0
IsRootOrChosen h root state = (state ≡ root) ⊎ IsChosen h state

-- newest is root or committed, is at most s, and no committed state at most s is above it
pub record IsNewest (h : History) (root s newest : ClusterState) : Type 0 where
  pub origin : IsRootOrChosen h root newest
  pub at_most : IsAtMost newest s
  pub above_all : (c : Published) → IsCommitted h c → IsAtMost c.state s → IsAtMost c.state newest

abbrev pub IsOneOf : ClusterState → List Id → Type 0
IsOneOf s config = (config ≡ s.config) ⊎ (config ≡ s.committed)

-- one of the two configurations of s is that of the newest committed state below it
pub record IsCovered (h : History) (root s : ClusterState) : Type 0 where
  pub newest : ClusterState
  pub is_newest : IsNewest h root s newest
  pub is_one : IsOneOf s newest.config

-- in this term no two published states have one id
abbrev pub HasOneState : History → ℕ → Type 0
HasOneState h term = (p q : Published) → Contains (published h) p → Contains (published h) q → p.state.term ≡ term → q.state.term ≡ term → p.state.version ≡ q.state.version → p ≡ q

pub chosen_published : {h : History} (s : ClusterState) → IsChosen h s → IsPublished h s
chosen_published s chosen = record { as_published = chosen.as_published; is_in = chosen.is_committed.0; is_state = chosen.is_state }

pub committed_chosen : {h : History} (c : Published) → IsCommitted h c → IsChosen h c.state
committed_chosen c is_committed = record { as_published = c; is_committed = is_committed; is_state = refl }

-- what the newest is said to be above, of a chosen state
pub above_chosen : {h : History} {root s newest : ClusterState} → IsNewest h root s newest → (c : ClusterState) → IsChosen h c → IsAtMost c s → IsAtMost c newest
above_chosen {h} {root} {s} {newest} is_newest c chosen at_most =
    subst (λ x. IsAtMost x newest) chosen.is_state
    (is_newest.above_all chosen.as_published chosen.is_committed (subst (λ x. IsAtMost x s) (sym chosen.is_state) at_most))

pub newest_root : {h : History} (root : ClusterState) → IsNewest h root root root
newest_root root = record { origin = inl refl; at_most = at_most_self root; above_all = λ c is_committed at_most. at_most }

pub covered_root : {h : History} (root : ClusterState) → IsCovered h root root
covered_root root = record { newest = root; is_newest = newest_root root; is_one = inl refl }

-- two published states of one id are the same, by any names
pub same_published : {h : History} (r s : ClusterState) → HasOneState h r.term → IsPublished h r → IsPublished h s → s.term ≡ r.term → s.version ≡ r.version → r ≡ s
same_published r s one r_in s_in term version =
    let p = r_in.as_published in
    let q = s_in.as_published in
    let q_term = same_terms s_in.is_state ∙ term in
    let p_version = same_versions r_in.is_state ∙ sym version in
    let same = one p q r_in.is_in s_in.is_in (same_terms r_in.is_state) q_term (p_version ∙ sym (same_versions s_in.is_state)) in
    sym r_in.is_state ∙ (ap (λ (x : Published). x.state) same ∙ s_in.is_state)

module _ {h : History} {root : ClusterState} (facts : Facts h root) where
  -- a chosen state is above root
  pub root_lowest_chosen : (s : ClusterState) → IsChosen h s → root.term < s.term
  root_lowest_chosen s chosen = root_lowest_state facts s (chosen_published s chosen)

  -- a chosen state is not at most root
  pub chosen_not_root : (c : ClusterState) → IsChosen h c → IsAtMost c root → ⊥
  chosen_not_root c chosen at_most = absurd (omega (arith, root_lowest_chosen c chosen, at_most_term c root at_most))

  -- the newest below root is root
  pub newest_of_root : (newest : ClusterState) → IsNewest h root root newest → newest ≡ root
  newest_of_root newest is_newest = from is_newest.origin
    where
      from : IsRootOrChosen h root newest → newest ≡ root
      from (inl is_root) = is_root
      from (inr chosen) = absurd (chosen_not_root newest chosen is_newest.at_most)

  -- two that are root or committed are the same, where each that is committed is at most the other
  pub same_if_each_at_most : (r s : ClusterState) → HasOneState h r.term → IsRootOrChosen h root r → IsRootOrChosen h root s → (IsChosen h r → IsAtMost r s) → (IsChosen h s → IsAtMost s r) → r ≡ s
  same_if_each_at_most r s one (inl r_root) (inl s_root) up down = r_root ∙ sym s_root
  same_if_each_at_most r s one (inl r_root) (inr s_chosen) up down = absurd (chosen_not_root s s_chosen (subst (λ x. IsAtMost s x) r_root (down s_chosen)))
  same_if_each_at_most r s one (inr r_chosen) (inl s_root) up down = absurd (chosen_not_root r r_chosen (subst (λ x. IsAtMost r x) s_root (up r_chosen)))
  same_if_each_at_most r s one (inr r_chosen) (inr s_chosen) up down =
      let ids = same_id r s (up r_chosen) (down s_chosen) in
      same_published r s one (chosen_published r r_chosen) (chosen_published s s_chosen) (sym ids.0) (sym ids.1)

  -- the newest below a committed state is that state
  pub newest_of_chosen : (s newest : ClusterState) → HasOneState h s.term → IsChosen h s → IsNewest h root s newest → newest ≡ s
  newest_of_chosen s newest one chosen is_newest =
      sym (same_if_each_at_most s newest one (inr chosen) is_newest.origin (λ c. above_chosen is_newest s chosen (at_most_self s)) (λ c. is_newest.at_most))

  -- an original state whose commit was sent, by whomever, is committed
  pub sent_is_chosen : (s : ClusterState) → HasOneState h s.term → IsOriginal h root s → (node : Id) → HasSentCommit h node s.term s.version → IsChosen h s
  sent_is_chosen s one original node is_sent = from original
    where
      commit : IsCommitOf h node s.term s.version
      commit = facts.commit_is_value node s.term s.version is_sent

      the_commit : IsCommitted h commit.as_published
      the_commit = (commit.is_in, rw (commit.has_publisher, commit.has_term, commit.has_version) is_sent)

      from : IsOriginal h root s → IsChosen h s
      from (inl is_root) =
          absurd (omega (arith, root_lowest facts commit.as_published commit.is_in, commit.has_term, same_terms is_root))
      from (inr is_published) = record {
        as_published = commit.as_published;
        is_committed = the_commit;
        is_state = sym (same_published s commit.as_published.state one is_published (published_state commit.as_published commit.is_in) commit.has_term commit.has_version);
      }

  -- The configuration of the newest below s is one of those that a node with s goes by: that of s, and the one held for committed.
  pub newest_is_held : (s newest : ClusterState) (held : List Id) → HasOneState h s.term → IsOriginal h root s → IsNewest h root s newest → IsOneOf s newest.config → IsHeldFor h root s held → (newest.config ≡ s.config) ⊎ (newest.config ≡ held)
  newest_is_held s newest held one original is_newest (inl is_config) is_held = inl is_config
  newest_is_held s newest held one original is_newest (inr is_committed) (inl carried) = inr (is_committed ∙ sym carried)
  newest_is_held s newest held one original is_newest (inr is_committed) (inr own) = inl (ap (λ (x : ClusterState). x.config) (from own.1))
    where
      from : (s ≡ root) ⊎ ((node : Id) × HasSentCommit h node s.term s.version) → newest ≡ s
      from (inl is_root) = newest_of_root newest (subst (λ x. IsNewest h root x newest) is_root is_newest) ∙ sym is_root
      from (inr commit) = newest_of_chosen s newest one (sent_is_chosen s one original commit.0 commit.1) is_newest

  -- one publication further: the newest below a parent keeps its configuration among the two of the child
  pub newest_config_step : (p : Published) (newest : ClusterState) → Contains (published h) p → HasOneState h p.parent.term → IsNewest h root p.parent newest → IsOneOf p.parent newest.config → IsOneOf p.state newest.config
  newest_config_step p newest is_in one is_newest is_one =
      change (newest_is_held p.parent newest p.state.committed one (facts.value_facts p is_in).original is_newest is_one (facts.value_facts p is_in).held) (facts.value_facts p is_in).one_change
    where
      change : (newest.config ≡ p.parent.config) ⊎ (newest.config ≡ p.state.committed) → (p.state.config ≡ p.parent.config) ⊎ (p.state.committed ≡ p.parent.config) → IsOneOf p.state newest.config
      change (inr is_held) c = inr is_held
      change (inl is_config) (inl kept) = inl (is_config ∙ sym kept)
      change (inl is_config) (inr moved) = inr (is_config ∙ sym moved)

  -- the votes of a winner are a quorum of the configuration of the newest below its base
  pub newest_win_quorum : (e : Election) (newest : ClusterState) (is_in : Contains (elections h) e) → HasOneState h e.base.term → IsNewest h root e.base newest → IsOneOf e.base newest.config → IsTrue (is_quorum_of newest.config (facts.win_facts e is_in).votes)
  newest_win_quorum e newest is_in one is_newest is_one =
      from (newest_is_held e.base newest (facts.win_facts e is_in).committed one (facts.win_facts e is_in).original is_newest is_one (facts.win_facts e is_in).held)
    where
      from : (newest.config ≡ e.base.config) ⊎ (newest.config ≡ (facts.win_facts e is_in).committed) → IsTrue (is_quorum_of newest.config (facts.win_facts e is_in).votes)
      from (inl is_config) = rw is_config (facts.win_facts e is_in).accepted_quorum
      from (inr is_held) = rw is_held (facts.win_facts e is_in).committed_quorum
