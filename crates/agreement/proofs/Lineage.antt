-- Parents and descent: first consequences of the facts, with no induction on terms.
use Rattle.std.proofs.Common.{◌≡◌, ◌<◌, ◌≤◌, ◌⊎◌, inl, inr, refl, sym, subst, arith}
use Rattle.std.specs.List.{Contains}
use Rattle.std.proofs.lemmas.Bool.{cases_lt}
use Rattle.cluster_state.specs.declared.state.ClusterState.{ClusterState}
use Rattle.world_model.specs.Histories.{History}
use Rattle.world_model.specs.Safety.{Published, published, Descends, Itself, Child, IsAtMost}
use Rattle.world_model.proofs.Facts.{Facts, IsPublished, IsOriginal}
use Rattle.world_model.proofs.StateIds.{IsBelow, at_most_self}
use Rattle.agreement.proofs.Order.{same_versions, at_most_from_below}

-- a published state as such
pub published_state : {h : History} (p : Published) → Contains (published h) p → IsPublished h p.state
published_state p is_in = record { as_published = p; is_in = is_in; is_state = refl }

-- what holds of each published state holds of one that is called by another name
pub published_all : {h : History} (P : ClusterState → Type 0) → ((p : Published) → Contains (published h) p → P p.state) → (s : ClusterState) → IsPublished h s → P s
published_all P all s is_published = subst P is_published.is_state (all is_published.as_published is_published.is_in)

-- what holds of root and of each published state holds of each original one
pub original_all : {h : History} {root : ClusterState} (P : ClusterState → Type 0) → P root → ((p : Published) → Contains (published h) p → P p.state) → (s : ClusterState) → IsOriginal h root s → P s
original_all P at_root all s (inl is_root) = subst P (sym is_root) at_root
original_all P at_root all s (inr is_published) = published_all P all s is_published

-- descent goes on
pub descends_trans : {h : History} {q r s : ClusterState} → Descends h r s → Descends h q r → Descends h q s
descends_trans Itself below = below
descends_trans (Child p is_in above) below = Child p is_in (descends_trans above below)

-- where a state comes from that descends from another one
pub record Step (h : History) (r s : ClusterState) : Type 0 where
  pub child : Published
  pub is_in : Contains (published h) child
  pub is_state : child.state ≡ s
  pub parent_descends : Descends h r child.parent

-- a state that descends from another one was published over a parent that does
pub descends_step : {h : History} {r s : ClusterState} → Descends h r s → (s ≡ r → ⊥) → Step h r s
descends_step Itself differ = absurd (differ refl)
descends_step (Child p is_in above) differ = record { child = p; is_in = is_in; is_state = refl; parent_descends = above }

-- the state is the other one, or has a greater id and a greater version
abbrev pub IsAfter : ClusterState → ClusterState → Type 0
IsAfter r s = (s ≡ r) ⊎ (IsBelow r s × (r.version < s.version))

after_child : (r parent state : ClusterState) → IsAfter r parent → IsBelow parent state → parent.version < state.version → IsAfter r state
after_child r parent state (inl same) below version = inr (subst (λ (x : ClusterState). IsBelow x state × (x.version < state.version)) same (below, version))
after_child r parent state (inr after) below version = inr (lower after below version)
  where
    lower : IsBelow r parent × (r.version < parent.version) → IsBelow parent state → parent.version < state.version → IsBelow r state × (r.version < state.version)
    lower after below version = (chain after.0 below, omega arith)
      where
        chain : IsBelow r parent → IsBelow parent state → IsBelow r state
        chain (inl a) (inl b) = inl (omega arith)
        chain (inl a) (inr b) = inl (omega arith)
        chain (inr a) (inl b) = inl (omega arith)
        chain (inr a) (inr b) = inr (omega arith)

module _ {h : History} {root : ClusterState} (facts : Facts h root) where
  -- a parent's id is below its child's
  pub parent_below : (p : Published) → Contains (published h) p → IsBelow p.parent p.state
  parent_below p is_in = cases (facts.value_facts p is_in).version_grows (facts.value_facts p is_in).term_grows (cases_lt p.parent.term p.state.term)
    where
      cases : p.parent.version < p.state.version → p.parent.term ≤ p.state.term → (p.parent.term < p.state.term) ⊎ (p.state.term ≤ p.parent.term) → IsBelow p.parent p.state
      cases version term (inl less) = inl less
      cases version term (inr more) = inr (omega arith, version)

  pub parent_version : (p : Published) → Contains (published h) p → p.parent.version < p.state.version
  parent_version p is_in = (facts.value_facts p is_in).version_grows

  pub parent_term : (p : Published) → Contains (published h) p → p.parent.term ≤ p.state.term
  parent_term p is_in = (facts.value_facts p is_in).term_grows

  pub parent_original : (p : Published) → Contains (published h) p → IsOriginal h root p.parent
  parent_original p is_in = (facts.value_facts p is_in).original

  -- root is below each published state
  pub root_lowest : (p : Published) → Contains (published h) p → root.term < p.state.term
  root_lowest p is_in = (facts.value_facts p is_in).above_root

  pub root_lowest_state : (s : ClusterState) → IsPublished h s → root.term < s.term
  root_lowest_state s is_published = published_all (λ s. root.term < s.term) root_lowest s is_published

  -- what a state descends from is itself, or has a lower id and a lower version
  pub descends_after : {r s : ClusterState} → Descends h r s → IsAfter r s
  descends_after Itself = inl refl
  descends_after {r} (Child p is_in above) = after_child r p.parent p.state (descends_after above) (parent_below p is_in) (parent_version p is_in)

  pub descends_id : {r s : ClusterState} → Descends h r s → IsAtMost r s
  descends_id {r} {s} d = from (descends_after d)
    where
      from : IsAfter r s → IsAtMost r s
      from (inl same) = subst (λ x. IsAtMost r x) (sym same) (at_most_self r)
      from (inr after) = at_most_from_below r s after.0

  pub descends_version : {r s : ClusterState} → Descends h r s → r.version ≤ s.version
  descends_version {r} {s} d = from (descends_after d)
    where
      from : IsAfter r s → r.version ≤ s.version
      from (inl same) = omega (arith, same_versions same)
      from (inr after) = omega arith
