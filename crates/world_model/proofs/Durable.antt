-- What a node keeps durably only grows, and is of published states.
use Rattle.std.proofs.Common.{◌≡◌, ◌≢◌, ℕ, ◌≤◌, ◌<◌, max, Bool, true, false, cond, List, [], ◌∷◌, refl, sym, subst, arith, ◌⊎◌, inl, inr}
use Rattle.std.proofs.lemmas.Bool.{cond_both, cases_order}
use Rattle.voting_config.specs.Ids.{Id, is_quorum_of}
use Rattle.cluster_state.specs.declared.state.ClusterState.{ClusterState}
use Rattle.cluster_state.specs.declared.messages.PublishRequest.{PublishRequest}
use Rattle.cluster_state.specs.declared.messages.ApplyCommit.{ApplyCommit}
use Rattle.world_model.specs.Acts.{Act, Outcome, NodeHistory, Bootstrap, StartJoin, Publish, Commit, Open, NoActs, Then, PublishMessage, CommitMessage, is_effective, is_first}
use Rattle.world_model.specs.NodeState.{term_of, accepted_of, committed_of, durable_of, initial_state, empty_state}
use Rattle.world_model.specs.Safety.{IsAtMost}
use Rattle.world_model.proofs.StateIds.{at_most_self, at_most_trans}
use Rattle.world_model.proofs.Guards.{boot_guard, publish_guard, commit_guard, kept_is_taken}
use Rattle.world_model.proofs.Moments.{Begins, IsSent}
use Rattle.world_model.proofs.System.{IsGround, IsExecution, IsSystem, sent_at}

-- a state of the present term that is newer than the accepted one
newer_state : (a s : ClusterState) (now : ℕ) → s.term ≡ now → (s.term ≡ a.term → a.version < s.version) → a.term ≤ now → IsAtMost a s
newer_state a s now e newer below = from (cases_order a.term s.term)
  where
    from : ((a.term ≡ s.term) ⊎ ((a.term < s.term) ⊎ (s.term < a.term))) → IsAtMost a s
    from (inl h) = let less = newer (sym h) in inr (sym h, (omega arith))
    from (inr (inl h)) = inl h
    from (inr (inr h)) = absurd (omega arith)

-- no votes are a quorum of no nodes
pub quorum_named : (config votes : List Id) → is_quorum_of config votes ≡ true → config ≢ []
quorum_named [] votes h e = cc
quorum_named (x ∷ xs) votes h e = cc

-- some node published the state
pub record IsPublishedIn (D : Id → NodeHistory) (s : ClusterState) : Type 0 where
  pub request : PublishRequest
  pub is_sent : IsSent (D request.source) (PublishMessage request)
  pub is_state : request.state ≡ s

-- what a node has accepted: nothing yet, or root, or a published state
abbrev pub IsAcceptedIn : (Id → NodeHistory) → ClusterState → ClusterState → Type 0
IsAcceptedIn D root s = (s ≡ empty_state) ⊎ (((s ≡ root) × (root.config ≢ [])) ⊎ IsPublishedIn D s)

-- config is what a node that has accepted s may hold for committed
abbrev pub IsHeldIn : (Id → NodeHistory) → ClusterState → ClusterState → List Id → Type 0
IsHeldIn D root s config =
    (config ≡ s.committed)
    ⊎ ((config ≡ s.config) × ((s ≡ root) ⊎ ((k : Id) × IsSent (D k) (CommitMessage (record { source = k; term = s.term; version = s.version })))))

-- the term only grows
term_step : (g : NodeHistory) (a : Act) (o : Outcome) → is_first g ≡ false → term_of g ≤ term_of (Then g a o)
term_step g (StartJoin c t) o h = cond_both (is_effective o) (max t (term_of g)) (term_of g) (λ x. term_of g ≤ x) (λ e. omega arith) (λ e. omega arith)
term_step g (Open found) o h = rw h (omega arith)
term_step g a o h = omega arith

later : (p g : NodeHistory) → Begins p g → is_first p ≡ false → is_first g ≡ false
later p NoActs b h = subst (λ (x : NodeHistory). is_first x ≡ false) b h
later p (Then g a o) b h = refl

pub term_grows : (p g : NodeHistory) → Begins p g → is_first p ≡ false → term_of p ≤ term_of g
term_grows p NoActs b h = rw b (omega arith)
term_grows p (Then g a o) (inl e) h = rw e (omega arith)
term_grows p (Then g a o) (inr b) h =
    let before = term_grows p g b h in
    let now = term_step g a o (later p g b h) in
    omega arith

commit_is : (c : ApplyCommit) (t v : ℕ) → c.term ≡ t → c.version ≡ v → c ≡ record { source = c.source; term = t; version = v }
commit_is c t v p q = λ i. record { source = c.source; term = p i; version = q i }

module _ (D : Id → NodeHistory) (root : ClusterState) (W : IsSystem D root) where
  -- a publication names a configuration
  pub request_named : (k : Id) (r : PublishRequest) → IsSent (D k) (PublishMessage r) → r.state.config ≢ []
  request_named k r s = quorum_named _ _ (sent_at D root k (D k) (PublishMessage r) (W k) s).origin_is.quorum

  -- the accepted state is empty, or root, or published
  pub accepted_origin : (me : Id) (g : NodeHistory) → IsExecution D root me g → IsAcceptedIn D root (accepted_of g)
  accepted_origin me NoActs f = inl refl
  accepted_origin me (Then g (Bootstrap c) o) f =
      cond_both (is_effective o) (initial_state c) (accepted_of g) (IsAcceptedIn D root)
      (λ e. let named = subst (λ (s : ClusterState). s.config ≢ []) f.1.sourced.0 f.1.sourced.1 in inr (inl (f.1.sourced.0, named)))
      (λ e. accepted_origin me g f.0)
  accepted_origin me (Then g (Publish r) o) f =
      cond_both (is_effective o) r.state (accepted_of g) (IsAcceptedIn D root)
      (λ e. inr (inr (record { request = r; is_sent = f.1.sourced.is_sent; is_state = refl })))
      (λ e. accepted_origin me g f.0)
  accepted_origin me (Then g (Open found) o) f = from (is_first g) f.1.opens (accepted_origin me g f.0)
    where
      from : (b : Bool) → cond b (IsGround root found) (found ≡ durable_of g) → IsAcceptedIn D root (accepted_of g) → IsAcceptedIn D root (cond b found.accepted (accepted_of g))
      from false h k = k
      from true h k = ground h.accepted
        where
          ground : ((found.accepted ≡ empty_state) ⊎ ((found.accepted ≡ root) × (root.config ≢ []))) → IsAcceptedIn D root found.accepted
          ground (inl e) = inl e
          ground (inr e) = inr (inl e)
  accepted_origin me (Then g a o) f = accepted_origin me g f.0

  -- the accepted state is empty, or it names a configuration
  pub empty_or_named : (me : Id) (g : NodeHistory) → IsExecution D root me g → (accepted_of g ≡ empty_state) ⊎ ((accepted_of g).config ≢ [])
  empty_or_named me g f = from (accepted_origin me g f)
    where
      from : IsAcceptedIn D root (accepted_of g) → (accepted_of g ≡ empty_state) ⊎ ((accepted_of g).config ≢ [])
      from (inl e) = inl e
      from (inr (inl e)) = inr (subst (λ (s : ClusterState). s.config ≢ []) (sym e.0) e.1)
      from (inr (inr p)) = inr (subst (λ (s : ClusterState). s.config ≢ []) p.is_state (request_named p.request.source p.request p.is_sent))

  -- the accepted term is at most the term
  pub accepted_below : (me : Id) (g : NodeHistory) → IsExecution D root me g → (accepted_of g).term ≤ term_of g
  accepted_below me NoActs f = omega arith
  accepted_below me (Then g (Bootstrap c) o) f =
      cond_both (is_effective o) (initial_state c) (accepted_of g) (λ s. s.term ≤ term_of g) (λ e. omega arith) (λ e. accepted_below me g f.0)
  accepted_below me (Then g (StartJoin c t) o) f =
      let before = accepted_below me g f.0 in
      cond_both (is_effective o) (max t (term_of g)) (term_of g) (λ x. (accepted_of g).term ≤ x) (λ e. omega arith) (λ e. before)
  accepted_below me (Then g (Publish r) o) f =
      cond_both (is_effective o) r.state (accepted_of g) (λ s. s.term ≤ term_of g)
      (λ e.
      let k = kept_is_taken me g (Publish r) o f.1.follows.follows e in
      let guard = publish_guard me g r k.0 k.1 k.2 in
      omega (arith, guard.now))
      (λ e. accepted_below me g f.0)
  accepted_below me (Then g (Open found) o) f = from (is_first g) f.1.opens (accepted_below me g f.0)
    where
      from : (b : Bool) → cond b (IsGround root found) (found ≡ durable_of g) → (accepted_of g).term ≤ term_of g → (cond b found.accepted (accepted_of g)).term ≤ cond b found.term (term_of g)
      from false h k = k
      from true h k = h.older
  accepted_below me (Then g a o) f = accepted_below me g f.0

  -- the id of the accepted state only grows
  accepted_step : (me : Id) (g : NodeHistory) (a : Act) (o : Outcome) → IsExecution D root me (Then g a o) → is_first g ≡ false → IsAtMost (accepted_of g) (accepted_of (Then g a o))
  accepted_step me g (Bootstrap c) o f h =
      cond_both (is_effective o) (initial_state c) (accepted_of g) (IsAtMost (accepted_of g))
      (λ e.
      let k = kept_is_taken me g (Bootstrap c) o f.1.follows.follows e in
      booted (empty_or_named me g f.0) (boot_guard me g c k.0 k.1 k.2).empty)
      (λ e. at_most_self (accepted_of g))
    where
      booted : ((accepted_of g ≡ empty_state) ⊎ ((accepted_of g).config ≢ [])) → (accepted_of g).config ≡ [] → IsAtMost (accepted_of g) (initial_state c)
      booted (inl e) k = subst (λ (s : ClusterState). IsAtMost s (initial_state c)) (sym e) (inr (refl, (omega arith)))
      booted (inr n) k = absurd (n k)
  accepted_step me g (Publish r) o f h =
      cond_both (is_effective o) r.state (accepted_of g) (IsAtMost (accepted_of g))
      (λ e.
      let k = kept_is_taken me g (Publish r) o f.1.follows.follows e in
      let guard = publish_guard me g r k.0 k.1 k.2 in
      newer_state (accepted_of g) r.state (term_of g) guard.now guard.newer (accepted_below me g f.0))
      (λ e. at_most_self (accepted_of g))
  accepted_step me g (Open found) o f h = subst (λ (b : Bool). IsAtMost (accepted_of g) (cond b found.accepted (accepted_of g))) (sym h) (at_most_self (accepted_of g))
  accepted_step me g a o f h = at_most_self (accepted_of g)

  pub accepted_grows : (me : Id) (p g : NodeHistory) → IsExecution D root me g → Begins p g → is_first p ≡ false → IsAtMost (accepted_of p) (accepted_of g)
  accepted_grows me p NoActs f b h = rw b (at_most_self empty_state)
  accepted_grows me p (Then g a o) f (inl e) h = rw e (at_most_self (accepted_of (Then g a o)))
  accepted_grows me p (Then g a o) f (inr b) h =
      at_most_trans (accepted_of p) (accepted_of g) (accepted_of (Then g a o)) (accepted_grows me p g f.0 b h) (accepted_step me g a o f (later p g b h))

  -- the committed configuration is what the accepted state carries, or the state's own
  pub committed_origin : (me : Id) (g : NodeHistory) → IsExecution D root me g → (accepted_of g ≡ empty_state) ⊎ IsHeldIn D root (accepted_of g) (committed_of g)
  committed_origin me NoActs f = inl refl
  committed_origin me (Then g (Bootstrap c) o) f = from (is_effective o) (committed_origin me g f.0)
    where
      from : (b : Bool) → (accepted_of g ≡ empty_state) ⊎ IsHeldIn D root (accepted_of g) (committed_of g)
          → (cond b (initial_state c) (accepted_of g) ≡ empty_state) ⊎ IsHeldIn D root (cond b (initial_state c) (accepted_of g)) (cond b c (committed_of g))
      from true k = inr (inl refl)
      from false k = k
  committed_origin me (Then g (Publish r) o) f = from (is_effective o) (committed_origin me g f.0)
    where
      from : (b : Bool) → (accepted_of g ≡ empty_state) ⊎ IsHeldIn D root (accepted_of g) (committed_of g)
          → (cond b r.state (accepted_of g) ≡ empty_state) ⊎ IsHeldIn D root (cond b r.state (accepted_of g)) (cond b r.state.committed (committed_of g))
      from true k = inr (inl refl)
      from false k = k
  committed_origin me (Then g (Commit c) o) f =
      cond_both (is_effective o) (accepted_of g).config (committed_of g) (λ k. (accepted_of g ≡ empty_state) ⊎ IsHeldIn D root (accepted_of g) k)
      (λ e.
      let k = kept_is_taken me g (Commit c) o f.1.follows.follows e in
      let guard = commit_guard me g c k.0 k.1 k.2 in
      let same = commit_is c (accepted_of g).term (accepted_of g).version guard.accepted_term guard.accepted_version in
      inr (inr (refl, inr (c.source, subst (λ (x : ApplyCommit). IsSent (D c.source) (CommitMessage x)) same f.1.sourced.is_sent))))
      (λ e. committed_origin me g f.0)
  committed_origin me (Then g (Open found) o) f = from (is_first g) f.1.opens (committed_origin me g f.0)
    where
      held : (found.accepted ≡ root) → ((found.committed ≡ root.committed) ⊎ (found.committed ≡ root.config)) → IsHeldIn D root found.accepted found.committed
      held e (inl k) = inl (cc)
      held e (inr k) = inr ((cc), inl e)

      ground : IsGround root found → ((found.accepted ≡ empty_state) ⊎ ((found.accepted ≡ root) × (root.config ≢ []))) → (found.accepted ≡ empty_state) ⊎ IsHeldIn D root found.accepted found.committed
      ground h (inl e) = inl e
      ground h (inr e) = inr (held e.0 (h.held e.0))

      from : (b : Bool) → cond b (IsGround root found) (found ≡ durable_of g) → (accepted_of g ≡ empty_state) ⊎ IsHeldIn D root (accepted_of g) (committed_of g)
          → (cond b found.accepted (accepted_of g) ≡ empty_state) ⊎ IsHeldIn D root (cond b found.accepted (accepted_of g)) (cond b found.committed (committed_of g))
      from true h k = ground h h.accepted
      from false h k = k
  committed_origin me (Then g a o) f = committed_origin me g f.0
