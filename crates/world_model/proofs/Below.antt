-- The state from which all began is of an earlier term than each win, and so than each published state.
use Rattle.std.proofs.Common.{◌≡◌, ℕ, ◌≤◌, ◌<◌, max, refl, sym, ◌∙◌, ap, subst, arith, ◌⊎◌, inl, inr}
use Rattle.voting_config.specs.Ids.{Id, same}
use Rattle.cluster_state.specs.declared.state.ClusterState.{ClusterState}
use Rattle.cluster_state.specs.declared.messages.PublishRequest.{PublishRequest}
use Rattle.world_model.specs.Acts.{NodeHistory, PublishMessage}
use Rattle.world_model.specs.NodeState.{NodeState, term_of, accepted_of, empty_state}
use Rattle.world_model.proofs.Moments.{begins_before, IsSent}
use Rattle.world_model.proofs.System.{IsExecution, IsSystem}
use Rattle.world_model.proofs.Durable.{IsPublishedIn, IsAcceptedIn, accepted_origin, accepted_below}
use Rattle.world_model.proofs.Rounds.{WonAt, won_later, won_has_win}
use Rattle.world_model.proofs.Elected.{Winning, winning, valuing, value_above_win}
use Rattle.std.specs.Prelude.{zero, suc}
use Rattle.world_model.proofs.Rounds.{RoundSteps, in_round, started_above}

-- each state that was published in a term below this one is above root
abbrev pub IsAboveBefore : (Id → NodeHistory) → ClusterState → ℕ → Type 0
IsAboveBefore D root term = (k : Id) (r : PublishRequest) → IsSent (D k) (PublishMessage r) → r.state.term < term → root.term < r.state.term

-- within a round of such a term: root is of an earlier term, or nothing is accepted yet, or a state of this very term
abbrev pub IsRoundAbove : (Id → NodeHistory) → ClusterState → NodeHistory → NodeState → Type 0
IsRoundAbove D root g p = IsAboveBefore D root p.term → (root.term < p.term) ⊎ ((p.accepted ≡ empty_state) ⊎ ((p.accepted.term ≡ p.term) × IsPublishedIn D p.accepted))

module _ (D : Id → NodeHistory) (root : ClusterState) (W : IsSystem D root) where
  -- where a round starts, all that was accepted is of an earlier term
  start_above : (me : Id) (g : NodeHistory) (t : ℕ) → IsExecution D root me g → term_of g < t → IsAboveBefore D root t → (root.term < t) ⊎ (accepted_of g ≡ empty_state)
  start_above me g t f less below = from (accepted_origin D root W me g f) (accepted_below D root W me g f)
    where
      from : IsAcceptedIn D root (accepted_of g) → (accepted_of g).term ≤ term_of g → (root.term < t) ⊎ (accepted_of g ≡ empty_state)
      from (inl e) b = inr e
      from (inr (inl e)) b = let term : (accepted_of g).term ≡ root.term = ap (λ (s : ClusterState). s.term) e.0 in inl (omega arith)
      from (inr (inr p)) b =
          let term : p.request.state.term ≡ (accepted_of g).term = ap (λ (s : ClusterState). s.term) p.is_state in
          let above = below p.request.source p.request p.is_sent (omega arith) in
          inl (omega arith)

  round_above : (me : Id) → RoundSteps D root me (IsRoundAbove D root)
  round_above me = record {
    quiet = λ g a o p k i. i;
    starts = λ g c t s w f k below. starts g t f.0 k.above (start_above me g t f.0 k.above (λ q r x less. below q r x (omega arith)));
    joins = λ g j s w f k u st i. i;
    values = λ g v c x s w f k u st i. i;
    publishes = λ g r s w f k u st i below. inr (inr (k.now, record { request = r; is_sent = f.1.sourced.is_sent; is_state = refl }));
    responds = λ g r s w f k u st i. i;
    commits = λ g c s w f k u st i. i;
    boots = λ g c s w f k u st i below.
        let above = started_above D root me g f.0 u st in
        let zero : 0 ≡ root.term = ap (λ (s : ClusterState). s.term) f.1.sourced.0 in
        inl (omega arith);
  }
    where
      starts : (g : NodeHistory) (t : ℕ) → IsExecution D root me g → term_of g < t → (root.term < t) ⊎ (accepted_of g ≡ empty_state)
          → (root.term < max t (term_of g)) ⊎ ((accepted_of g ≡ empty_state) ⊎ (((accepted_of g).term ≡ max t (term_of g)) × IsPublishedIn D (accepted_of g)))
      starts g t f less (inl h) = inl (omega arith)
      starts g t f less (inr h) = inr (inl h)

  -- the win of the term in which a state was published, on a state of a lower version
  pub win_of : (n : Id) (r : PublishRequest) → IsSent (D n) (PublishMessage r) → (b : NodeHistory) × WonAt b (D n) × (term_of b ≡ r.state.term) × ((accepted_of b).version < r.state.version)
  win_of n r s =
      let v = valuing D root W n r s in
      let w = won_has_win D root W n v.before v.execution v.up v.by.won in
      let won = won_later w.before v.before (D n) (begins_before _ _ _ _ v.is_in) w.won in
      let term = w.same_term ∙ sym v.by.term_is in
      (w.before, won, term, value_above_win D root W n w.before r won s (sym term))

  -- one win, from those of lower terms and those of its term on a lower version
  below_win : (n : Id) (b : NodeHistory) → WonAt b (D n) → IsAboveBefore D root (term_of b)
      → ((k : Id) (c : NodeHistory) → WonAt c (D k) → term_of c ≡ term_of b → (accepted_of c).version < (accepted_of b).version → root.term < term_of c) → root.term < term_of b
  below_win n b won below same = from w (in_round D root n (IsRoundAbove D root) (round_above n) b w.execution w.up w.guard.started below)
    where
      w : Winning D root n b
      w = winning D root W n b won

      from : Winning D root n b → (root.term < term_of b) ⊎ ((accepted_of b ≡ empty_state) ⊎ (((accepted_of b).term ≡ term_of b) × IsPublishedIn D (accepted_of b))) → root.term < term_of b
      from w (inl h) = h
      from w (inr (inl e)) = absurd (w.guard.named (ap (λ (s : ClusterState). s.config) e))
      from w (inr (inr h)) =
          let x = win_of h.1.request.source h.1.request h.1.is_sent in
          let term : h.1.request.state.term ≡ (accepted_of b).term = ap (λ (s : ClusterState). s.term) h.1.is_state in
          let version : h.1.request.state.version ≡ (accepted_of b).version = ap (λ (s : ClusterState). s.version) h.1.is_state in
          let now : term_of x.0 ≡ term_of b = x.2 ∙ term ∙ h.0 in
          let less = same h.1.request.source x.0 x.1 now (omega (arith, x.3)) in
          omega arith

  -- by the term, and for each term by the version
  by_version : (t v : ℕ) → IsAboveBefore D root t → (n : Id) (b : NodeHistory) → WonAt b (D n) → term_of b ≡ t → (accepted_of b).version < v → root.term < term_of b
  by_version t zero below n b won e less = absurd (omega arith)
  by_version t (suc v) below n b won e less =
      below_win n b won (subst (IsAboveBefore D root) (sym e) below) (λ k c x y z. by_version t v below k c x (y ∙ e) (omega arith))

  by_term : (t : ℕ) → IsAboveBefore D root t
  by_term zero k r s less = absurd (omega arith)
  by_term (suc t) k r s less =
      let x = win_of k r s in
      let above = by_version (term_of x.0) (suc (accepted_of x.0).version) (λ q y z m. by_term t q y z (omega (arith, x.2))) k x.0 x.1 refl (omega arith) in
      omega (arith, x.2)

  pub root_below_wins : (n : Id) (b : NodeHistory) → WonAt b (D n) → root.term < term_of b
  root_below_wins n b won = by_version (term_of b) (suc (accepted_of b).version) (by_term (term_of b)) n b won refl (omega arith)
