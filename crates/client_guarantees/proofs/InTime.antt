-- The answers that speak of a committed state are in order of time, by the second profile.
use Rattle.std.proofs.Common.{◌≡◌, ◌<◌, ◌≤◌, List, refl, sym, ◌∙◌, ap, subst, arith, ◌⊎◌, inl, inr}
use Rattle.std.specs.List.{Contains}
use Rattle.std.proofs.lemmas.Bool.{cases_lt}
use Rattle.std.proofs.lemmas.List.Elements.{All-contains}
use Rattle.voting_config.specs.Ids.{Id}
use Rattle.cluster_state.specs.Initial.{initial_state}
use Rattle.cluster_state.specs.declared.state.ClusterState.{ClusterState}
use Rattle.cluster_state.specs.declared.state.Kept.{Kept}
use Rattle.cluster_state.specs.declared.state.StateId.{StateId}
use Rattle.cluster_state.specs.States.{id_of}
use Rattle.world_model.specs.Acts.{NodeHistory}
use Rattle.world_model.specs.declared.acts.Message.{Message}
use Rattle.world_model.specs.declared.acts.Message.TheVariants.{Commit as CommitMessage}
use Rattle.world_model.specs.Histories.{History, Next, sent, sent_by, IsLegal, IsPrefix}
use Rattle.world_model.specs.Restarts.{IsAlone, IsLegalFrom}
use Rattle.world_model.proofs.Restarted.{grounded_of_restarted}
use Rattle.world_model.specs.Safety.{Published, published, published_by, IsCommitted, Descends, Itself, Child, IsAtMost}
use Rattle.world_model.proofs.Legal.{IsGrounded, listed, is_listed, prefix_trans, grounded_before, grounded_of_legal, system_of_grounded}
use Rattle.world_model.proofs.Facts.{Facts, IsOriginal}
use Rattle.world_model.proofs.FactsHold.{facts_of_system}
use Rattle.world_model.proofs.StateIds.{IsBelow}
use Rattle.agreement.proofs.Lineage.{descends_trans, descends_id, parent_below, parent_original, root_lowest}
use Rattle.agreement.proofs.Elections.{descends_parent}
use Rattle.agreement.proofs.Terms.{agree_terms}
use Rattle.agreement.proofs.Agreement.{committed_line}
use Rattle.policy_model.specs.declared.settings.Settings.{Settings}
use Rattle.policy_model.specs.Events.{Log}
use Rattle.policy_model.specs.Entries.{Life, Lived, Did, replies_of}
use Rattle.client_guarantees.specs.Lasting.{AckLasts}
use Rattle.client_guarantees.specs.InTime.{IsMadeAbove, IsSettled, AnswersAreInTime, AnswersFollowTime, AcksAreInOrder}
use Rattle.client_guarantees.proofs.Backing.{IsUnique, unique}
use Rattle.client_guarantees.proofs.Lives.{InTime, replies_in_time}

-- ---- what had happened by a moment had happened

published_within : (q h : History) → IsPrefix q h → (p : Published) → Contains (published q) p → Contains (published h) p
published_within q h i p c =
    let at = listed published (λ x n a o. published_by x n o) refl (λ x n a o. refl) q p c in
    is_listed published (λ x n a o. published_by x n o) refl (λ x n a o. refl) h p at.before at.node at.act at.outcome
    (prefix_trans (Next at.before at.node at.act at.outcome) q h at.is_in i) at.adds

sent_within : (q h : History) → IsPrefix q h → (m : Message) → Contains (sent q) m → Contains (sent h) m
sent_within q h i m c =
    let at = listed sent (λ x n a o. sent_by o) refl (λ x n a o. refl) q m c in
    is_listed sent (λ x n a o. sent_by o) refl (λ x n a o. refl) h m at.before at.node at.act at.outcome
    (prefix_trans (Next at.before at.node at.act at.outcome) q h at.is_in i) at.adds

committed_within : (q h : History) → IsPrefix q h → (c : Published) → IsCommitted q c → IsCommitted h c
committed_within q h i c k = (
  published_within q h i c k.0,
  sent_within q h i (CommitMessage (record { source = c.publisher; term = c.state.term; version = c.state.version })) k.1,
)

-- what a state that stood published by a moment descends from stood published by then too, or is the state from which all began
module _ (q h : History) (root : ClusterState) (i : IsPrefix q h) (then : Facts q root) (now : Facts h root) (U : IsUnique h) where
  descends_within : (c x : ClusterState) → Descends h c x → IsOriginal q root x → IsOriginal q root c
  descends_within c x Itself o = o
  descends_within c x (Child y is_in above) o = from o (descends_within c y.parent above)
    where
      from : IsOriginal q root y.state → (IsOriginal q root y.parent → IsOriginal q root c) → IsOriginal q root c
      from (inl e) next =
          let low = root_lowest now y is_in in
          let term : y.state.term ≡ root.term = ap (λ (z : ClusterState). z.term) e in
          absurd (omega (arith, low, term))
      from (inr k) next =
          let same : k.as_published ≡ y = U.same k.as_published y (published_within q h i k.as_published k.is_in) is_in (ap id_of k.is_state) in
          next (parent_original then y (subst (Contains (published q)) same k.is_in))

-- a state that another one was made of, as a third one was, and that is not above this third, comes before it
module _ (h : History) (root : ClusterState) (now : Facts h root) where
  in_line : (x y z : ClusterState) → Descends h y z → Descends h x z → IsAtMost x y → Descends h x y
  in_line x y z Itself d low = d
  in_line x y z (Child p is_in above) d low =
      in_line x y p.parent above
      (descends_parent now p is_in (agree_terms now p.state.term).one_state x d (λ same. higher same (descends_id now above) (parent_below now p is_in) low)) low
    where
      higher : p.state ≡ x → IsAtMost y p.parent → IsBelow p.parent p.state → IsAtMost x y → ⊥
      higher same a b c = lower (subst (IsBelow p.parent) same b) a c
        where
          lower : IsBelow p.parent x → IsAtMost y p.parent → IsAtMost x y → ⊥
          lower (inl b) (inl a) (inl c) = absurd (omega arith)
          lower (inl b) (inl a) (inr c) = absurd (omega (arith, c.0))
          lower (inl b) (inr a) (inl c) = absurd (omega (arith, a.0))
          lower (inl b) (inr a) (inr c) = absurd (omega (arith, a.0, c.0))
          lower (inr b) (inl a) (inl c) = absurd (omega (arith, b.0))
          lower (inr b) (inl a) (inr c) = absurd (omega (arith, b.0, c.0))
          lower (inr b) (inr a) (inl c) = absurd (omega (arith, b.0, a.0))
          lower (inr b) (inr a) (inr c) = absurd (omega (arith, b.1, a.1, c.1))

not_at_most : (a b : ClusterState) → (IsAtMost a b → ⊥) → (b.term < a.term) ⊎ ((a.term ≡ b.term) × (b.version < a.version))
not_at_most a b never = terms (cases_lt a.term b.term) (cases_lt b.term a.term) (cases_lt b.version a.version)
  where
    terms : (a.term < b.term) ⊎ (b.term ≤ a.term) → (b.term < a.term) ⊎ (a.term ≤ b.term) → (b.version < a.version) ⊎ (a.version ≤ b.version)
        → (b.term < a.term) ⊎ ((a.term ≡ b.term) × (b.version < a.version))
    terms (inl l) y z = absurd (never (inl l))
    terms (inr l) (inl m) z = inl m
    terms (inr l) (inr m) (inl v) = inr ((omega (arith, l, m)), v)
    terms (inr l) (inr m) (inr v) = absurd (never (inr ((omega (arith, l, m)), v)))

at_most : (a b : ClusterState) → (b.term < a.term) ⊎ ((a.term ≡ b.term) × (b.version < a.version)) → IsAtMost b a
at_most a b (inl l) = inl l
at_most a b (inr e) = let v = e.1 in inr (e.0, (omega (arith, v)))

-- in a history whose nodes all began with the state root
module _ (root : ClusterState) (h : History) (G : IsGrounded root h) where
  now : Facts h root
  now = facts_of_system h root (system_of_grounded root h G)

  in_time : AnswersAreInTime h
  in_time s second before event items run out is_in =
      All-contains (InTime h s run.before (Lived before (Did event items))) (replies_of items) out
      (replies_in_time h root (system_of_grounded root h G) s second before event items run) is_in

  -- a settled state descends from each committed one that is not above it, and each committed one that is not below it from it
  settled_over : (state : ClusterState) → IsSettled h state → (c : Published) → IsCommitted h c → IsAtMost c.state state → Descends h c.state state
  settled_over state k c is low = from (committed_line now c k.as_published is k.is_committed)
    where
      from : Descends h c.state k.as_published.state ⊎ Descends h k.as_published.state c.state → Descends h c.state state
      from (inl d) = in_line h root now c.state state k.as_published.state k.descends d low
      from (inr d) = in_line h root now c.state state c.state (descends_trans d k.descends) Itself low

  settled_under : (state : ClusterState) → IsSettled h state → (c : Published) → IsCommitted h c → IsAtMost state c.state → Descends h state c.state
  settled_under state k c is low = from (committed_line now c k.as_published is k.is_committed)
    where
      from : Descends h c.state k.as_published.state ⊎ Descends h k.as_published.state c.state → Descends h state c.state
      from (inl d) = in_line h root now state c.state k.as_published.state d k.descends low
      from (inr d) = descends_trans d k.descends

  follow_time : AnswersFollowTime h
  follow_time s before_run life conn request id since state is settled moment m c k =
      record { above = above; descends = settled_over state settled c was (at_most state c.state above) }
    where
      was : IsCommitted h c
      was = committed_within moment h m.part c k

      then : Facts moment root
      then = facts_of_system moment root (system_of_grounded root moment (grounded_before root moment h G m.part))

      never : IsOriginal moment root state → ⊥
      never (inl e) =
          let low = root_lowest now since.as_published since.is_in in
          let term : since.as_published.state.term ≡ root.term = ap (λ (i : StateId). i.term) (since.is_id ∙ sym is) ∙ ap (λ (z : ClusterState). z.term) e in
          absurd (omega (arith, low, term))
      never (inr p) = since.not_yet moment m p.as_published p.is_in (ap id_of p.is_state ∙ is)

      above : (c.state.term < state.term) ⊎ ((state.term ≡ c.state.term) × (c.state.version < state.version))
      above = not_at_most state c.state (λ l.
          never (descends_within moment h root m.part then now (unique h root (system_of_grounded root h G)) state c.state (settled_under state settled c was l)
          (inr (record { as_published = c; is_in = k.0; is_state = refl }))))

pub legal_in_time : (initial : List Id) (h : History) → IsLegal initial h → AnswersAreInTime h
legal_in_time initial h legal = in_time (initial_state initial) h (grounded_of_legal initial h legal)

pub legal_follow_time : (initial : List Id) (h : History) → IsLegal initial h → AnswersFollowTime h
legal_follow_time initial h legal = follow_time (initial_state initial) h (grounded_of_legal initial h legal)

pub restarted_in_time : (first : Id) (kept : Kept) (h : History) → IsAlone first kept → IsLegalFrom first kept h → AnswersAreInTime h
restarted_in_time first kept h alone legal = in_time kept.accepted h (grounded_of_restarted first kept alone h legal)

pub restarted_follow_time : (first : Id) (kept : Kept) (h : History) → IsAlone first kept → IsLegalFrom first kept h → AnswersFollowTime h
restarted_follow_time first kept h alone legal = follow_time kept.accepted h (grounded_of_restarted first kept alone h legal)

pub in_order : (Seen : Settings → Log → Type 0) (h : History) (s : Settings) (before_run : NodeHistory) (life : Life) → AnswersFollowTime h → AckLasts Seen h s life → AcksAreInOrder Seen h s before_run life
in_order Seen h s before_run life follow lasts conn number id a moment m earlier c = record {
  made =
      subst (λ (x : ClusterState). IsMadeAbove h x a.ack.as_published.state) c.is_state
      (follow s before_run life conn a.ack.request.request id a.since a.ack.as_published.state a.ack.is_id
      (record { as_published = a.ack.as_published; is_committed = a.ack.is_committed; descends = Itself }) moment m c.as_published c.is_committed);
  lasts = λ p is_in at_most. lasts conn number id a.ack p is_in at_most;
}
