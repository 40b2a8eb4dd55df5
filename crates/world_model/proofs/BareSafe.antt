-- What is promised of a history holds of it without parents too.
use Rattle.std.proofs.Common.{◌≡◌, cond, List, None, Some, [], ◌∷◌, ◌++◌, refl, sym, ◌∙◌, ap, subst, arith, ◌⊎◌, inl, inr}
use Rattle.std.specs.Prelude.{Contains}
use Rattle.std.proofs.lemmas.List.Elements.{Contains-append_cases, Contains-append_left, Contains-append_right}
use Rattle.voting_config.specs.Ids.{Id}
use Rattle.cluster_state.specs.declared.state.ClusterState.{ClusterState}
use Rattle.cluster_state.specs.declared.state.Kept.{Kept}
use Rattle.world_model.specs.Acts.{Act, Outcome, NodeHistory, StartJoin, Publish, Open, NoActs, Then, Taken, Refused, Stopped, Answered, Disk, Crashed, JoinMessage, PublishMessage, ResponseMessage, CommitMessage}
use Rattle.world_model.specs.NodeState.{durable_of, accepted_of, term_of, initial_state}
use Rattle.world_model.specs.Histories.{History, NoEntries, Next, node_history, IsPrefix}
use Rattle.world_model.specs.Safety.{Win, winners, Published, published, published_by, IsCommitted, Descends, Itself, Child, Holds, HoldsAll, HoldsAnswers, IsSafe}
use Rattle.world_model.specs.Bare.{bare_state, bare_kept, bare_act, bare_outcome, bare_history}
use Rattle.world_model.proofs.Legal.{one_of, none_of}
use Rattle.world_model.proofs.Forgetting.{same_wins, bare_deeds, deeds_bare, term_bare, accepted_bare, durable_bare}
use Rattle.world_model.proofs.Remembering.{commit_as}

term_in : (h : History) (n : Id) → term_of (node_history (bare_history h) n) ≡ term_of (node_history h n)
term_in h n = ap term_of (deeds_bare h n) ∙ term_bare (node_history h n)

accepted_in : (h : History) (n : Id) → accepted_of (node_history (bare_history h) n) ≡ bare_state (accepted_of (node_history h n))
accepted_in h n = ap accepted_of (deeds_bare h n) ∙ accepted_bare (node_history h n)

winners_bare : (h : History) → winners (bare_history h) ≡ winners h
winners_bare NoEntries = refl
winners_bare (Next h n a o) = λ i. cond (same_wins o i) (winners_bare h i ++ record { node = n; term = term_in h n i } ∷ []) (winners_bare h i)

-- What was published.

abbrev bare_published : Published → Published
bare_published p = record { publisher = p.publisher; state = bare_state p.state; parent = bare_state p.parent }

published_by_from : (h : History) (n : Id) (o : Outcome) (p : Published) → Contains (published_by (bare_history h) n (bare_outcome o)) p → (q : Published) × Contains (published_by h n o) q × (bare_published q ≡ p)
published_by_from h n (Answered (Taken (Some (PublishMessage r)) w)) p c = (
  record { publisher = n; state = r.state; parent = accepted_of (node_history h n) },
  (0, (omega arith), refl),
  (λ i. record { publisher = n; state = bare_state r.state; parent = sym (accepted_in h n) i }) ∙ one_of _ p c,
)
published_by_from h n (Answered (Taken (Some (JoinMessage j)) w)) p c = none_of p c
published_by_from h n (Answered (Taken (Some (ResponseMessage r)) w)) p c = none_of p c
published_by_from h n (Answered (Taken (Some (CommitMessage m)) w)) p c = none_of p c
published_by_from h n (Answered (Taken None w)) p c = none_of p c
published_by_from h n (Answered (Refused cause)) p c = none_of p c
published_by_from h n (Answered Stopped) p c = none_of p c
published_by_from h n (Disk kept) p c = none_of p c
published_by_from h n (Crashed kept) p c = none_of p c

published_from : (h : History) (p : Published) → Contains (published (bare_history h)) p → (q : Published) × Contains (published h) q × (bare_published q ≡ p)
published_from NoEntries p c = none_of p c
published_from (Next h n a o) p c = from (Contains-append_cases (published (bare_history h)) (published_by (bare_history h) n (bare_outcome o)) p c) (published_from h p)
  where
    from : Contains (published (bare_history h)) p ⊎ Contains (published_by (bare_history h) n (bare_outcome o)) p
        → (Contains (published (bare_history h)) p → (q : Published) × Contains (published h) q × (bare_published q ≡ p))
        → (q : Published) × Contains (published (Next h n a o)) q × (bare_published q ≡ p)
    from (inl k) r = let v = r k in (v.0, Contains-append_left (published h) (published_by h n o) v.0 v.1, v.2)
    from (inr k) r = let v = published_by_from h n o p k in (v.0, Contains-append_right (published h) (published_by h n o) v.0 v.1, v.2)

published_by_to : (h : History) (n : Id) (o : Outcome) (q : Published) → Contains (published_by h n o) q → Contains (published_by (bare_history h) n (bare_outcome o)) (bare_published q)
published_by_to h n (Answered (Taken (Some (PublishMessage r)) w)) q c =
    let here : Published = record { publisher = n; state = bare_state r.state; parent = accepted_of (node_history (bare_history h) n) } in
    let is : here ≡ bare_published q = (λ i. record { publisher = n; state = bare_state r.state; parent = accepted_in h n i }) ∙ ap bare_published (one_of _ q c) in
    subst (λ (x : Published). Contains (here ∷ []) x) is (0, (omega arith), refl)
published_by_to h n (Answered (Taken (Some (JoinMessage j)) w)) q c = none_of q c
published_by_to h n (Answered (Taken (Some (ResponseMessage r)) w)) q c = none_of q c
published_by_to h n (Answered (Taken (Some (CommitMessage m)) w)) q c = none_of q c
published_by_to h n (Answered (Taken None w)) q c = none_of q c
published_by_to h n (Answered (Refused cause)) q c = none_of q c
published_by_to h n (Answered Stopped) q c = none_of q c
published_by_to h n (Disk kept) q c = none_of q c
published_by_to h n (Crashed kept) q c = none_of q c

published_to : (h : History) (q : Published) → Contains (published h) q → Contains (published (bare_history h)) (bare_published q)
published_to NoEntries q c = none_of q c
published_to (Next h n a o) q c = from (Contains-append_cases (published h) (published_by h n o) q c) (published_to h q)
  where
    from : Contains (published h) q ⊎ Contains (published_by h n o) q → (Contains (published h) q → Contains (published (bare_history h)) (bare_published q))
        → Contains (published (bare_history h) ++ published_by (bare_history h) n (bare_outcome o)) (bare_published q)
    from (inl k) r = Contains-append_left (published (bare_history h)) (published_by (bare_history h) n (bare_outcome o)) (bare_published q) (r k)
    from (inr k) r = Contains-append_right (published (bare_history h)) (published_by (bare_history h) n (bare_outcome o)) (bare_published q) (published_by_to h n o q k)

committed_from : (h : History) (p : Published) → IsCommitted (bare_history h) p → (q : Published) × IsCommitted h q × (bare_published q ≡ p)
committed_from h p c =
    let v = published_from h p c.0 in
    let own = subst (λ (x : Published). IsCommitted (bare_history h) x) (sym v.2) c in
    (v.0, (v.1, commit_as h _ own.1), v.2)

descends_bare : (h : History) (r s : ClusterState) → Descends h r s → Descends (bare_history h) (bare_state r) (bare_state s)
descends_bare h r s Itself = Itself
descends_bare h r s (Child p c d) = Child (bare_published p) (published_to h p c) (descends_bare h r p.parent d)

-- What each node keeps.

holds_bare : (k : Kept) (a : Act) (o : Outcome) → Holds k a o → Holds (bare_kept k) (bare_act a) (bare_outcome o)
holds_bare k (StartJoin c t) (Answered (Taken (Some m) w)) h = h
holds_bare k (StartJoin c t) (Answered (Taken None w)) h = h
holds_bare k (Publish r) (Answered (Taken (Some m) w)) h = (h.0, λ t v. ap bare_state (h.1 t v))
holds_bare k (Publish r) (Answered (Taken None w)) h = (h.0, λ t v. ap bare_state (h.1 t v))
holds_bare k a o h = tt

holds_all_bare : (k : Kept) (g : NodeHistory) → HoldsAll k g → HoldsAll (bare_kept k) (bare_deeds g)
holds_all_bare k NoActs h = tt
holds_all_bare k (Then g a o) h = (holds_all_bare k g h.0, holds_bare k a o h.1)

-- .. as it stands in the history without parents
holds_in : (h : History) (n : Id) (k : Kept) → HoldsAll k (node_history h n) → HoldsAll (bare_kept k) (node_history (bare_history h) n)
holds_in h n k a = subst (λ (g : NodeHistory). HoldsAll (bare_kept k) g) (sym (deeds_bare h n)) (holds_all_bare k (node_history h n) a)

durable_in : (h : History) (n : Id) → durable_of (node_history (bare_history h) n) ≡ bare_kept (durable_of (node_history h n))
durable_in h n = ap durable_of (deeds_bare h n) ∙ durable_bare (node_history h n)

prefix_from : (p h : History) → IsPrefix p (bare_history h) → (q : History) × IsPrefix q h × (bare_history q ≡ p)
prefix_from p NoEntries i = (NoEntries, refl, sym i)
prefix_from p (Next h n a o) (inl e) = (Next h n a o, inl refl, sym e)
prefix_from p (Next h n a o) (inr i) = let v = prefix_from p h i in (v.0, inr v.1, v.2)

-- an opening of the history without parents
pub record OpenedAs (h p : History) (n : Id) (found : Kept) : Type 0 where
  pub before : History
  pub record_found : Kept
  pub outcome : Outcome
  pub is_in : IsPrefix (Next before n (Open record_found) outcome) h
  pub before_is : bare_history before ≡ p
  pub found_is : bare_kept record_found ≡ found

opened_as : (h p : History) (n : Id) (found : Kept) (o : Outcome) → IsPrefix (Next p n (Open found) o) (bare_history h) → OpenedAs h p n found
opened_as NoEntries p n found o i = absurd cc
opened_as (Next h m a u) p n found o (inr i) =
    let v = opened_as h p n found o i in
    record { before = v.before; record_found = v.record_found; outcome = v.outcome; is_in = inr v.is_in; before_is = v.before_is; found_is = v.found_is }
opened_as (Next h m a u) p n found o (inl e) =
    let before : bare_history h ≡ p = cc in
    let node : m ≡ n = cc in
    let act : bare_act a ≡ Open found = cc in
    from a before node act
  where
    from : (b : Act) → bare_history h ≡ p → m ≡ n → bare_act b ≡ Open found → OpenedAs (Next h m b u) p n found
    from (Open f) before node act =
        let same : bare_kept f ≡ found = cc in
        record { before = h; record_found = f; outcome = u; is_in = inl (λ i. Next h (sym node i) (Open f) u); before_is = before; found_is = same }
    from b before node act = absurd cc

holds_answers_bare : (h : History) → HoldsAnswers h → HoldsAnswers (bare_history h)
holds_answers_bare h a = record {
  kept = λ node p i.
      let v = prefix_from p h i in
      let held = holds_in v.0 node (durable_of (node_history v.0 node)) (a.kept node v.0 v.1) in
      subst (λ (x : History). HoldsAll (durable_of (node_history x node)) (node_history x node)) v.2
      (subst (λ (k : Kept). HoldsAll k (node_history (bare_history v.0) node)) (sym (durable_in v.0 node)) held);
  opened = λ node p found o i.
      let v = opened_as h p node found o i in
      let held = holds_in v.before node v.record_found (a.opened node v.before v.record_found v.outcome v.is_in) in
      subst (λ (x : History). HoldsAll found (node_history x node)) v.before_is
      (subst (λ (k : Kept). HoldsAll k (node_history (bare_history v.before) node)) v.found_is held);
}

pub safe_bare : (initial : List Id) (h : History) → IsSafe initial h → IsSafe initial (bare_history h)
safe_bare initial h safe = record {
  one_winner = λ v w v_in w_in. safe.one_winner v w (subst (λ (l : List Win). Contains l v) (winners_bare h) v_in) (subst (λ (l : List Win). Contains l w) (winners_bare h) w_in);
  one_state = λ p q p_in q_in version.
      let a = committed_from h p p_in in
      let b = committed_from h q q_in in
      let versions = ap (λ (x : Published). x.state.version) a.2 ∙ version ∙ sym (ap (λ (x : Published). x.state.version) b.2) in
      sym (ap (λ (x : Published). x.state) a.2) ∙ ap bare_state (safe.one_state a.0 b.0 a.1 b.1 versions) ∙ ap (λ (x : Published). x.state) b.2;
  one_line = λ p q p_in q_in version.
      let a = committed_from h p p_in in
      let b = committed_from h q q_in in
      let low = ap (λ (x : Published). x.state.version) a.2 in
      let high = ap (λ (x : Published). x.state.version) b.2 in
      let line = descends_bare h a.0.state b.0.state (safe.one_line a.0 b.0 a.1 b.1 (omega arith)) in
      subst (λ (x : Published). Descends (bare_history h) p.state x.state) b.2 (subst (λ (x : Published). Descends (bare_history h) x.state (bare_state b.0.state)) a.2 line);
  from_root = λ p p_in.
      let a = committed_from h p p_in in
      subst (λ (x : Published). Descends (bare_history h) (initial_state initial) x.state) a.2 (descends_bare h (initial_state initial) a.0.state (safe.from_root a.0 a.1));
  held = holds_answers_bare h safe.held;
}
