-- The states that the parts show as committed are those that are committed in the history.
use Rattle.std.proofs.Common.{◌≡◌, ℕ, Bool, Option, None, Some, List, [], ◌∷◌, ◌++◌, refl, sym, ◌∙◌, ap, subst, arith, append-nil, length, ◌+◌, ◌⊎◌, inl, inr}
use Rattle.std.proofs.lemmas.List.Elements.{Contains-append_cases, Contains-append_left, Contains-append_right}
use Rattle.std.specs.Prelude.{Contains}
use Rattle.std.specs.List.{AllByRecursion}
use Rattle.voting_config.specs.Ids.{Id}
use Rattle.cluster_state.specs.declared.state.ClusterState.{ClusterState}
use Rattle.cluster_state.specs.declared.state.ClusterValue.{ClusterValue}
use Rattle.cluster_state.specs.declared.messages.ApplyCommit.{ApplyCommit}
use Rattle.cluster_state.specs.declared.messages.PublishResponse.{PublishResponse}
use Rattle.world_model.specs.declared.acts.Act.{Act}
use Rattle.world_model.specs.declared.acts.Act.TheVariants.{Value, Response}
use Rattle.world_model.specs.declared.acts.Message.{Message}
use Rattle.world_model.specs.declared.acts.Message.TheVariants.{Publish as PublishMessage, Commit as CommitMessage}
use Rattle.world_model.specs.declared.acts.ActReply.TheVariants.{Taken}
use Rattle.world_model.specs.declared.acts.Outcome.{Outcome}
use Rattle.world_model.specs.declared.acts.Outcome.TheVariants.{Answered}
use Rattle.world_model.specs.Acts.{NodeHistory, Then}
use Rattle.world_model.specs.NodeState.{accepted_of, term_of, published_version_of, initial_state}
use Rattle.world_model.specs.Histories.{History, Next, node_history, sent, sent_by, is_opening, IsLegal}
use Rattle.world_model.specs.Safety.{Published, published, published_by}
use Rattle.world_model.proofs.Moments.{begins_self, IsSent, sent_later}
use Rattle.world_model.proofs.System.{IsSystem, IsExecution, CommitBy, origin, taken_up}
use Rattle.world_model.proofs.Commits.{commit_is_value}
use Rattle.world_model.proofs.Rounds.{ok, other_request}
use Rattle.world_model.proofs.Legal.{system_of_legal, own_deeds, moment, is_listed, one_of, none_of}
use Rattle.trace_text.specs.Published.{last_published}
use Rattle.world_model.specs.Settled.{settled_for}
use Rattle.world_model.proofs.AllSettled.{settled_sent}
use Rattle.schedule_replay.specs.Parts.{NumberedMessage, ActShown, TracePart, Echo, Did, Opened, WasDown, WasUp, WentDown, DiskFailed, Unsent}
use Rattle.schedule_replay.specs.HistoryShown.{message_in, outcome_shown, history_shown_by, history_shown_from, state_in, states_of, some_state, commit_of, if_commit, ShowsCommit}
use Rattle.schedule_replay.specs.ActShown.{state_committed, message_sent, act_shown}
use Rattle.schedule_replay.specs.Showing.{HasCommitted}
use Rattle.schedule_replay.proofs.Along.{Along, IsSound}
use Rattle.world_model.proofs.SettledLists.{settled_publications}
use Rattle.schedule_replay.proofs.LastPublished.{HasPublished, last_state}

-- ---- an act that sends a commit

-- what its node had published last is what it commits
pub record Commits (g : NodeHistory) (h : History) (n : Id) (c : ApplyCommit) : Type 0 where
  pub state : ClusterState
  pub is_last : last_published g ≡ Some state
  pub has_source : c.source ≡ n
  pub has_term : c.term ≡ state.term
  pub has_version : c.version ≡ state.version
  pub committed : HasCommitted h state

commit_same : (c : ApplyCommit) (n : Id) (t v : ℕ) → c.source ≡ n → c.term ≡ t → c.version ≡ v → c ≡ record { source = n; term = t; version = v }
commit_same c n t v p q r = λ i. record { source = p i; term = q i; version = r i }

module _ (root : ClusterState) (h : History) (W : IsSystem (node_history h) root) (n : Id) where
  -- a state that the node published
  published_of : (state : ClusterState) (source : Id) → IsSent (node_history h n) (PublishMessage (record { source = source; state = state })) → (p : Published) × Contains (published h) p × (p.publisher ≡ n) × (p.state ≡ state)
  published_of state source s =
      let m = moment h n s.before s.act (ok (Some (PublishMessage (record { source = source; state = state }))) s.flag) s.is_in in
      let p : Published = record { publisher = n; state = state; parent = accepted_of (node_history m.before n) } in
      (p, is_listed published (λ p n a o. published_by p n o) refl (λ p n a o. refl) h p m.before n s.act (ok (Some (PublishMessage (record { source = source; state = state }))) s.flag) m.is_in (0, (omega arith), refl), refl, refl)

  -- the state that it commits is committed
  committed_of : (c : ApplyCommit) (state : ClusterState) → c.source ≡ n → c.term ≡ state.term → c.version ≡ state.version → Contains (sent h) (CommitMessage c)
      → (p : Published) × Contains (published h) p × (p.publisher ≡ n) × (p.state ≡ state) → HasCommitted h state
  committed_of c state source term version is_sent p =
      let same = commit_same c p.0.publisher p.0.state.term p.0.state.version (source ∙ sym p.2) (term ∙ ap (λ (x : ClusterState). x.term) (sym p.3)) (version ∙ ap (λ (x : ClusterState). x.version) (sym p.3)) in
      record { as_published = p.0; is_committed = (p.1, subst (λ (x : ApplyCommit). Contains (sent h) (CommitMessage x)) same is_sent); is_state = p.3 }

  no_value : {A : Type 0} (act : Act) (r : PublishResponse) {v : ℕ} {config : List Id} {value : ClusterValue} → act ≡ Response r → act ≡ Value v config value → A
  no_value act r e d = cc

  -- what the node had published last
  last_of : (g : NodeHistory) (act : Act) (c : ApplyCommit) (w : Bool) → node_history h n ≡ Then g act (ok (Some (CommitMessage c)) w) → IsExecution (node_history h) root n (Then g act (ok (Some (CommitMessage c)) w)) → CommitBy n g c act
      → HasPublished g (term_of g) (published_version_of g)
  last_of g act c w e f by =
      let sends : IsSent (node_history h n) (CommitMessage c) = subst (λ (x : NodeHistory). IsSent x (CommitMessage c)) (sym e) (record { before = g; act = act; flag = w; is_in = begins_self (Then g act (ok (Some (CommitMessage c)) w)) }) in
      let value = commit_is_value (node_history h) root W n c sends in
      let before = other_request (node_history h) root W n g act (ok (Some (CommitMessage c)) w) value.request f (λ y z. no_value act by.response by.act_is y) (λ x. x)
      (subst (λ (x : NodeHistory). IsSent x (PublishMessage value.request)) e value.is_sent) in
      let up = taken_up n g act (ok (Some (CommitMessage c)) w) f.1.follows (ap is_opening by.act_is) by.runs in
      last_state (node_history h) root W n g f.0 up by.won value.request before (value.term_is ∙ by.term_is)

  commits_by : (g : NodeHistory) (act : Act) (c : ApplyCommit) (w : Bool) → node_history h n ≡ Then g act (ok (Some (CommitMessage c)) w) → Contains (sent h) (CommitMessage c) → CommitBy n g c act
      → HasPublished g (term_of g) (published_version_of g) → Commits g h n c
  commits_by g act c w e is_sent by last =
      let here : IsSent (node_history h n) (PublishMessage last.request) = subst (λ (x : NodeHistory). IsSent x (PublishMessage last.request)) (sym e) (sent_later g (Then g act (ok (Some (CommitMessage c)) w)) _ (inr (begins_self g)) last.is_sent) in
      record {
        state = last.request.state;
        is_last = last.is_last;
        has_source = by.source_is;
        has_term = by.term_is ∙ sym last.has_term;
        has_version = by.version_is ∙ sym last.has_version;
        committed = committed_of c last.request.state by.source_is (by.term_is ∙ sym last.has_term) (by.version_is ∙ sym last.has_version) is_sent (published_of last.request.state last.request.source here);
      }

  commits_of : (g : NodeHistory) (act : Act) (c : ApplyCommit) (w : Bool) → node_history h n ≡ Then g act (ok (Some (CommitMessage c)) w) → Contains (sent h) (CommitMessage c) → Commits g h n c
  commits_of g act c w e is_sent =
      let f : IsExecution (node_history h) root n (Then g act (ok (Some (CommitMessage c)) w)) = subst (λ (x : NodeHistory). IsExecution (node_history h) root n x) e (W n) in
      let by : CommitBy n g c act = origin n g act (CommitMessage c) w f.1.follows.follows in
      commits_by g act c w e is_sent by (last_of g act c w e f by)

pub commits_in : (initial : List Id) (h : History) (n : Id) (act : Act) (c : ApplyCommit) (w : Bool) → IsLegal initial (Next h n act (ok (Some (CommitMessage c)) w))
    → Commits (node_history h n) (Next h n act (ok (Some (CommitMessage c)) w)) n c
commits_in initial h n act c w l =
    let o : Outcome = ok (Some (CommitMessage c)) w in
    commits_of (initial_state initial) (Next h n act o) (system_of_legal initial (Next h n act o) l) n (node_history h n) act c w (own_deeds h n act o)
    (Contains-append_right (sent h) (CommitMessage c ∷ []) (CommitMessage c) (0, (omega arith), refl))

-- ---- the part of an act

-- what an act that ended so shows of commits
abbrev ShowsSo : Id → Option ClusterState → History → Outcome → Type 0
ShowsSo n published h o =
    ((count : ℕ) → if_commit (message_in (message_sent count o)) ≡ commit_of n (state_committed o published)) × ((state : ClusterState) → Contains (some_state (state_committed o published)) state → HasCommitted h state)

shows_commit : (n : Id) (g : NodeHistory) (h : History) (c : ApplyCommit) (w : Bool) → Commits g h n c → ShowsSo n (last_published g) h (ok (Some (CommitMessage c)) w)
shows_commit n g h c w k = (
  (λ count. ap (λ (x : ApplyCommit). Some (CommitMessage x)) (commit_same c n k.state.term k.state.version k.has_source k.has_term k.has_version) ∙ ap (λ x. commit_of n x) (sym k.is_last)),
  (λ state y. subst (λ (x : ClusterState). HasCommitted h x) (one_of k.state state (subst (λ (x : Option ClusterState). Contains (some_state x) state) k.is_last y)) k.committed),
)

shows_so : (initial : List Id) (h : History) (n : Id) (act : Act) (o : Outcome) → IsLegal initial (Next h n act o) → ShowsSo n (last_published (node_history h n)) (Next h n act o) o
shows_so initial h n act (Answered (Taken (Some (CommitMessage c)) w)) l = shows_commit n (node_history h n) _ c w (commits_in initial h n act c w l)
shows_so initial h n act o l = ((λ count. refl), (λ state x. none_of state x))

act_shows : (initial : List Id) (h : History) (x : ActShown) (p : IsSound initial h (Did x)) → ShowsSo x.node (last_published (node_history h x.node)) (history_shown_by h (Did x)) p.right.outcome
act_shows initial h x p =
    let r = p.right in
    subst (λ (o : Outcome). ShowsSo x.node (last_published (node_history h x.node)) (Next h x.node x.act o) r.outcome) (sym r.tells)
    (shows_so initial h x.node x.act r.outcome (subst (λ (o : Outcome). IsLegal initial (Next h x.node x.act o)) r.tells p.behind))

step_commit : (initial : List Id) (h : History) (x : TracePart) → IsSound initial h x → ShowsCommit x
step_commit initial h (Did x) p =
    let r = p.right in
    ap (λ (y : Option NumberedMessage). if_commit (message_in y)) (ap (λ (y : ActShown). y.sends) r.is_shown)
    ∙ (act_shows initial h x p).0 _
    ∙ ap (λ (y : Option ClusterState). commit_of x.node y) (ap (λ (y : ActShown). y.committed) (sym r.is_shown))
step_commit initial h other p = tt

pub all_commits : (initial : List Id) (h : History) (xs : List TracePart) → Along (IsSound initial) h xs → AllByRecursion ShowsCommit xs
all_commits initial h [] a = tt
all_commits initial h (x ∷ xs) a = (step_commit initial h x a.0, all_commits initial (history_shown_by h x) xs a.1)

step_committed : (initial : List Id) (h : History) (x : TracePart) → IsSound initial h x → (state : ClusterState) → Contains (state_in x) state → HasCommitted (history_shown_by h x) state
step_committed initial h (Did x) p state c =
    (act_shows initial h x p).1 state (subst (λ (y : Option ClusterState). Contains (some_state y) state) (ap (λ (y : ActShown). y.committed) p.right.is_shown) c)
step_committed initial h other p state c = none_of state c

-- ---- what is committed stays committed

committed_by : (g h : History) (state : ClusterState) → ((p : Published) → Contains (published g) p → Contains (published h) p) → ((m : Message) → Contains (sent g) m → Contains (sent h) m) → HasCommitted g state → HasCommitted h state
committed_by g h state more sends k = record { as_published = k.as_published; is_committed = (more _ k.is_committed.0, sends _ k.is_committed.1); is_state = k.is_state }

opened_publications : (initial : List Id) (h : History) (n : Id) (k : Bool) → IsLegal initial h → published h ≡ published (settled_for n k h) ++ []
opened_publications initial h n k l = sym (append-nil (published (settled_for n k h)) ∙ settled_publications initial h n k l)

opened_messages : (h : History) (n : Id) (k : Bool) → sent h ≡ sent (settled_for n k h) ++ []
opened_messages h n k = sym (append-nil (sent (settled_for n k h)) ∙ settled_sent n k h)

step_stays : (initial : List Id) (h : History) (x : TracePart) → IsSound initial h x → (state : ClusterState) → HasCommitted h state → HasCommitted (history_shown_by h x) state
step_stays initial h (Did x) p state k = committed_by h (history_shown_by h (Did x)) state (λ q c. Contains-append_left (published h) _ q c) (λ m c. Contains-append_left (sent h) _ m c) k
step_stays initial h (Opened n found) p state k =
    committed_by h (history_shown_by h (Opened n found)) state (λ q c. subst (λ (l : List Published). Contains l q) (opened_publications initial h n _ p.before) c)
    (λ m c. subst (λ (l : List Message). Contains l m) (opened_messages h n _) c) k
step_stays initial h (Echo l) p state k = k
step_stays initial h (WasDown n) p state k = k
step_stays initial h (WasUp n) p state k = k
step_stays initial h (WentDown n) p state k = k
step_stays initial h (DiskFailed n) p state k = k
step_stays initial h Unsent p state k = k

stays : (initial : List Id) (h : History) (xs : List TracePart) → Along (IsSound initial) h xs → (state : ClusterState) → HasCommitted h state → HasCommitted (history_shown_from h xs) state
stays initial h [] a state k = k
stays initial h (x ∷ xs) a state k = stays initial (history_shown_by h x) xs a.1 state (step_stays initial h x a.0 state k)

pub all_committed : (initial : List Id) (h : History) (xs : List TracePart) → Along (IsSound initial) h xs → (state : ClusterState) → Contains (states_of xs) state → HasCommitted (history_shown_from h xs) state
all_committed initial h [] a state c = none_of state c
all_committed initial h (x ∷ xs) a state c = from (Contains-append_cases (state_in x) (states_of xs) state c) (all_committed initial (history_shown_by h x) xs a.1 state)
  where
    from : Contains (state_in x) state ⊎ Contains (states_of xs) state → (Contains (states_of xs) state → HasCommitted (history_shown_from h (x ∷ xs)) state) → HasCommitted (history_shown_from h (x ∷ xs)) state
    from (inl d) rest = stays initial (history_shown_by h x) xs a.1 state (step_committed initial h x a.0 state d)
    from (inr d) rest = rest d

-- ---- each commit is shown

-- a state of this id is shown as committed
pub record IsShown (xs : List TracePart) (c : ApplyCommit) : Type 0 where
  pub state : ClusterState
  pub is_in : Contains (states_of xs) state
  pub has_version : state.version ≡ c.version

sent_by_is : (o : Outcome) (m : Message) → Contains (sent_by o) m → (flag : Bool) × (o ≡ ok (Some m) flag)
sent_by_is (Answered (Taken (Some n) w)) m c = (w, ap (λ (x : Message). ok (Some x) w) (one_of n m c))
sent_by_is o m c = none_of m c

commit_shown : (n : Id) (published : Option ClusterState) (c : ApplyCommit) → Some (CommitMessage c) ≡ commit_of n published → (state : ClusterState) × Contains (some_state published) state × (state.version ≡ c.version)
commit_shown n None c e = cc
commit_shown n (Some state) c e = (state, (0, (omega arith), refl), (cc))

act_commit : (initial : List Id) (h : History) (x : ActShown) (c : ApplyCommit) → IsSound initial h (Did x) → (o : Outcome) → x ≡ act_shown (length (sent h)) (last_published (node_history h x.node)) x.node x.act o → Contains (sent_by o) (CommitMessage c)
    → (state : ClusterState) × Contains (state_in (Did x)) state × (state.version ≡ c.version)
act_commit initial h x c p o is m =
    let s = sent_by_is o (CommitMessage c) m in
    let sends : if_commit (message_in x.sends) ≡ Some (CommitMessage c) =
    ap (λ (y : ActShown). if_commit (message_in y.sends)) is ∙ ap (λ (o : Outcome). if_commit (message_in (message_sent (length (sent h) + 1) o))) s.1 in
    commit_shown x.node x.committed c (sym sends ∙ step_commit initial h (Did x) p)

-- a commit that was sent was sent before, or its state is shown
step_shows : (initial : List Id) (h : History) (x : TracePart) (c : ApplyCommit) → IsSound initial h x → Contains (sent (history_shown_by h x)) (CommitMessage c)
    → Contains (sent h) (CommitMessage c) ⊎ ((state : ClusterState) × Contains (state_in x) state × (state.version ≡ c.version))
step_shows initial h (Did x) c p m = from (Contains-append_cases (sent h) _ (CommitMessage c) m)
  where
    from : Contains (sent h) (CommitMessage c) ⊎ Contains (sent_by (outcome_shown x.ending x.won x.sends)) (CommitMessage c)
        → Contains (sent h) (CommitMessage c) ⊎ ((state : ClusterState) × Contains (state_in (Did x)) state × (state.version ≡ c.version))
    from (inl k) = inl k
    from (inr k) = inr (act_commit initial h x c p p.right.outcome p.right.is_shown (subst (λ (o : Outcome). Contains (sent_by o) (CommitMessage c)) p.right.tells k))
step_shows initial h (Opened n found) c p m = inl (subst (λ (l : List Message). Contains l (CommitMessage c)) (sym (opened_messages h n _)) m)
step_shows initial h (Echo l) c p m = inl m
step_shows initial h (WasDown n) c p m = inl m
step_shows initial h (WasUp n) c p m = inl m
step_shows initial h (WentDown n) c p m = inl m
step_shows initial h (DiskFailed n) c p m = inl m
step_shows initial h Unsent c p m = inl m

pub all_shown : (initial : List Id) (h : History) (xs : List TracePart) (c : ApplyCommit) → Along (IsSound initial) h xs → Contains (sent (history_shown_from h xs)) (CommitMessage c) → Contains (sent h) (CommitMessage c) ⊎ IsShown xs c
all_shown initial h [] c a m = inl m
all_shown initial h (x ∷ xs) c a m = from (all_shown initial (history_shown_by h x) xs c a.1 m)
  where
    here : Contains (sent h) (CommitMessage c) ⊎ ((state : ClusterState) × Contains (state_in x) state × (state.version ≡ c.version)) → Contains (sent h) (CommitMessage c) ⊎ IsShown (x ∷ xs) c
    here (inl k) = inl k
    here (inr k) = inr (record { state = k.0; is_in = Contains-append_left (state_in x) (states_of xs) k.0 k.1; has_version = k.2 })

    from : Contains (sent (history_shown_by h x)) (CommitMessage c) ⊎ IsShown xs c → Contains (sent h) (CommitMessage c) ⊎ IsShown (x ∷ xs) c
    from (inl k) = here (step_shows initial h x c a.0 k)
    from (inr k) = inr (record { state = k.state; is_in = Contains-append_right (state_in x) (states_of xs) k.state k.is_in; has_version = k.has_version })
