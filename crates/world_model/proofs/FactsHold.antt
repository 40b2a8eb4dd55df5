-- A system whose acts are those of a history has the facts that the argument for agreement uses.
use Rattle.std.proofs.Common.{◌≡◌, ◌≢◌, ℕ, ◌≤◌, ◌<◌, Bool, true, false, cond, Option, Some, List, [], ◌∷◌, refl, sym, ◌∙◌, ap, subst, subst₂, arith, ◌⊎◌, inl, inr}
use Rattle.std.proofs.lemmas.Bool.{both_ways, cases_order, and_parts}
use Rattle.voting_config.specs.Ids.{Id, with_id}
use Rattle.cluster_state.specs.declared.state.ClusterState.{ClusterState}
use Rattle.cluster_state.specs.declared.messages.Join.{Join}
use Rattle.cluster_state.specs.declared.messages.PublishRequest.{PublishRequest}
use Rattle.world_model.specs.Acts.{Act, Outcome, NodeHistory, Message, Bootstrap, StartJoin, TakeJoin, Value, Publish, Response, Commit, Open, Then, Taken, Answered, JoinMessage, PublishMessage, CommitMessage, source_of, is_ok, wins}
use Rattle.world_model.specs.NodeState.{term_of, accepted_of, committed_of, join_votes_of, empty_state}
use Rattle.world_model.specs.Replies.{IsOutcome}
use Rattle.world_model.specs.Safety.{IsIdAtMost}
use Rattle.world_model.proofs.Guards.{boot_guard, start_guard, value_guard, publish_guard, response_guard, commit_guard}
use Rattle.world_model.proofs.Moments.{Begins, begins_as, begins_self, begins_before, IsSent}
use Rattle.world_model.proofs.System.{IsSystem, execution_before, sent_at, origin}
use Rattle.world_model.proofs.Durable.{IsPublishedIn, IsAcceptedIn, IsHeldIn, accepted_origin, accepted_below, committed_origin}
use Rattle.world_model.proofs.Joins.{Took, join_once, join_carries}
use Rattle.world_model.proofs.Rounds.{ok, won_starts, WonAt, won_later, VotedIn, votes_are_joins, WonIn, won_has_win}
use Rattle.world_model.proofs.Below.{root_below_wins}
use Rattle.world_model.proofs.Elected.{Winning, winning, Valuing, valuing, valuing_at, win_once, value_once, value_gap, value_above_win}
use Rattle.std.specs.Prelude.{Contains}
use Rattle.world_model.specs.Histories.{IsPrefix, History, node_history, sent}
use Rattle.world_model.specs.Safety.{Published, published, published_by}
use Rattle.world_model.proofs.Facts.{Election, elected_by, elections, Acceptance, taken_by, took, HasJoined, HasVoted, HasSentCommit, IsPublished, IsPublishedByOther, IsOriginal, IsHeldFor, IsAlone, WinFacts, ValueFacts, CommitFacts, IsCommitOf, Facts}
use Rattle.world_model.proofs.Commits.{IsAloneIn, commit_is_value, CommitIn, commit_facts}
use Rattle.world_model.proofs.Legal.{deeds_begin, one_of, none_of, act_begins, moment, listed, is_listed, origin_source, sent_from, sent_to}

-- What the lists of a history say.

published_by_is : (q : History) (n : Id) (o : Outcome) (p : Published) → Contains (published_by q n o) p
    → (r : PublishRequest) × (flag : Bool) × (o ≡ ok (Some (PublishMessage r)) flag) × (record { publisher = n; state = r.state; parent = accepted_of (node_history q n) } ≡ p)
published_by_is q n (Answered (Taken (Some (PublishMessage r)) w)) p c = (r, w, refl, one_of _ p c)
published_by_is q n o p c = none_of p c

elected_by_is : (q : History) (n : Id) (o : Outcome) (e : Election) → Contains (elected_by q n o) e
    → (wins o ≡ true) × (record { node = n; term = term_of (node_history q n); base = accepted_of (node_history q n) } ≡ e)
elected_by_is q n o e c = from (wins o) c
  where
    from : (b : Bool) → Contains (cond b (record { node = n; term = term_of (node_history q n); base = accepted_of (node_history q n) } ∷ []) []) e
        → (b ≡ true) × (record { node = n; term = term_of (node_history q n); base = accepted_of (node_history q n) } ≡ e)
    from true c = (refl, one_of _ e c)
    from false c = none_of e c

taken_by_is : (n : Id) (a : Act) (o : Outcome) (x : Acceptance) → Contains (taken_by n a o) x
    → (r : PublishRequest) × (a ≡ Publish r) × (is_ok o ≡ true) × (record { node = n; publisher = r.source; state = r.state } ≡ x)
taken_by_is n (Publish r) o x c = from (is_ok o) refl c
  where
    from : (b : Bool) → is_ok o ≡ b → Contains (cond b (record { node = n; publisher = r.source; state = r.state } ∷ []) []) x
        → (q : PublishRequest) × (Publish r ≡ Publish q) × (is_ok o ≡ true) × (record { node = n; publisher = q.source; state = q.state } ≡ x)
    from true e c = (r, refl, e, one_of _ x c)
    from false e c = none_of x c
taken_by_is n a o x c = none_of x c

-- an outcome that was taken
ok_is : (o : Outcome) → is_ok o ≡ true → (s : Option Message) × (w : Bool) × (o ≡ ok s w)
ok_is (Answered (Taken s w)) h = (s, w, refl)
ok_is o h = cc

-- only a join wins
win_is_join : (me : Id) (g : NodeHistory) (a : Act) (o : Outcome) → IsOutcome me g a o → wins o ≡ true → (j : Join) × (s : Option Message) × (w : Bool) × (a ≡ TakeJoin j) × (o ≡ ok s w) × (w ≡ true)
win_is_join me g (TakeJoin j) (Answered (Taken s w)) f h = (j, s, w, refl, refl, h)
win_is_join me g (Bootstrap c) (Answered (Taken s w)) f h = absurd (both_ways _ (boot_guard me g c s w f).flag h)
win_is_join me g (StartJoin c t) (Answered (Taken s w)) f h = absurd (both_ways _ (start_guard me g c t s w f).flag h)
win_is_join me g (Value v c x) (Answered (Taken s w)) f h = absurd (both_ways _ (value_guard me g v c x s w f).flag h)
win_is_join me g (Publish r) (Answered (Taken s w)) f h = absurd (both_ways _ (publish_guard me g r s w f).flag h)
win_is_join me g (Response r) (Answered (Taken s w)) f h = absurd (both_ways _ (response_guard me g r s w f).flag h)
win_is_join me g (Commit c) (Answered (Taken s w)) f h = absurd (both_ways _ (commit_guard me g c s w f).flag h)
win_is_join me g (Open found) (Answered (Taken s w)) f h = cc
win_is_join me g a o f h = cc

-- an election of the history, with its moment
pub record ElectionAt (h : History) (n : Id) (e : Election) : Type 0 where
  pub before : NodeHistory
  pub won : WonAt before (node_history h n)
  pub is : record { node = n; term = term_of before; base = accepted_of before } ≡ e

-- a published state of the history, with its moment
pub record PublishedAt (h : History) (root : ClusterState) (n : Id) (p : Published) : Type 0 where
  pub request : PublishRequest
  pub valuing : Valuing (node_history h) root n request
  pub is : record { publisher = n; state = request.state; parent = accepted_of valuing.before } ≡ p

-- an acceptance of the history, with its publication
pub record TookAt (h : History) (x : Acceptance) : Type 0 where
  pub request : PublishRequest
  pub took : Took (node_history h x.node) request
  pub is : record { node = x.node; publisher = request.source; state = request.state } ≡ x

module _ (h : History) (root : ClusterState) (W : IsSystem (node_history h) root) where
  election_at : (e : Election) → Contains (elections h) e → ElectionAt h e.node e
  election_at e c =
      let l = listed elections (λ p n a o. elected_by p n o) refl (λ p n a o. refl) h e c in
      let x = elected_by_is l.before l.node l.outcome e l.adds in
      let b = act_begins _ _ _ _ _ l.is_in in
      let f = execution_before (node_history h) root l.node _ (node_history h l.node) (W l.node) b in
      let j = win_is_join l.node (node_history l.before l.node) l.act l.outcome f.1.follows.follows x.0 in
      subst (λ (y : Election). ElectionAt h y.node y) x.1
      (record {
        before = node_history l.before l.node;
        won = record { join = j.0; sends = j.1; flag = j.2; is_in = begins_as (node_history l.before l.node) (node_history h l.node) l.act (TakeJoin j.0) l.outcome (ok j.1 j.2) j.3 j.4 b; is_win = j.5 };
        is = refl;
      })

  pub election_to : (n : Id) (b : NodeHistory) → WonAt b (node_history h n) → Contains (elections h) (record { node = n; term = term_of b; base = accepted_of b })
  election_to n b w =
      let m = moment h n b (TakeJoin w.join) (ok w.sends w.flag) w.is_in in
      let e : Election = record { node = n; term = term_of b; base = accepted_of b } in
      is_listed elections (λ p n a o. elected_by p n o) refl (λ p n a o. refl) h e m.before n (TakeJoin w.join) (ok w.sends w.flag) m.is_in
      (subst (λ (g : NodeHistory). Contains (cond w.flag (record { node = n; term = term_of g; base = accepted_of g } ∷ []) []) e) (sym m.deeds_are)
      (subst (λ (t : Bool). Contains (cond t (e ∷ []) []) e) (sym w.is_win) (0, (omega arith), refl)))

  published_at : (p : Published) → Contains (published h) p → PublishedAt h root p.publisher p
  published_at p c =
      let l = listed published (λ p n a o. published_by p n o) refl (λ p n a o. refl) h p c in
      let x = published_by_is l.before l.node l.outcome p l.adds in
      let b = subst (λ (o : Outcome). Begins (Then (node_history l.before l.node) l.act o) (node_history h l.node)) x.2 (act_begins _ _ _ _ _ l.is_in) in
      let f = execution_before (node_history h) root l.node _ (node_history h l.node) (W l.node) b in
      let v = valuing_at (node_history h) root W l.node (node_history l.before l.node) l.act x.0 x.1 b (origin l.node (node_history l.before l.node) l.act (PublishMessage x.0) x.1 f.1.follows.follows) in
      subst (λ (y : Published). PublishedAt h root y.publisher y) x.3 (here l.node x.0 (node_history l.before l.node) v)
    where
      here : (n : Id) (r : PublishRequest) (g : NodeHistory) → (v : Valuing (node_history h) root n r) × (v.before ≡ g) → PublishedAt h root n (record { publisher = n; state = r.state; parent = accepted_of g })
      here n r g v = record { request = r; valuing = v.0; is = ap (λ (x : NodeHistory). record { publisher = n; state = r.state; parent = accepted_of x }) v.1 }

  published_to : (n : Id) (r : PublishRequest) (v : Valuing (node_history h) root n r) → Contains (published h) (record { publisher = n; state = r.state; parent = accepted_of v.before })
  published_to n r v =
      let m = moment h n v.before _ _ v.is_in in
      let p : Published = record { publisher = n; state = r.state; parent = accepted_of v.before } in
      is_listed published (λ p n a o. published_by p n o) refl (λ p n a o. refl) h p m.before n _ _ m.is_in
      (subst (λ (g : NodeHistory). Contains (record { publisher = n; state = r.state; parent = accepted_of g } ∷ []) p) (sym m.deeds_are) (0, (omega arith), refl))

  took_at : (x : Acceptance) → Contains (took h) x → TookAt h x
  took_at x c =
      let l = listed took (λ p n a o. taken_by n a o) refl (λ p n a o. refl) h x c in
      let y = taken_by_is l.node l.act l.outcome x l.adds in
      let o = ok_is l.outcome y.2 in
      subst (TookAt h) y.3
      (record {
        request = y.0;
        took = record { before = node_history l.before l.node; sends = o.0; flag = o.1; is_in = begins_as (node_history l.before l.node) (node_history h l.node) l.act (Publish y.0) l.outcome (ok o.0 o.1) y.1 o.2 (act_begins _ _ _ _ _ l.is_in) };
        is = refl;
      })

  took_to : (n : Id) (r : PublishRequest) → Took (node_history h n) r → Contains (took h) (record { node = n; publisher = r.source; state = r.state })
  took_to n r t =
      let m = moment h n t.before (Publish r) (ok t.sends t.flag) t.is_in in
      is_listed took (λ p n a o. taken_by n a o) refl (λ p n a o. refl) h _ m.before n (Publish r) (ok t.sends t.flag) m.is_in (0, (omega arith), refl)

  -- Words of the system, as words of the history.

  original : (s : ClusterState) → IsAcceptedIn (node_history h) root s → s.config ≢ [] → IsOriginal h root s
  original s (inl e) named = absurd (named (ap (λ (x : ClusterState). x.config) e))
  original s (inr (inl e)) named = inl e.0
  original s (inr (inr p)) named =
      inr (record {
        as_published = _;
        is_in = published_to p.request.source p.request (valuing (node_history h) root W p.request.source p.request p.is_sent);
        is_state = p.is_state;
      })

  held : (s : ClusterState) (k : List Id) → (s ≡ empty_state) ⊎ IsHeldIn (node_history h) root s k → s.config ≢ [] → IsHeldFor h root s k
  held s k (inl e) named = absurd (named (ap (λ (x : ClusterState). x.config) e))
  held s k (inr (inl e)) named = inl e
  held s k (inr (inr e)) named = inr (e.0, from e.1)
    where
      from : (s ≡ root) ⊎ ((n : Id) × IsSent (node_history h n) (CommitMessage (record { source = n; term = s.term; version = s.version }))) → (s ≡ root) ⊎ ((n : Id) × HasSentCommit h n s.term s.version)
      from (inl i) = inl i
      from (inr i) = inr (i.0, sent_to h i.0 _ i.1)

  joined : (m n : Id) (t : ℕ) (s : ClusterState) → VotedIn (node_history h) m n t s → HasVoted h m n t s
  joined m n t s v = record { joined = record { join = v.join; is_sent = sent_to h m _ v.is_sent; has_source = v.has_source; has_target = v.has_target; has_term = v.has_term }; not_above = v.not_above }

  -- a message of the history was sent by the node that it names
  sent_source : (m : Message) → Contains (sent h) m → IsSent (node_history h (source_of m)) m
  sent_source m c =
      let s = sent_from h m c in
      let at = sent_at (node_history h) root s.0 (node_history h s.0) m (W s.0) s.1 in
      subst (λ (k : Id). IsSent (node_history h k) m) (sym (origin_source s.0 at.before at.act m at.origin_is)) s.1

  facts_join_once : (j k : Join) → Contains (sent h) (JoinMessage j) → Contains (sent h) (JoinMessage k) → j.source ≡ k.source → j.term ≡ k.term → j.target ≡ k.target
  facts_join_once j k c d e t =
      join_once (node_history h) root W j.source j k (sent_source (JoinMessage j) c) (subst (λ (n : Id). IsSent (node_history h n) (JoinMessage k)) (sym e) (sent_source (JoinMessage k) d)) t

  facts_join_carries : (a : Acceptance) (j : Join) → Contains (took h) a → Contains (sent h) (JoinMessage j) → a.node ≡ j.source → a.state.term < j.term → IsIdAtMost a.state.term a.state.version j.last_term j.last_version
  facts_join_carries a j c d e less =
      let at = took_at a c in
      let same : at.request.state ≡ a.state = ap (λ (x : Acceptance). x.state) at.is in
      subst (λ (s : ClusterState). IsIdAtMost s.term s.version j.last_term j.last_version) same
      (join_carries (node_history h) root W a.node at.request j at.took (subst (λ (n : Id). IsSent (node_history h n) (JoinMessage j)) (sym e) (sent_source (JoinMessage j) d))
      (subst (λ (s : ClusterState). s.term < j.term) (sym same) less))

  facts_win_once : (e f : Election) → Contains (elections h) e → Contains (elections h) f → e.node ≡ f.node → e.term ≡ f.term → e ≡ f
  facts_win_once e f c d n t =
      let a = election_at e c in
      let b = subst (λ (k : Id). ElectionAt h k f) (sym n) (election_at f d) in
      let one = win_once (node_history h) root W e.node a.before b.before a.won b.won (ap (λ (x : Election). x.term) a.is ∙ t ∙ sym (ap (λ (x : Election). x.term) b.is)) in
      sym a.is ∙ ap (λ (g : NodeHistory). record { node = e.node; term = term_of g; base = accepted_of g }) one ∙ b.is

  facts_value_once : (p q : Published) → Contains (published h) p → Contains (published h) q → p.publisher ≡ q.publisher → p.state.term ≡ q.state.term → p.state.version ≡ q.state.version → p ≡ q
  facts_value_once p q c d n t v =
      let a = published_at p c in
      let b = subst (λ (k : Id). PublishedAt h root k q) (sym n) (published_at q d) in
      let one = value_once (node_history h) root W p.publisher a.request b.request a.valuing b.valuing
      (ap (λ (x : Published). x.state.term) a.is ∙ t ∙ sym (ap (λ (x : Published). x.state.term) b.is))
      (ap (λ (x : Published). x.state.version) a.is ∙ v ∙ sym (ap (λ (x : Published). x.state.version) b.is)) in
      sym a.is ∙ (λ i. record { publisher = p.publisher; state = (one.1 i).state; parent = accepted_of (one.0 i) }) ∙ b.is

  facts_value_gap : (p q : Published) → Contains (published h) p → Contains (published h) q → p.publisher ≡ q.publisher → p.state.term ≡ q.state.term → q.state.version < p.state.version
      → (p.parent.term ≡ p.state.term) × (q.state.version ≤ p.parent.version)
  facts_value_gap p q c d n t less =
      let a = published_at p c in
      let b = subst (λ (k : Id). PublishedAt h root k q) (sym n) (published_at q d) in
      let same_q : b.request.state ≡ q.state = ap (λ (x : Published). x.state) b.is in
      subst (λ (x : Published). (x.parent.term ≡ x.state.term) × (q.state.version ≤ x.parent.version)) a.is
      (subst (λ (s : ClusterState). ((accepted_of a.valuing.before).term ≡ a.request.state.term) × (s.version ≤ (accepted_of a.valuing.before).version)) same_q
      (value_gap (node_history h) root W p.publisher a.request b.request a.valuing b.valuing
      (ap (λ (x : Published). x.state.term) a.is ∙ t ∙ sym (ap (λ (x : Published). x.state.term) b.is))
      (subst₂ (λ (x : ClusterState) (y : ClusterState). x.version < y.version) (sym same_q) (sym (ap (λ (x : Published). x.state) a.is)) less)))

  facts_commit_is_value : (node : Id) (term version : ℕ) → HasSentCommit h node term version → IsCommitOf h node term version
  facts_commit_is_value node term version c =
      let v = commit_is_value (node_history h) root W node _ (sent_source _ c) in
      record {
        as_published = _;
        is_in = published_to node v.request (valuing (node_history h) root W node v.request v.is_sent);
        has_publisher = refl;
        has_term = v.term_is;
        has_version = v.version_is;
      }

  facts_commit_facts : (node : Id) (term version : ℕ) → HasSentCommit h node term version → IsAlone h node term → CommitFacts h node term version
  facts_commit_facts node term version c alone = from (commit_facts (node_history h) root W node (node_history h node) (W node) (begins_self (node_history h node)) _ (sent_source _ c) alone_in)
    where
      alone_in : IsAloneIn (node_history h) node term
      alone_in k r s e = alone _ (published_to k r (valuing (node_history h) root W k r s)) e

      from : CommitIn (node_history h) node term version → CommitFacts h node term version
      from v =
          let source = (sent_at (node_history h) root node (node_history h node) (PublishMessage v.request) (W node) v.is_sent).origin_is.source_is in
          record {
            as_published = _;
            is_in = published_to node v.request (valuing (node_history h) root W node v.request v.is_sent);
            has_publisher = refl;
            has_term = v.term_is;
            has_version = v.version_is;
            acks = v.acks;
            config_quorum = v.config_quorum;
            committed_quorum = v.committed_quorum;
            took_it = λ m k. subst (λ (n : Id). Contains (took h) (record { node = m; publisher = n; state = v.request.state })) source (took_to m v.request (v.took_it m k));
          }

module _ (h : History) (root : ClusterState) (W : IsSystem (node_history h) root) where
  -- the state on which a win was: of an earlier term, or published by another node
  win_older : (n : Id) (b : NodeHistory) → WonAt b (node_history h n) → Winning (node_history h) root n b → ((accepted_of b).term < term_of b) ⊎ (((accepted_of b).term ≡ term_of b) × IsPublishedByOther h n (accepted_of b))
  win_older n b won w = from (accepted_origin (node_history h) root W n b w.execution) (accepted_below (node_history h) root W n b w.execution) (cases_order (accepted_of b).term (term_of b))
    where
      other : (accepted_of b).term ≡ term_of b → IsPublishedIn (node_history h) (accepted_of b) → IsPublishedByOther h n (accepted_of b)
      other e p =
          record {
            as_published = _;
            is_in = published_to h root W p.request.source p.request (valuing (node_history h) root W p.request.source p.request p.is_sent);
            is_state = p.is_state;
            is_other = λ s.
                let version : p.request.state.version ≡ (accepted_of b).version = ap (λ (x : ClusterState). x.version) p.is_state in
                let term : p.request.state.term ≡ (accepted_of b).term = ap (λ (x : ClusterState). x.term) p.is_state in
                let more = value_above_win (node_history h) root W n b p.request won (subst (λ (k : Id). IsSent (node_history h k) (PublishMessage p.request)) s p.is_sent) (term ∙ e) in
                absurd (omega arith);
          }

      from : IsAcceptedIn (node_history h) root (accepted_of b) → (accepted_of b).term ≤ term_of b → ((accepted_of b).term ≡ term_of b) ⊎ (((accepted_of b).term < term_of b) ⊎ (term_of b < (accepted_of b).term))
          → ((accepted_of b).term < term_of b) ⊎ (((accepted_of b).term ≡ term_of b) × IsPublishedByOther h n (accepted_of b))
      from a below (inr (inl less)) = inl less
      from a below (inr (inr more)) = absurd (omega arith)
      from (inl a) below (inl e) = absurd (w.guard.named (ap (λ (x : ClusterState). x.config) a))
      from (inr (inl a)) below (inl e) =
          let term : (accepted_of b).term ≡ root.term = ap (λ (x : ClusterState). x.term) a.0 in
          let less = root_below_wins (node_history h) root W n b won in
          absurd (omega arith)
      from (inr (inr p)) below (inl e) = inr (e, other e p)

  facts_win_facts : (e : Election) → Contains (elections h) e → WinFacts h root e
  facts_win_facts e c =
      let at = election_at h root W e c in
      subst (WinFacts h root) at.is (from e.node at.before at.won (winning (node_history h) root W e.node at.before at.won))
    where
      from : (n : Id) (b : NodeHistory) → WonAt b (node_history h n) → Winning (node_history h) root n b → WinFacts h root (record { node = n; term = term_of b; base = accepted_of b })
      from n b won w =
          let quorums = and_parts _ _ w.quorums in
          record {
            committed = committed_of b;
            votes = with_id w.join.source (join_votes_of b);
            accepted_quorum = quorums.1;
            committed_quorum = quorums.0;
            voted = λ m k. joined h root W m n (term_of b) (accepted_of b)
                (votes_are_joins (node_history h) root W n (Then b (TakeJoin w.join) (ok w.sends w.flag)) w.now (record { runs = w.guard.runs; alive = refl }) w.guard.started m k);
            original = original h root W (accepted_of b) (accepted_origin (node_history h) root W n b w.execution) w.guard.named;
            older = win_older n b won w;
            held = held h root W (accepted_of b) (committed_of b) (committed_origin (node_history h) root W n b w.execution) w.guard.named;
          }

  facts_value_facts : (p : Published) → Contains (published h) p → ValueFacts h root p
  facts_value_facts p c =
      let at = published_at h root W p c in
      subst (ValueFacts h root) at.is (from p.publisher at.request at.valuing (won_has_win (node_history h) root W p.publisher at.valuing.before at.valuing.execution at.valuing.up at.valuing.by.won))
    where
      from : (n : Id) (r : PublishRequest) (v : Valuing (node_history h) root n r) → WonIn v.before (term_of v.before) (accepted_of v.before)
          → ValueFacts h root (record { publisher = n; state = r.state; parent = accepted_of v.before })
      from n r v w =
          let won = won_later w.before v.before (node_history h n) (begins_before _ _ _ _ v.is_in) w.won in
          let below = accepted_below (node_history h) root W n v.before v.execution in
          let above = root_below_wins (node_history h) root W n w.before won in
          record {
            election = record { node = n; term = term_of w.before; base = accepted_of w.before };
            votes = join_votes_of v.before;
            is_election = election_to h root W n w.before won;
            same_node = refl;
            same_term = w.same_term ∙ sym v.by.term_is;
            follows = follows w.follows;
            quorum = v.by.quorum;
            joined = λ m k.
                let vote = joined h root W m n (term_of v.before) (accepted_of v.before) (votes_are_joins (node_history h) root W n v.before v.execution v.up (won_starts (node_history h) root n v.before v.execution v.by.won) m k) in
                subst (HasJoined h m n) (sym v.by.term_is) vote.joined;
            version_grows = omega (arith, v.by.settled, v.by.above);
            term_grows = omega (arith, v.by.term_is);
            original = original h root W (accepted_of v.before) (accepted_origin (node_history h) root W n v.before v.execution) w.named;
            held = subst (IsHeldFor h root (accepted_of v.before)) (sym v.by.committed_is) (held h root W (accepted_of v.before) (committed_of v.before) (committed_origin (node_history h) root W n v.before v.execution) w.named);
            one_change = change v.by.steady;
            above_root = omega (arith, v.by.term_is, w.same_term);
          }
        where
          follows : (accepted_of v.before ≡ accepted_of w.before) ⊎ ((accepted_of v.before).term ≡ term_of v.before) → (accepted_of v.before ≡ accepted_of w.before) ⊎ ((accepted_of v.before).term ≡ r.state.term)
          follows (inl e) = inl e
          follows (inr e) = inr (e ∙ sym v.by.term_is)

          change : (r.state.config ≡ (accepted_of v.before).config) ⊎ (committed_of v.before ≡ (accepted_of v.before).config) → (r.state.config ≡ (accepted_of v.before).config) ⊎ (r.state.committed ≡ (accepted_of v.before).config)
          change (inl e) = inl e
          change (inr e) = inr (v.by.committed_is ∙ e)

  -- what a node has accepted at some moment is not above root, or published
  pub accepted_known : (n : Id) (p : History) → IsPrefix p h → ((accepted_of (node_history p n)).term ≤ root.term) ⊎ IsPublished h (accepted_of (node_history p n))
  accepted_known n p i = from (accepted_origin (node_history h) root W n (node_history p n) (execution_before (node_history h) root n (node_history p n) (node_history h n) (W n) (deeds_begin p h n i)))
    where
      from : IsAcceptedIn (node_history h) root (accepted_of (node_history p n)) → ((accepted_of (node_history p n)).term ≤ root.term) ⊎ IsPublished h (accepted_of (node_history p n))
      from (inl e) = let term : (accepted_of (node_history p n)).term ≡ 0 = ap (λ (s : ClusterState). s.term) e in inl (omega arith)
      from (inr (inl e)) = let term : (accepted_of (node_history p n)).term ≡ root.term = ap (λ (s : ClusterState). s.term) e.0 in inl (omega arith)
      from (inr (inr k)) =
          inr (record {
            as_published = _;
            is_in = published_to h root W k.request.source k.request (valuing (node_history h) root W k.request.source k.request k.is_sent);
            is_state = k.is_state;
          })

  pub facts_of_system : Facts h root
  facts_of_system = record {
    join_once = facts_join_once h root W;
    join_carries = facts_join_carries h root W;
    win_facts = facts_win_facts;
    win_once = facts_win_once h root W;
    value_facts = facts_value_facts;
    value_once = facts_value_once h root W;
    value_gap = facts_value_gap h root W;
    commit_is_value = facts_commit_is_value h root W;
    commit_facts = facts_commit_facts h root W;
  }
