-- What the sender of a commit had: the accepted state and the committed configuration of a publisher, and its acknowledgements.
use Rattle.std.proofs.Common.{◌≡◌, ℕ, ◌≤◌, ◌<◌, Bool, true, false, cond, ◌||◌, Option, Some, List, refl, sym, ◌∙◌, ap, subst, arith, ◌⊎◌, inl, inr}
use Rattle.std.proofs.lemmas.Bool.{cases_order, and_parts, not-true}
use Rattle.voting_config.specs.Ids.{Id, has, with_id, is_quorum_of}
use Rattle.cluster_state.specs.declared.state.ClusterState.{ClusterState}
use Rattle.cluster_state.specs.declared.state.ClusterValue.{ClusterValue}
use Rattle.cluster_state.specs.declared.messages.Join.{Join}
use Rattle.cluster_state.specs.declared.messages.PublishRequest.{PublishRequest}
use Rattle.cluster_state.specs.declared.messages.PublishResponse.{PublishResponse}
use Rattle.cluster_state.specs.declared.messages.ApplyCommit.{ApplyCommit}
use Rattle.world_model.specs.Acts.{Act, Outcome, NodeHistory, Message, TakeJoin, Value, Publish, Response, Commit, NoActs, Then, Taken, Answered, PublishMessage, ResponseMessage, CommitMessage}
use Rattle.world_model.specs.NodeState.{NodeState, node_state, term_of, accepted_of, committed_of, started_join_of, election_won_of, published_version_of, published_config_of, publish_votes_of}
use Rattle.world_model.specs.Histories.{is_opening}
use Rattle.world_model.proofs.Guards.{Joined, Valued, Accepts, Responded, Commits, response_guard}
use Rattle.world_model.proofs.Moments.{Begins, begins_self, begins_before, IsSent, sent_later, sent_cases}
use Rattle.world_model.proofs.System.{IsExecution, IsSystem, execution_before, IsUp, taken_up, PublishBy, CommitBy, sent_at, origin}
use Rattle.world_model.proofs.Joins.{Took}
use Rattle.world_model.proofs.Rounds.{ok, RoundSteps, in_round, sent_quiet, won_starts, won_later, publish_cases, WonIn, won_has_win, fresh, LastValue, last_values, other_request, acks_are_responses}
use Rattle.world_model.proofs.Elected.{Valuing, valuing, valuing_at, value_once, value_gap, value_above_win}

-- each state of this term was published by n
abbrev pub IsAloneIn : (Id → NodeHistory) → Id → ℕ → Type 0
IsAloneIn D n term = (k : Id) (r : PublishRequest) → IsSent (D k) (PublishMessage r) → r.state.term ≡ term → k ≡ n

-- the commit of r was sent by n, in g
abbrev pub SentCommit : NodeHistory → Id → PublishRequest → Type 0
SentCommit g n r = IsSent g (CommitMessage (record { source = n; term = r.state.term; version = r.state.version }))

-- what the publisher of r holds: r's parent with what r carries, or r with what it carries, or r as committed
abbrev pub Holds : (Id → NodeHistory) → ClusterState → Id → NodeHistory → ClusterState → List Id → PublishRequest → Type 0
Holds D root n g accepted committed r =
    ((v : Valuing D root n r) × (accepted ≡ accepted_of v.before) × (committed ≡ r.state.committed))
    ⊎ ((accepted ≡ r.state) × ((committed ≡ r.state.committed) ⊎ ((committed ≡ r.state.config) × SentCommit g n r)))

-- so it is for the last value of a round, where nobody else published in its term
abbrev pub HoldsLast : (Id → NodeHistory) → ClusterState → Id → NodeHistory → NodeState → Type 0
HoldsLast D root n g p =
    Begins g (D n) → IsAloneIn D n p.term → p.election_won ≡ true → (r : PublishRequest) → IsSent g (PublishMessage r) → r.state.term ≡ p.term → r.state.version ≡ p.published_version
    → Holds D root n g p.accepted p.committed r

holds_later : (D : Id → NodeHistory) (root : ClusterState) (n : Id) (g : NodeHistory) (a : Act) (o : Outcome) (accepted : ClusterState) (committed : List Id) (r : PublishRequest)
    → Holds D root n g accepted committed r → Holds D root n (Then g a o) accepted committed r
holds_later D root n g a o accepted committed r (inl h) = inl h
holds_later D root n g a o accepted committed r (inr h) = inr (h.0, from h.1)
  where
    from : (committed ≡ r.state.committed) ⊎ ((committed ≡ r.state.config) × SentCommit g n r) → (committed ≡ r.state.committed) ⊎ ((committed ≡ r.state.config) × SentCommit (Then g a o) n r)
    from (inl e) = inl e
    from (inr e) = inr (e.0, sent_later g (Then g a o) _ (inr (begins_self g)) e.1)

-- n published a state of this id
pub record IsValueOf (D : Id → NodeHistory) (n : Id) (term version : ℕ) : Type 0 where
  pub request : PublishRequest
  pub is_sent : IsSent (D n) (PublishMessage request)
  pub term_is : request.state.term ≡ term
  pub version_is : request.state.version ≡ version

-- m took a publication of n with this id
pub record TookOf (D : Id → NodeHistory) (m n : Id) (term version : ℕ) : Type 0 where
  pub request : PublishRequest
  pub is_sent : IsSent (D n) (PublishMessage request)
  pub term_is : request.state.term ≡ term
  pub version_is : request.state.version ≡ version
  pub took : Took (D m) request
  pub source_is : request.source ≡ n

module _ (D : Id → NodeHistory) (root : ClusterState) (W : IsSystem D root) where
  pub response_is_taken : (m : Id) (r : PublishResponse) → IsSent (D m) (ResponseMessage r) → TookOf D m r.target r.term r.version
  response_is_taken m r s =
      let at = sent_at D root m (D m) (ResponseMessage r) (W m) s in
      let by = at.origin_is in
      let is_in = subst (λ (a : Act). Begins (Then at.before a (ok (Some (ResponseMessage r)) at.flag)) (D m)) by.act_is at.is_in in
      let both = execution_before D root m _ (D m) (W m) is_in in
      record {
        request = by.request;
        is_sent = subst (λ (k : Id). IsSent (D k) (PublishMessage by.request)) (sym by.target_is) both.1.sourced.is_sent;
        term_is = sym by.term_is;
        version_is = sym by.version_is;
        source_is = sym by.target_is;
        took = record { before = at.before; sends = Some (ResponseMessage r); flag = at.flag; is_in = is_in };
      }

  pub commit_is_value : (n : Id) (c : ApplyCommit) → IsSent (D n) (CommitMessage c) → IsValueOf D n c.term c.version
  commit_is_value n c s =
      let at = sent_at D root n (D n) (CommitMessage c) (W n) s in
      let by = at.origin_is in
      let is_in = subst (λ (a : Act). Begins (Then at.before a (ok (Some (CommitMessage c)) at.flag)) (D n)) by.act_is at.is_in in
      let both = execution_before D root n _ (D n) (W n) is_in in
      let t = response_is_taken by.response.source by.response both.1.sourced.is_sent in
      let target : by.response.target ≡ n = ap (λ (x : PublishResponse). x.target) by.response_is in
      let term : by.response.term ≡ term_of at.before = ap (λ (x : PublishResponse). x.term) by.response_is in
      let version : by.response.version ≡ published_version_of at.before = ap (λ (x : PublishResponse). x.version) by.response_is in
      record {
        request = t.request;
        is_sent = subst (λ (k : Id). IsSent (D k) (PublishMessage t.request)) target t.is_sent;
        term_is = t.term_is ∙ term ∙ sym by.term_is;
        version_is = t.version_is ∙ version ∙ sym by.version_is;
      }

module _ (D : Id → NodeHistory) (root : ClusterState) (W : IsSystem D root) (n : Id) where
  -- where an act changes nothing of this
  hold_later : (g : NodeHistory) (a : Act) (o : Outcome) → IsExecution D root n (Then g a o) → ((v : ℕ) (c : List Id) (x : ClusterValue) → a ≡ Value v c x → ⊥) → HoldsLast D root n g (node_state g)
      → Begins (Then g a o) (D n) → IsAloneIn D n (term_of g) → election_won_of g ≡ true → (r : PublishRequest) → IsSent (Then g a o) (PublishMessage r) → r.state.term ≡ term_of g → r.state.version ≡ published_version_of g
      → Holds D root n (Then g a o) (accepted_of g) (committed_of g) r
  hold_later g a o f other i b alone h r s e d =
      let before = other_request D root W n g a o r f (λ y z. absurd (other _ _ _ y)) (λ x. x) s in
      holds_later D root n g a o (accepted_of g) (committed_of g) r (i (begins_before _ _ _ _ b) alone h r before e d)

  hold_join : (g : NodeHistory) (j : Join) (s : Option Message) (w : Bool) → IsExecution D root n (Then g (TakeJoin j) (ok s w)) → Joined n g j s w → IsUp g → started_join_of g ≡ true → HoldsLast D root n g (node_state g)
      → Begins (Then g (TakeJoin j) (ok s w)) (D n) → IsAloneIn D n (term_of g) → (w || election_won_of g) ≡ true → (r : PublishRequest) → IsSent (Then g (TakeJoin j) (ok s w)) (PublishMessage r)
      → r.state.term ≡ term_of g → r.state.version ≡ cond w (accepted_of g).version (published_version_of g) → Holds D root n (Then g (TakeJoin j) (ok s w)) (accepted_of g) (committed_of g) r
  hold_join g j s false f k u st i b alone h r x e d = hold_later g (TakeJoin j) (ok s false) f (λ v c y z. cc) i b alone h r x e d
  hold_join g j s true f k u st i b alone h r x e d =
      let lost : election_won_of g ≡ false = not-true _ (and_parts _ _ (sym k.flag)).0 in
      let before = other_request D root W n g (TakeJoin j) (ok s true) r f (λ y z. cc) (λ y. y) x in
      let less = (fresh D root W n g f.0 u st lost).1 r before in
      absurd (omega arith)

  hold_value : (g : NodeHistory) (v : ℕ) (c : List Id) (x : ClusterValue) (s : Option Message) (w : Bool) → IsExecution D root n (Then g (Value v c x) (ok s w)) → Valued n g v c x s w → IsUp g
      → Begins (Then g (Value v c x) (ok s w)) (D n) → (r : PublishRequest) → IsSent (Then g (Value v c x) (ok s w)) (PublishMessage r) → r.state.term ≡ term_of g → r.state.version ≡ v
      → Holds D root n (Then g (Value v c x) (ok s w)) (accepted_of g) (committed_of g) r
  hold_value g v c x s w f k u b r y e d = from (publish_cases D root n g _ _ r f y)
    where
      from : (PublishBy n g r (Value v c x) × ((flag : Bool) × (ok s w ≡ ok (Some (PublishMessage r)) flag))) ⊎ IsSent g (PublishMessage r) → Holds D root n (Then g (Value v c x) (ok s w)) (accepted_of g) (committed_of g) r
      from (inl h) =
          let is_in = subst (λ (o : Outcome). Begins (Then g (Value v c x) o) (D n)) h.1.1 b in
          let at = valuing_at D root W n g (Value v c x) r h.1.0 is_in h.0 in
          inl (at.0, ap accepted_of (sym at.1), sym h.0.committed_is)
      from (inr h) =
          let win = won_has_win D root W n g f.0 u k.won in
          let l = last_values D root W n g f.0 u k.won win.before win.won win.same_term in
          let q = l.within r h e in
          absurd (omega (arith, q.1, k.above))

  hold_publish : (g : NodeHistory) (x : PublishRequest) (s : Option Message) (w : Bool) → IsExecution D root n (Then g (Publish x) (ok s w)) → Accepts n g x s w → IsUp g → HoldsLast D root n g (node_state g)
      → Begins (Then g (Publish x) (ok s w)) (D n) → IsAloneIn D n (term_of g) → election_won_of g ≡ true → (r : PublishRequest) → IsSent (Then g (Publish x) (ok s w)) (PublishMessage r)
      → r.state.term ≡ term_of g → r.state.version ≡ published_version_of g → Holds D root n (Then g (Publish x) (ok s w)) x.state x.state.committed r
  hold_publish g x s w f k u i b alone h r y e d =
      let before = other_request D root W n g _ _ r f (λ a z. cc) (λ a. a) y in
      let mine = f.1.sourced.own (alone x.source x f.1.sourced.is_sent k.now) in
      let win = won_has_win D root W n g f.0 u h in
      let l = last_values D root W n g f.0 u h win.before win.won win.same_term in
      let low = l.within x mine k.now in
      from before mine (omega (arith, low.1)) (i (begins_before _ _ _ _ b) alone h r before e d)
    where
      all : (m : Message) → IsSent g m → IsSent (D n) m
      all m z = sent_later g (D n) m (begins_before _ _ _ _ b) z

      same : (p q : PublishRequest) → p ≡ q → Holds D root n (Then g (Publish x) (ok s w)) p.state p.state.committed q
      same p q z = inr (ap (λ (a : PublishRequest). a.state) z, inl (ap (λ (a : PublishRequest). a.state.committed) z))

      -- the parent is accepted: only r itself is newer
      newer : IsSent g (PublishMessage r) → IsSent g (PublishMessage x) → (v : Valuing D root n r) → accepted_of g ≡ accepted_of v.before → (x.state.version ≡ r.state.version) ⊎ ((x.state.version < r.state.version) ⊎ (r.state.version < x.state.version))
          → x.state.version ≤ r.state.version → Holds D root n (Then g (Publish x) (ok s w)) x.state x.state.committed r
      newer z a v c (inl m) low = same x r (value_once D root W n x r (valuing D root W n x (all _ a)) v (k.now ∙ sym e) m).1
      newer z a v c (inr (inl m)) low =
          let gap = value_gap D root W n r x v (valuing D root W n x (all _ a)) (e ∙ sym k.now) m in
          let term : (accepted_of g).term ≡ r.state.term = ap (λ (y : ClusterState). y.term) c ∙ gap.0 in
          let version : (accepted_of g).version ≡ (accepted_of v.before).version = ap (λ (y : ClusterState). y.version) c in
          let more = k.newer (k.now ∙ sym e ∙ sym term) in
          absurd (omega (arith, gap.1))
      newer z a v c (inr (inr m)) low = absurd (omega arith)

      from : IsSent g (PublishMessage r) → IsSent g (PublishMessage x) → x.state.version ≤ r.state.version → Holds D root n g (accepted_of g) (committed_of g) r
          → Holds D root n (Then g (Publish x) (ok s w)) x.state x.state.committed r
      from z a low (inl c) = newer z a c.0 c.1 (cases_order x.state.version r.state.version) low
      from z a low (inr c) =
          let term : (accepted_of g).term ≡ r.state.term = ap (λ (y : ClusterState). y.term) c.0 in
          let version : (accepted_of g).version ≡ r.state.version = ap (λ (y : ClusterState). y.version) c.0 in
          let more = k.newer (k.now ∙ sym e ∙ sym term) in
          absurd (omega arith)

  hold_commit : (g : NodeHistory) (c : ApplyCommit) (s : Option Message) (w : Bool) → IsExecution D root n (Then g (Commit c) (ok s w)) → Commits g c s w → IsUp g → HoldsLast D root n g (node_state g)
      → Begins (Then g (Commit c) (ok s w)) (D n) → IsAloneIn D n (term_of g) → election_won_of g ≡ true → (r : PublishRequest) → IsSent (Then g (Commit c) (ok s w)) (PublishMessage r)
      → r.state.term ≡ term_of g → r.state.version ≡ published_version_of g → Holds D root n (Then g (Commit c) (ok s w)) (accepted_of g) (accepted_of g).config r
  hold_commit g c s w f k u i b alone h r y e d =
      from (i (begins_before _ _ _ _ b) alone h r (other_request D root W n g _ _ r f (λ a z. cc) (λ a. a) y) e d)
    where
      -- the commit that was taken is the node's own
      own : accepted_of g ≡ r.state → SentCommit g n r
      own z =
          let v = commit_is_value D root W c.source c f.1.sourced.is_sent in
          let mine = alone c.source v.request v.is_sent (v.term_is ∙ k.now) in
          let term : c.term ≡ r.state.term = k.accepted_term ∙ ap (λ (x : ClusterState). x.term) z in
          let version : c.version ≡ r.state.version = k.accepted_version ∙ ap (λ (x : ClusterState). x.version) z in
          let is : c ≡ record { source = n; term = r.state.term; version = r.state.version } = commit_is c mine term version in
          subst (λ (x : ApplyCommit). IsSent g (CommitMessage x)) is (f.1.sourced.own mine)
        where
          commit_is : (c : ApplyCommit) {m : Id} {t v : ℕ} → c.source ≡ m → c.term ≡ t → c.version ≡ v → c ≡ record { source = m; term = t; version = v }
          commit_is c p q r = λ i. record { source = p i; term = q i; version = r i }

      from : Holds D root n g (accepted_of g) (committed_of g) r → Holds D root n (Then g (Commit c) (ok s w)) (accepted_of g) (accepted_of g).config r
      from (inl z) =
          let version : (accepted_of g).version ≡ (accepted_of z.0.before).version = ap (λ (x : ClusterState). x.version) z.1 in
          let settled = k.settled h in
          absurd (omega (arith, z.0.by.above, z.0.by.settled))
      from (inr z) = inr (z.0, inr (ap (λ (x : ClusterState). x.config) z.0, sent_later g _ _ (inr (begins_self g)) (own z.0)))

  hold_steps : RoundSteps D root n (HoldsLast D root n)
  hold_steps = record {
    quiet = λ g a o p k i b alone h r s e d. holds_later D root n g a o p.accepted p.committed r (i (begins_before _ _ _ _ b) alone h r (sent_quiet g a o _ k s) e d);
    starts = λ g c t s w f k b alone h. cc;
    joins = hold_join;
    values = λ g v c x s w f k u st i b alone h r y e d. hold_value g v c x s w f k u b r y e d;
    publishes = λ g x s w f k u st i b alone h r y e d. hold_publish g x s w f k u i b alone h r y e d;
    responds = λ g x s w f k u st i b alone h r y e d. hold_later g (Response x) (ok s w) f (λ v c z a. cc) i b alone h r y e d;
    commits = λ g c s w f k u st i b alone h r y e d. hold_commit g c s w f k u i b alone h r y e d;
    boots = λ g c s w f k u st i b alone h. absurd ((won_has_win D root W n g f.0 u h).named k.empty);
  }

  pub publisher_config : (g : NodeHistory) → IsExecution D root n g → IsUp g → Begins g (D n) → IsAloneIn D n (term_of g) → election_won_of g ≡ true → (r : PublishRequest) → IsSent g (PublishMessage r)
      → r.state.term ≡ term_of g → r.state.version ≡ published_version_of g → Holds D root n g (accepted_of g) (committed_of g) r
  publisher_config g f u b alone h = in_round D root n (HoldsLast D root n) hold_steps g f u (won_starts D root n g f h) b alone h

-- n published a state of this id, which a quorum of both its configurations has accepted
pub record CommitIn (D : Id → NodeHistory) (n : Id) (term version : ℕ) : Type 0 where
  pub request : PublishRequest
  pub is_sent : IsSent (D n) (PublishMessage request)
  pub term_is : request.state.term ≡ term
  pub version_is : request.state.version ≡ version
  pub acks : List Id
  pub config_quorum : is_quorum_of request.state.config acks ≡ true
  pub committed_quorum : is_quorum_of request.state.committed acks ≡ true
  pub took_it : (m : Id) → has m acks ≡ true → Took (D m) request

module _ (D : Id → NodeHistory) (root : ClusterState) (W : IsSystem D root) (n : Id) where
  -- r, which the sender of a commit published last, was taken by each node that acknowledged it
  took_last : (g : NodeHistory) (p : PublishResponse) (s : Option Message) (flag : Bool) → IsExecution D root n (Then g (Response p) (ok s flag)) → Responded n g p s flag → (r : PublishRequest) → IsSent (D n) (PublishMessage r)
      → r.state.term ≡ term_of g → r.state.version ≡ published_version_of g → (m : Id) → has m (with_id p.source (publish_votes_of g)) ≡ true → Took (D m) r
  took_last g p s flag f k r t e d m h =
      let acked = acks_are_responses D root W n (Then g (Response p) (ok s flag)) f (record { runs = k.runs; alive = refl }) (won_starts D root n g f.0 k.won) m h in
      let x = response_is_taken D root W m _ acked.1 in
      let one = value_once D root W n x.request r (valuing D root W n x.request x.is_sent) (valuing D root W n r t) (x.term_is ∙ sym e) (x.version_is ∙ sym d) in
      subst (λ (q : PublishRequest). Took (D m) q) one.1 x.took

  -- the sender of a commit has published its state, in this round and last
  is_last : (g : NodeHistory) → IsExecution D root n g → IsUp g → Begins g (D n) → election_won_of g ≡ true → (r : PublishRequest) → IsSent (D n) (PublishMessage r) → r.state.term ≡ term_of g → r.state.version ≡ published_version_of g
      → IsSent g (PublishMessage r) × (published_config_of g ≡ r.state.config)
  is_last g f u b won r t e d = from w (last_values D root W n g f u won w.before w.won w.same_term)
    where
      w : WonIn g (term_of g) (accepted_of g)
      w = won_has_win D root W n g f u won

      from : (w : WonIn g (term_of g) (accepted_of g)) → LastValue g w.before (term_of g) (published_version_of g) (published_config_of g) → IsSent g (PublishMessage r) × (published_config_of g ≡ r.state.config)
      from w l = last l.last
        where
          last : (published_version_of g ≡ (accepted_of w.before).version) ⊎ ((q : PublishRequest) × IsSent g (PublishMessage q) × (q.state.term ≡ term_of g) × (q.state.version ≡ published_version_of g) × (q.state.config ≡ published_config_of g))
              → IsSent g (PublishMessage r) × (published_config_of g ≡ r.state.config)
          last (inl z) =
              let more = value_above_win D root W n w.before r (won_later w.before g (D n) b w.won) t (e ∙ sym w.same_term) in
              absurd (omega arith)
          last (inr q) =
              let all = sent_later g (D n) (PublishMessage q.0) b q.1 in
              let one = (value_once D root W n q.0 r (valuing D root W n q.0 all) (valuing D root W n r t) (q.2 ∙ sym e) (q.3 ∙ sym d)).1 in
              (subst (λ (x : PublishRequest). IsSent g (PublishMessage x)) one q.1, sym q.4 ∙ ap (λ (x : PublishRequest). x.state.config) one)

  -- the commit that the last act sent; earlier ones are known
  commit_now : (g : NodeHistory) (c : ApplyCommit) (flag : Bool) (a : Act) → IsExecution D root n (Then g a (ok (Some (CommitMessage c)) flag)) → CommitBy n g c a → Begins (Then g a (ok (Some (CommitMessage c)) flag)) (D n)
      → IsAloneIn D n c.term → ((d : ApplyCommit) → IsSent g (CommitMessage d) → d.term ≡ c.term → CommitIn D n d.term d.version) → CommitIn D n c.term c.version
  commit_now g c flag a f by b alone before =
      let v = commit_is_value D root W n c (record { before = g; act = a; flag = flag; is_in = b }) in
      let u = taken_up n g a (ok (Some (CommitMessage c)) flag) f.1.follows (ap is_opening by.act_is) by.runs in
      let begins = begins_before _ _ _ _ b in
      let term = v.term_is ∙ by.term_is in
      let version = v.version_is ∙ by.version_is in
      let last = is_last g f.0 u begins by.won v.request v.is_sent term version in
      let alone_now = subst (λ (t : ℕ). IsAloneIn D n t) by.term_is alone in
      from v last.1 (publisher_config D root W n g f.0 u begins alone_now by.won v.request last.0 term version)
    where
      now : IsExecution D root n (Then g (Response by.response) (ok (Some (CommitMessage c)) flag))
      now = subst (λ (x : Act). IsExecution D root n (Then g x (ok (Some (CommitMessage c)) flag))) by.act_is f

      quorums : (is_quorum_of (committed_of g) (with_id by.response.source (publish_votes_of g)) ≡ true) × (is_quorum_of (published_config_of g) (with_id by.response.source (publish_votes_of g)) ≡ true)
      quorums = and_parts _ _ by.quorum

      direct : (v : IsValueOf D n c.term c.version) → published_config_of g ≡ v.request.state.config → committed_of g ≡ v.request.state.committed → CommitIn D n c.term c.version
      direct v e d =
          record {
            request = v.request;
            is_sent = v.is_sent;
            term_is = v.term_is;
            version_is = v.version_is;
            acks = with_id by.response.source (publish_votes_of g);
            config_quorum = subst (λ (x : List Id). is_quorum_of x (with_id by.response.source (publish_votes_of g)) ≡ true) e quorums.1;
            committed_quorum = subst (λ (x : List Id). is_quorum_of x (with_id by.response.source (publish_votes_of g)) ≡ true) d quorums.0;
            took_it = took_last g by.response (Some (CommitMessage c)) flag now (response_guard n g by.response _ _ now.1.follows.follows) v.request v.is_sent (v.term_is ∙ by.term_is) (v.version_is ∙ by.version_is);
          }

      from : (v : IsValueOf D n c.term c.version) → published_config_of g ≡ v.request.state.config → Holds D root n g (accepted_of g) (committed_of g) v.request → CommitIn D n c.term c.version
      from v e (inl h) = direct v e h.2
      from v e (inr h) = held h.1
        where
          held : (committed_of g ≡ v.request.state.committed) ⊎ ((committed_of g ≡ v.request.state.config) × SentCommit g n v.request) → CommitIn D n c.term c.version
          held (inl d) = direct v e d
          held (inr d) =
              let k = before (record { source = n; term = v.request.state.term; version = v.request.state.version }) d.1 v.term_is in
              record {
                request = k.request;
                is_sent = k.is_sent;
                term_is = k.term_is ∙ v.term_is;
                version_is = k.version_is ∙ v.version_is;
                acks = k.acks;
                config_quorum = k.config_quorum;
                committed_quorum = k.committed_quorum;
                took_it = k.took_it;
              }

  pub commit_facts : (g : NodeHistory) → IsExecution D root n g → Begins g (D n) → (c : ApplyCommit) → IsSent g (CommitMessage c) → IsAloneIn D n c.term → CommitIn D n c.term c.version
  commit_facts NoActs f b c s alone = cc (s.is_in)
  commit_facts (Then g a o) f b c s alone = from (λ d e m. commit_facts g f.0 (begins_before _ _ _ _ b) d e (subst (λ (t : ℕ). IsAloneIn D n t) (sym m) alone)) (sent_cases g a o _ s)
    where
      from : ((d : ApplyCommit) → IsSent g (CommitMessage d) → d.term ≡ c.term → CommitIn D n d.term d.version)
          → ((flag : Bool) × (o ≡ Answered (Taken (Some (CommitMessage c)) flag))) ⊎ IsSent g (CommitMessage c) → CommitIn D n c.term c.version
      from before (inr h) = before c h refl
      from before (inl e) =
          let now = subst (λ (x : Outcome). IsExecution D root n (Then g a x)) e.1 f in
          let here = subst (λ (x : Outcome). Begins (Then g a x) (D n)) e.1 b in
          commit_now g c e.0 a now (origin n g a (CommitMessage c) e.0 now.1.follows.follows) here alone before
