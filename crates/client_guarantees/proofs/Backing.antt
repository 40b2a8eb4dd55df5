-- What the acts of all nodes say of a node that takes an act.
use Rattle.std.proofs.Common.{◌≡◌, ◌≢◌, ℕ, ◌<◌, ◌≤◌, Bool, true, false, cond, Option, None, Some, List, refl, sym, ◌∙◌, ap, subst, arith, ◌⊎◌, inl, inr}
use Rattle.std.specs.List.{Contains}
use Rattle.voting_config.specs.Ids.{Id, with_id}
use Rattle.cluster_state.specs.declared.state.ClusterState.{ClusterState}
use Rattle.cluster_state.specs.declared.state.ClusterValue.{ClusterValue}
use Rattle.cluster_state.specs.declared.state.StateId.{StateId}
use Rattle.cluster_state.specs.States.{id_of}
use Rattle.cluster_state.specs.declared.messages.Join.{Join}
use Rattle.cluster_state.specs.declared.messages.PublishRequest.{PublishRequest}
use Rattle.cluster_state.specs.declared.messages.PublishResponse.{PublishResponse}
use Rattle.cluster_state.specs.declared.messages.ApplyCommit.{ApplyCommit}
use Rattle.world_model.specs.declared.acts.Act.{Act}
use Rattle.world_model.specs.declared.acts.ActReply.{ActReply}
use Rattle.world_model.specs.declared.acts.Message.{Message}
use Rattle.world_model.specs.declared.acts.Act.TheVariants.{Bootstrap, StartJoin, TakeJoin, Value, Publish, Response, Commit, Open}
use Rattle.world_model.specs.declared.acts.Outcome.{Outcome}
use Rattle.world_model.specs.declared.acts.Outcome.TheVariants.{Answered}
use Rattle.world_model.specs.declared.acts.ActReply.TheVariants.{Taken, Refused, Stopped}
use Rattle.world_model.specs.declared.acts.Message.TheVariants.{Publish as PublishMessage, Commit as CommitMessage}
use Rattle.world_model.specs.Acts.{NodeHistory, Then}
use Rattle.world_model.specs.NodeState.{NodeState, node_state, term_of, accepted_of, election_won_of, published_version_of, publish_votes_of}
use Rattle.world_model.specs.Replies.{commits, is_taken}
use Rattle.world_model.specs.Histories.{History, Next, node_history, sent, IsPrefix}
use Rattle.world_model.specs.Safety.{Published, IsCommitted, published, published_by}
use Rattle.world_model.proofs.Guards.{value_guard, publish_guard, response_guard, commit_guard}
use Rattle.world_model.proofs.Moments.{Begins, begins_before, IsSent, sent_later}
use Rattle.world_model.proofs.System.{IsSystem, execution_before, taken_up}
use Rattle.world_model.proofs.Rounds.{ok, WonAt, won_later, won_has_win, last_values}
use Rattle.world_model.proofs.Elected.{winning}
use Rattle.world_model.proofs.Below.{win_of}
use Rattle.world_model.proofs.Legal.{moment, listed, is_listed, one_of, none_of, prefix_before, prefix_trans, act_begins, sent_to}
use Rattle.world_model.proofs.Facts.{IsPublished, HasSentCommit}
use Rattle.world_model.proofs.FactsHold.{accepted_known, facts_of_system, election_to}
use Rattle.agreement.proofs.Elections.{win_base_older}
use Rattle.agreement.proofs.Terms.{agree_terms}
use Rattle.policy_model.specs.Parts.{published_id}
use Rattle.policy_model.specs.Joins.{wins_now}
use Rattle.policy_model.specs.Publications.{commits_now}
use Rattle.client_guarantees.specs.Replies.{HasCommitted}

-- a state of this id is committed
pub record HasCommittedId (h : History) (id : StateId) : Type 0 where
  pub as_published : Published
  pub is_committed : IsCommitted h as_published
  pub is_id : id_of as_published.state ≡ id

-- an id names one published state
pub record IsUnique (h : History) : Type 0 where
  pub same : (p q : Published) → Contains (published h) p → Contains (published h) q → id_of p.state ≡ id_of q.state → p ≡ q

-- the state that a node publishes which is p
abbrev pub state_of : NodeState → ℕ → List Id → ClusterValue → ClusterState
state_of p version config value = record { term = p.term; version = version; parent = Some (id_of p.accepted); config = config; committed = p.committed; value = value }

-- the node won on a state of an earlier term, and has published none since
pub record IsNewWinner (p : NodeState) : Type 0 where
  pub older : p.accepted.term < p.term
  pub none : p.published_version ≡ p.accepted.version

-- the node has accepted the last state that it published
pub record HasAcceptedLast (p : NodeState) : Type 0 where
  pub term : p.accepted.term ≡ p.term
  pub version : p.accepted.version ≡ p.published_version

-- a node that takes a commit
pub record TakesCommit (h : History) (p : NodeState) : Type 0 where
  pub committed : HasCommitted h p.accepted
  pub term : p.accepted.term ≡ p.term
  pub version : p.election_won ≡ true → p.accepted.version ≡ p.published_version

-- a node that wins
pub record Wins (p : NodeState) : Type 0 where
  pub not_yet : p.election_won ≡ false
  pub older : p.accepted.term < p.term

-- a winner that takes a publication
pub record TakesPublication (p : NodeState) : Type 0 where
  pub not_new : IsNewWinner p → ⊥
  pub not_last : HasAcceptedLast p → ⊥

-- what the history says of a node that is p and replies so to an act
abbrev pub Backs : History → NodeState → Act → ActReply → Type 0
Backs h p (TakeJoin join) reply = wins_now reply ≡ true → Wins p
Backs h p (Value version config value) reply = is_taken reply ≡ true → IsPublished h (state_of p version config value)
Backs h p (Publish request) reply = is_taken reply ≡ true → p.election_won ≡ true → TakesPublication p
Backs h p (Response response) reply = commits_now reply ≡ true → HasCommittedId h (published_id p)
Backs h p (Commit commit) reply = is_taken reply ≡ true → TakesCommit h p
Backs h p act reply = Unit {0}

-- the node, that had done so much, publishes a state whose id was published by none when it had done no more
pub record IsPublishedAt (h : History) (n : Id) (g : NodeHistory) (version : ℕ) (config : List Id) (value : ClusterValue) : Type 0 where
  pub as_published : Published
  pub is_in : Contains (published h) as_published
  pub is_state : as_published.state ≡ state_of (node_state g) version config value
  pub parent : as_published.parent ≡ accepted_of g
  pub publisher : as_published.publisher ≡ n
  pub not_yet : (q : History) → IsPrefix q h → Begins (node_history q n) g → (p : Published) → Contains (published q) p
      → id_of p.state ≢ record { term = term_of g; version = version }

-- the commit that a response may send
commit_is : (b : Bool) (m : Message) (c : ApplyCommit) → Some m ≡ cond b (Some (CommitMessage c)) None → m ≡ CommitMessage c
commit_is true m c e = cc
commit_is false m c e = cc

commit_same : {m n : Id} {t u v w : ℕ} → m ≡ n → t ≡ u → v ≡ w → Path ApplyCommit (record { source = m; term = t; version = v }) (record { source = n; term = u; version = w })
commit_same p q r = λ i. record { source = p i; term = q i; version = r i }

-- who published a state has sent it
record IsSentBy (node : Id) (o : Outcome) (p : Published) : Type 0 where
  publisher : p.publisher ≡ node
  request : PublishRequest
  flag : Bool
  is_outcome : o ≡ Answered (Taken (Some (PublishMessage request)) flag)
  is_state : request.state ≡ p.state

sent_by_publisher : (q : History) (node : Id) (o : Outcome) (p : Published) → Contains (published_by q node o) p → IsSentBy node o p
sent_by_publisher q node (Answered (Taken (Some (PublishMessage r)) w)) p c =
    let is = one_of _ p c in
    record { publisher = ap (λ (x : Published). x.publisher) (sym is); request = r; flag = w; is_outcome = refl; is_state = ap (λ (x : Published). x.state) is }
sent_by_publisher q node o p c = none_of p c

-- a commit that was sent, with the state that it commits
record Committed (h : History) (term version : ℕ) : Type 0 where
  as_published : Published
  is_committed : IsCommitted h as_published
  has_term : as_published.state.term ≡ term
  has_version : as_published.state.version ≡ version

-- root is the state from which all began
module _ (h : History) (root : ClusterState) (W : IsSystem (node_history h) root) where
  same_winner : (m n : Id) (b c : NodeHistory) → WonAt b (node_history h m) → WonAt c (node_history h n) → term_of b ≡ term_of c → m ≡ n
  same_winner m n b c v w e =
      (agree_terms (facts_of_system h root W) (term_of c)).one_winner (record { node = m; term = term_of b; base = accepted_of b }) (record { node = n; term = term_of c; base = accepted_of c })
      (election_to h root W m b v) (election_to h root W n c w) e refl

  committed_by : (n : Id) (term version : ℕ) → HasSentCommit h n term version → Committed h term version
  committed_by n term version s =
      let v = (facts_of_system h root W).commit_is_value n term version s in
      let c = commit_same (sym v.has_publisher) (sym v.has_term) (sym v.has_version) in
      record {
        as_published = v.as_published;
        is_committed = (v.is_in, subst (λ (x : ApplyCommit). Contains (sent h) (CommitMessage x)) c s);
        has_term = v.has_term;
        has_version = v.has_version;
      }

  at_join : (n : Id) (g : NodeHistory) (j : Join) (s : Option Message) → Begins (Then g (TakeJoin j) (ok s true)) (node_history h n) → Wins (node_state g)
  at_join n g j s b =
      let w : WonAt g (node_history h n) = record { join = j; sends = s; flag = true; is_in = b; is_win = refl } in
      record {
        not_yet = (winning (node_history h) root W n g w).not_yet;
        older = win_base_older (facts_of_system h root W) (record { node = n; term = term_of g; base = accepted_of g }) (election_to h root W n g w);
      }

  at_response : (n : Id) (g : NodeHistory) (r : PublishResponse) (m : Message) (w : Bool) → Begins (Then g (Response r) (ok (Some m) w)) (node_history h n) → HasCommittedId h (published_id (node_state g))
  at_response n g r m w b =
      let f = execution_before (node_history h) root n _ (node_history h n) (W n) b in
      let k = response_guard n g r (Some m) w f.1.follows.follows in
      let is = commit_is (commits (node_state g) (with_id r.source (publish_votes_of g))) m (record { source = n; term = r.term; version = r.version }) k.sends in
      let s = sent_to h n m (record { before = g; act = Response r; flag = w; is_in = b }) in
      let c = committed_by n r.term r.version (subst (λ (x : Message). Contains (sent h) x) is s) in
      record {
        as_published = c.as_published;
        is_committed = c.is_committed;
        is_id = (λ i. record { term = (c.has_term ∙ k.now) i; version = (c.has_version ∙ k.current) i });
      }

  at_commit : (n : Id) (g : NodeHistory) (c : ApplyCommit) (s : Option Message) (w : Bool) → Begins (Then g (Commit c) (ok s w)) (node_history h n) → TakesCommit h (node_state g)
  at_commit n g c s w b =
      let f = execution_before (node_history h) root n _ (node_history h n) (W n) b in
      let k = commit_guard n g c s w f.1.follows.follows in
      let q = committed_by c.source c.term c.version (sent_to h c.source (CommitMessage c) f.1.sourced.is_sent) in
      let m = moment h n g (Commit c) (ok s w) b in
      let a = accepted_known h root W n m.before (prefix_before m.before h n (Commit c) (ok s w) m.is_in) in
      record {
        committed = from q k.accepted_term k.accepted_version (subst (λ (x : NodeHistory). ((accepted_of x).term ≤ root.term) ⊎ IsPublished h (accepted_of x)) m.deeds_are a);
        term = sym k.accepted_term ∙ k.now;
        version = k.settled;
      }
    where
      from : Committed h c.term c.version → c.term ≡ (accepted_of g).term → c.version ≡ (accepted_of g).version → ((accepted_of g).term ≤ root.term) ⊎ IsPublished h (accepted_of g) → HasCommitted h (accepted_of g)
      from q t v (inl low) =
          let above = ((facts_of_system h root W).value_facts q.as_published q.is_committed.0).above_root in
          absurd (omega (arith, above, q.has_term))
      from q t v (inr p) =
          let p_term : p.as_published.state.term ≡ c.term = ap (λ (x : ClusterState). x.term) p.is_state ∙ sym t in
          let p_version : p.as_published.state.version ≡ c.version = ap (λ (x : ClusterState). x.version) p.is_state ∙ sym v in
          let same = (agree_terms (facts_of_system h root W) c.term).one_state q.as_published p.as_published q.is_committed.0 p.is_in q.has_term p_term (q.has_version ∙ sym p_version) in
          record { as_published = q.as_published; is_committed = q.is_committed; is_state = ap (λ (x : Published). x.state) same ∙ p.is_state }

  at_publish : (n : Id) (g : NodeHistory) (r : PublishRequest) (s : Option Message) (w : Bool) → Begins (Then g (Publish r) (ok s w)) (node_history h n) → election_won_of g ≡ true → TakesPublication (node_state g)
  at_publish n g r s w b won =
      let f = execution_before (node_history h) root n _ (node_history h n) (W n) b in
      let k = publish_guard n g r s w f.1.follows.follows in
      let u = taken_up n g (Publish r) (ok s w) f.1.follows refl k.runs in
      let x = won_has_win (node_history h) root W n g f.0 u won in
      let y = win_of (node_history h) root W r.source r f.1.sourced.is_sent in
      let here = won_later x.before g (node_history h n) (begins_before _ _ _ _ b) x.won in
      let mine = f.1.sourced.own (same_winner r.source n y.0 x.before y.1 here (y.2 ∙ k.now ∙ sym x.same_term)) in
      let v = last_values (node_history h) root W n g f.0 u won x.before x.won x.same_term in
      let within = v.within r mine k.now in
      record {
        not_new = λ a. not_new a x.before x.follows within.0 within.1;
        not_last = λ a. let newer = k.newer (k.now ∙ sym a.term) in absurd (omega (arith, a.version, within.1));
      }
    where
      not_new : IsNewWinner (node_state g) → (before : NodeHistory) → (accepted_of g ≡ accepted_of before) ⊎ ((accepted_of g).term ≡ term_of g)
          → (accepted_of before).version < r.state.version → r.state.version ≤ published_version_of g → ⊥
      not_new a before (inl same) low high =
          let version : (accepted_of g).version ≡ (accepted_of before).version = ap (λ (x : ClusterState). x.version) same in
          absurd (omega (arith, a.none))
      not_new a before (inr same) low high = absurd (omega (arith, a.older))

  pub unique : IsUnique h
  unique = record {
    same = λ p q a b e.
        let version : p.state.version ≡ q.state.version = ap (λ (i : StateId). i.version) e in
        let term : p.state.term ≡ q.state.term = ap (λ (i : StateId). i.term) e in
        (agree_terms (facts_of_system h root W) q.state.term).one_state p q a b term refl version;
  }

  -- a value is published, by its node, and its id was not before
  pub value_published : (n : Id) (g : NodeHistory) (version : ℕ) (config : List Id) (value : ClusterValue) (s : Option Message) (w : Bool)
      → Begins (Then g (Value version config value) (Answered (Taken s w))) (node_history h n) → IsPublishedAt h n g version config value
  value_published n g version config value s w b =
      let act : Act = Value version config value in
      let f = execution_before (node_history h) root n _ (node_history h n) (W n) b in
      let k = value_guard n g version config value s w f.1.follows.follows in
      let u = taken_up n g act (Answered (Taken s w)) f.1.follows refl k.runs in
      let x = won_has_win (node_history h) root W n g f.0 u k.won in
      let last = last_values (node_history h) root W n g f.0 u k.won x.before x.won x.same_term in
      let m = moment h n g act (Answered (Taken s w)) b in
      let p : Published = record { publisher = n; state = state_of (node_state g) version config value; parent = accepted_of (node_history m.before n) } in
      let is_in : Contains (published h) p = is_listed published (λ x n a o. published_by x n o) refl (λ x n a o. refl) h p m.before n act (Answered (Taken s w)) m.is_in
      (subst (λ (o : Option Message). Contains (published_by m.before n (Answered (Taken o w))) p) (sym k.sends) (0, (omega arith), refl)) in
      record {
        as_published = p;
        is_in = is_in;
        is_state = refl;
        parent = ap accepted_of m.deeds_are;
        publisher = refl;
        not_yet = λ q i e o c same.
            let at = listed published (λ x n a o. published_by x n o) refl (λ x n a o. refl) q o c in
            let whole = prefix_trans (Next at.before at.node at.act at.outcome) q h at.is_in i in
            let known : Contains (published h) o = is_listed published (λ x n a o. published_by x n o) refl (λ x n a o. refl) h o at.before at.node at.act at.outcome whole at.adds in
            let one : o ≡ p = unique.same o p known is_in same in
            let sent = sent_by_publisher at.before at.node at.outcome o at.adds in
            let mine : at.node ≡ n = sym sent.publisher ∙ ap (λ (y : Published). y.publisher) one in
            let did : Begins (Then (node_history at.before at.node) at.act (Answered (Taken (Some (PublishMessage sent.request)) sent.flag))) (node_history q at.node) =
            subst (λ (y : Outcome). Begins (Then (node_history at.before at.node) at.act y) (node_history q at.node)) sent.is_outcome (act_begins at.before q at.node at.act at.outcome at.is_in) in
            let was : IsSent (node_history q at.node) (PublishMessage sent.request) = record { before = node_history at.before at.node; act = at.act; flag = sent.flag; is_in = did } in
            let is_sent : IsSent g (PublishMessage sent.request) = sent_later (node_history q n) g (PublishMessage sent.request) e (subst (λ (y : Id). IsSent (node_history q y) (PublishMessage sent.request)) mine was) in
            let term : sent.request.state.term ≡ term_of g = ap (λ (y : ClusterState). y.term) sent.is_state ∙ ap (λ (y : StateId). y.term) same in
            let own : sent.request.state.version ≡ version = ap (λ (y : ClusterState). y.version) sent.is_state ∙ ap (λ (y : StateId). y.version) same in
            let low = (last.within sent.request is_sent term).1 in
            let above = k.above in
            omega (arith, low, above, own);
      }

  at_value : (n : Id) (g : NodeHistory) (version : ℕ) (config : List Id) (value : ClusterValue) (s : Option Message) (w : Bool)
      → Begins (Then g (Value version config value) (Answered (Taken s w))) (node_history h n) → IsPublished h (state_of (node_state g) version config value)
  at_value n g version config value s w b =
      let p = value_published n g version config value s w b in
      record { as_published = p.as_published; is_in = p.is_in; is_state = p.is_state }

  pub backs : (n : Id) (g : NodeHistory) (act : Act) (reply : ActReply) → Begins (Then g act (Answered reply)) (node_history h n) → Backs h (node_state g) act reply
  backs n g (TakeJoin j) (Taken s true) b = λ e. at_join n g j s b
  backs n g (TakeJoin j) (Taken s false) b = λ e. cc
  backs n g (TakeJoin j) (Refused c) b = λ e. cc
  backs n g (TakeJoin j) Stopped b = λ e. cc
  backs n g (Publish r) (Taken s w) b = λ e won. at_publish n g r s w b won
  backs n g (Publish r) (Refused c) b = λ e. cc
  backs n g (Publish r) Stopped b = λ e. cc
  backs n g (Response r) (Taken (Some m) w) b = λ e. at_response n g r m w b
  backs n g (Response r) (Taken None w) b = λ e. cc
  backs n g (Response r) (Refused c) b = λ e. cc
  backs n g (Response r) Stopped b = λ e. cc
  backs n g (Commit c) (Taken s w) b = λ e. at_commit n g c s w b
  backs n g (Commit c) (Refused x) b = λ e. cc
  backs n g (Commit c) Stopped b = λ e. cc
  backs n g (Bootstrap config) reply b = tt
  backs n g (StartJoin candidate term) reply b = tt
  backs n g (Value version config value) (Taken s w) b = λ e. at_value n g version config value s w b
  backs n g (Value version config value) (Refused c) b = λ e. cc
  backs n g (Value version config value) Stopped b = λ e. cc
  backs n g (Open found) reply b = tt
