-- The plan, stage by stage.
use Rattle.std.proofs.Common.{◌≡◌, ◌≢◌, ℕ, ◌+◌, ◌*◌, ◌<◌, ◌≤◌, max, Bool, true, false, not, ◌&&◌, ◌||◌, None, Some, List, [], ◌∷◌, ◌++◌, length, length-append, append_assoc, refl, sym, ◌∙◌, ap, subst, arith, ◌⊎◌}
use Rattle.std.specs.List.{Contains}
use Rattle.std.proofs.lemmas.List.{append-nil}
use Rattle.std.proofs.lemmas.Bool.{and_parts}
use Rattle.std.proofs.lemmas.List.Elements.{Contains-append_right}
use Rattle.voting_config.specs.Ids.{Id, same, has, with_id, is_quorum_of}
use Rattle.cluster_state.specs.declared.state.ClusterState.{ClusterState}
use Rattle.cluster_state.specs.declared.state.ClusterValue.{ClusterValue}
use Rattle.cluster_state.specs.declared.messages.PublishRequest.{PublishRequest}
use Rattle.world_model.specs.declared.acts.Act.{Act}
use Rattle.world_model.specs.declared.acts.Message.{Message}
use Rattle.world_model.specs.declared.acts.ActReply.{ActReply}
use Rattle.world_model.specs.declared.acts.Outcome.{Outcome}
use Rattle.world_model.specs.declared.acts.Act.TheVariants.{StartJoin, TakeJoin, Value, Publish, Response}
use Rattle.world_model.specs.declared.acts.Message.TheVariants.{Join as JoinMessage, Publish as PublishMessage, Response as ResponseMessage, Commit as CommitMessage}
use Rattle.world_model.specs.declared.acts.ActReply.TheVariants.{Taken}
use Rattle.world_model.specs.declared.acts.Outcome.TheVariants.{Answered}
use Rattle.world_model.specs.Acts.{NodeHistory, Then}
use Rattle.world_model.specs.NodeState.{node_state, term_of, accepted_of, committed_of, join_votes_of, election_won_of, published_version_of}
use Rattle.cluster_state.specs.Field.{last_number}
use Rattle.world_model.specs.Replies.{id_of, elects, commit_sent, reply_of, is_taken}
use Rattle.world_model.specs.Histories.{History, Next, node_history, sent, sent_by, IsPrefix}
use Rattle.world_model.specs.Safety.{winners, Published, published, published_by, IsCommitted}
use Rattle.voting_config.proofs.Sets.{same_is}
use Rattle.world_model.proofs.Moments.{Begins, begins_self}
use Rattle.world_model.proofs.Durable.{accepted_below}
use Rattle.world_model.proofs.Legal.{own_deeds, prefix_self, prefix_trans, sent_to, system_of_grounded, one_of, none_of, act_begins, Listed, listed}
use Rattle.world_model.proofs.Rounds.{request_below}
use Rattle.world_model.proofs.System.{IsSystem}
use Rattle.world_model.proofs.FactsHold.{facts_of_system}
use Rattle.agreement.proofs.Elections.{alone}
use Rattle.agreement.proofs.Terms.{agree_terms}
use Rattle.world_model.proofs.Durable.{quorum_named}
use Rattle.rescue_plan.specs.Lines.{answered}
use Rattle.rescue_plan.proofs.Rule.{Rule, answers, acts_later}
use Rattle.rescue_plan.proofs.Steps.{Step, carried, AllTaken, sweep, gather, greatest_term, rescue_term, join_of, new_state, new_request, response_of, value_step, plan, CanRescue, Rescues, joins_sent}
use Rattle.rescue_plan.proofs.Sweeps.{carried-append, taken-append, prefix_step, prefix_carried, sent_grows, published_grows, other_deeds, Swept, swept, Gathers, Gathered, gathered, all_with, all_with_has}
use Rattle.rescue_plan.proofs.Taking.{start_taken, join_taken, value_taken, publish_taken, response_taken}
use Rattle.rescue_plan.proofs.Stages.{winners_grow, is_both, both_grow, Collects, collects_next, collects_first, Awaits, awaits_next, awaits_first, Waits, waits_after_start, Publishes, publishes_after_value}

pub greatest_above : (h : History) (us : List Id) (u : Id) → has u us ≡ true → term_of (node_history h u) ≤ greatest_term h us
greatest_above h [] u e = cc
greatest_above h (x ∷ us) u e = from (same x u) refl (greatest_above h us u)
  where
    from : (b : Bool) → same x u ≡ b → (has u us ≡ true → term_of (node_history h u) ≤ greatest_term h us) → term_of (node_history h u) ≤ max (term_of (node_history h x)) (greatest_term h us)
    from true s rest = subst (λ (y : Id). term_of (node_history h y) ≤ max (term_of (node_history h x)) (greatest_term h us)) (same_is x u s) (omega arith)
    from false s rest = let below = rest (subst (λ (b : Bool). (b || has u us) ≡ true) s e) in omega arith

-- the last element of a list is in it
last_in : {X : Type 0} (xs : List X) (x : X) → Contains (xs ++ x ∷ []) x
last_in xs x = Contains-append_right xs (x ∷ []) x (0, (omega arith), refl)

-- the last act of a node sent it
sent_last : (h : History) (n : Id) (g : NodeHistory) (a : Act) (message : Message) → node_history h n ≡ Then g a (Answered (Taken (Some message) false)) → Contains (sent h) message
sent_last h n g a message e =
    sent_to h n message (record {
      before = g;
      act = a;
      flag = false;
      is_in = subst (λ (d : NodeHistory). Begins (Then g a (Answered (Taken (Some message) false))) d) (sym e) (begins_self (Then g a (Answered (Taken (Some message) false))));
    })

length-sweep : (act : Id → Act) (us : List Id) → length (sweep act us) ≡ length us
length-sweep act [] = refl
length-sweep act (u ∷ us) = let e = length-sweep act us in omega arith

length-gather : (m : Id) (act : Id → Act) (us : List Id) → length (gather m act us) ≡ length us
length-gather m act [] = refl
length-gather m act (u ∷ us) = let e = length-gather m act us in omega arith

-- what an outcome published: its request, by the node that sent it
record PublishesBy (n : Id) (o : Outcome) (q : Published) : Type 0 where
  request : PublishRequest
  flag : Bool
  outcome_is : o ≡ Answered (Taken (Some (PublishMessage request)) flag)
  state_is : request.state ≡ q.state
  publisher_is : n ≡ q.publisher

publishes_by : (p : History) (n : Id) (o : Outcome) (q : Published) → Contains (published_by p n o) q → PublishesBy n o q
publishes_by p n (Answered (Taken (Some (PublishMessage r)) w)) q c =
    let e = one_of _ q c in
    record { request = r; flag = w; outcome_is = refl; state_is = ap (λ (x : Published). x.state) e; publisher_is = ap (λ (x : Published). x.publisher) e }
publishes_by p n o q c = none_of q c

-- the term of a state is not above its publisher's
published_below : (R : Rule) (h : History) → R.Right h → (q : Published) → Contains (published h) q → q.state.term ≤ term_of (node_history h q.publisher)
published_below R h l q c = from (listed published (λ p n a o. published_by p n o) refl (λ p n a o. refl) h q c)
  where
    W : IsSystem (node_history h) R.root
    W = system_of_grounded R.root h (R.grounded h l)

    from : Listed (λ p n a o. published_by p n o) h q → q.state.term ≤ term_of (node_history h q.publisher)
    from i = at (publishes_by i.before i.node i.outcome q i.adds)
      where
        at : PublishesBy i.node i.outcome q → q.state.term ≤ term_of (node_history h q.publisher)
        at x =
            let below = request_below (node_history h) R.root W i.node x.request (node_history h i.node) (W i.node) (record {
              before = node_history i.before i.node;
              act = i.act;
              flag = x.flag;
              is_in = subst (λ (o : Outcome). Begins (Then (node_history i.before i.node) i.act o) (node_history h i.node)) x.outcome_is (act_begins i.before h i.node i.act i.outcome i.is_in);
            }) in
            subst (λ (n : Id). q.state.term ≤ term_of (node_history h n)) x.publisher_is
            (subst (λ (s : ClusterState). s.term ≤ term_of (node_history h i.node)) x.state_is below)

module _ (R : Rule) (h : History) (l : R.Right h) (us : List Id) (begun : (u : Id) → has u us ≡ true → R.MayAct (node_history h u)) (m : Id) (can : CanRescue h us m)
    (value : ClusterValue) where
  abbrev pub t : ℕ
  t = rescue_term h us

  abbrev pub base : ClusterState
  base = accepted_of (node_history h m)

  abbrev pub v : ℕ
  v = (accepted_of (node_history h m)).version + 1

  abbrev pub held : List Id
  held = committed_of (node_history h m)

  abbrev pub request : PublishRequest
  request = new_request h m (rescue_term h us) value

  pub term_below : (u : Id) → has u us ≡ true → term_of (node_history h u) < t
  term_below u e = let below = greatest_above h us u e in omega arith

  term_limit : t ≤ last_number
  term_limit = let below = can.term_below in omega arith

  accepted_older : (u : Id) → has u us ≡ true → (accepted_of (node_history h u)).term < t
  accepted_older u e =
      let W = system_of_grounded R.root h (R.grounded h l) in
      let a = accepted_below (node_history h) R.root W u (node_history h u) (W u) in
      let b = term_below u e in
      omega arith

  -- The joins are sent.

  abbrev pub after_starts : History
  after_starts = carried h (sweep (λ u. StartJoin m t) us)

  start_to_starts : IsPrefix h after_starts
  start_to_starts = prefix_carried h (sweep (λ u. StartJoin m t) us)

  pub starts : Swept R (λ u. StartJoin m t) (λ u. JoinMessage (join_of h m t u)) us h
  starts =
      swept R (λ u. StartJoin m t) (λ u. JoinMessage (join_of h m t u)) us can.ascending h l (λ u e. record {
        up = can.up u e;
        reply = start_taken u (node_history h u) m t (can.runs u e) (term_below u e) term_limit;
        may_act = begun u e;
        closed = refl;
        sourced = λ k i. tt;
      })

  -- The joins are taken.

  abbrev pub take_join : Id → Act
  take_join u = TakeJoin (join_of h m t u)

  abbrev pub Joining : History → List Id → Type 0
  Joining k votes = Collects m t base held (node_history k m) (winners k) votes × (sent k ≡ sent after_starts)

  joining_first : Joining after_starts []
  joining_first = (
    subst (λ (g : NodeHistory). Collects m t base held g (winners after_starts) []) (sym (starts.each m can.member))
        (collects_first m t (node_history h m) (winners after_starts) (JoinMessage (join_of h m t m)) (can.runs m can.member) (term_below m can.member)),
    refl,
  )

  joining_one : (k : History) (done : List Id) (u : Id) → IsPrefix after_starts k → has u us ≡ true → Joining k done → Gathers R m take_join Joining k done u
  joining_one k done u i e p = record {
    up = p.0.up;
    taken = ap is_taken reply;
    closed = refl;
    sourced = sent_grows after_starts k _ i (sent_last after_starts u (node_history h u) (StartJoin m t) (JoinMessage (join_of h m t u)) (starts.each u e));
    next = subst (λ (r : ActReply). Joining (Next k m (take_join u) (Answered r)) (with_id u done)) (sym reply) next;
  }
    where
      older : ((join_of h m t u).last_term < (accepted_of (node_history k m)).term) ⊎ (((accepted_of (node_history k m)).term ≡ (join_of h m t u).last_term) × ((join_of h m t u).last_version ≤ (accepted_of (node_history k m)).version))
      older = subst (λ (s : ClusterState). ((join_of h m t u).last_term < s.term) ⊎ ((s.term ≡ (join_of h m t u).last_term) × ((join_of h m t u).last_version ≤ s.version))) (sym p.0.accepted_is) (can.newest u e)

      named : (accepted_of (node_history k m)).config ≢ []
      named = subst (λ (s : ClusterState). s.config ≢ []) (sym p.0.accepted_is) (quorum_named base.config us can.accepted_quorum)

      reply : reply_of m (node_history k m) (TakeJoin (join_of h m t u)) ≡ Taken None (not (election_won_of (node_history k m)) && elects (node_state (node_history k m)) (with_id u (join_votes_of (node_history k m))))
      reply = join_taken m (node_history k m) (join_of h m t u) p.0.runs refl p.0.term_is p.0.started older named

      next_at : (w : Bool) → w ≡ (not (election_won_of (node_history k m)) && elects (node_state (node_history k m)) (with_id u (join_votes_of (node_history k m)))) → Joining (Next k m (TakeJoin (join_of h m t u)) (Answered (Taken None w))) (with_id u done)
      next_at w same = (
        subst (λ (g : NodeHistory). Collects m t base held g (winners (Next k m (TakeJoin (join_of h m t u)) (Answered (Taken None w)))) (with_id u done))
            (sym (own_deeds k m (TakeJoin (join_of h m t u)) (Answered (Taken None w))))
            (collects_next m t base held (node_history k m) (winners k) done (join_of h m t u) w same p.0),
        append-nil (sent k) ∙ p.1,
      )

      next : Joining (Next k m (TakeJoin (join_of h m t u)) (Answered (Taken None (not (election_won_of (node_history k m)) && elects (node_state (node_history k m)) (with_id u (join_votes_of (node_history k m))))))) (with_id u done)
      next = next_at _ refl

  abbrev pub after_joins : History
  after_joins = carried after_starts (gather m take_join us)

  start_to_joins : IsPrefix h after_joins
  start_to_joins = prefix_trans h after_starts after_joins start_to_starts (prefix_carried after_starts (gather m take_join us))

  joins : Gathered R m take_join Joining us after_starts []
  joins = gathered R m take_join Joining after_starts (acts_later R h after_starts m start_to_starts (begun m can.member)) (λ u. has u us ≡ true) joining_one us (λ u e. e) after_starts [] (prefix_self after_starts) starts.legal joining_first

  all_votes : is_both held base.config (all_with us []) ≡ true
  all_votes = both_grow held base.config us (all_with us []) (λ q e. all_with_has us [] q e) can.committed_quorum can.accepted_quorum

  has_won : election_won_of (node_history after_joins m) ≡ true
  has_won = joins.holds.0.wins_with all_votes

  -- m publishes.

  abbrev pub value_act : Act
  value_act = Value v base.config value

  abbrev pub after_value : History
  after_value = answered after_joins m value_act

  start_to_value : IsPrefix h after_value
  start_to_value = prefix_trans h after_joins after_value start_to_joins (prefix_step after_joins m value_act)

  version_now : published_version_of (node_history after_joins m) ≡ base.version
  version_now = joins.holds.0.version_is has_won

  value_reply_is : reply_of m (node_history after_joins m) value_act ≡ Taken (Some (PublishMessage request)) false
  value_reply_is =
      value_taken m (node_history after_joins m) v base.config value joins.holds.0.runs has_won
      (version_now ∙ sym (ap (λ (s : ClusterState). s.version) joins.holds.0.accepted_is)) (let e = version_now in omega arith) (let e = can.version_below in omega arith)
      (sym (ap (λ (s : ClusterState). s.config) joins.holds.0.accepted_is))
      (ap (λ votes. is_quorum_of base.config votes) joins.holds.0.votes_are ∙ (and_parts _ _ all_votes).1)
      ∙ (λ i. Taken (Some (PublishMessage (record { source = m; state = record { term = joins.holds.0.term_is i; version = v; parent = Some (id_of (joins.holds.0.accepted_is i)); config = base.config; committed = joins.holds.0.committed_is i; value = value } }))) false)

  value_legal : R.Right after_value
  value_legal = answers R after_joins m value_act joins.legal (acts_later R h after_joins m start_to_joins (begun m can.member)) joins.holds.0.up refl tt

  value_deeds : node_history after_value m ≡ Then (node_history after_joins m) value_act (Answered (Taken (Some (PublishMessage request)) false))
  value_deeds = own_deeds after_joins m value_act _ ∙ ap (λ (r : ActReply). Then (node_history after_joins m) value_act (Answered r)) value_reply_is

  publishing : Publishes t v held base.config (node_history after_value m)
  publishing =
      subst (λ (g : NodeHistory). Publishes t v held base.config g) (sym value_deeds)
      (publishes_after_value m t v base held base.config (all_with us []) value (node_history after_joins m) (winners after_joins) (PublishMessage request) joins.holds.0 has_won)

  abbrev pub new_publication : Published
  new_publication = record { publisher = m; state = new_state h m (rescue_term h us) value; parent = accepted_of (node_history h m) }

  value_published : Contains (published after_value) new_publication
  value_published =
      subst (λ (r : ActReply). Contains (published after_joins ++ published_by after_joins m (Answered r)) new_publication) (sym value_reply_is)
      (subst (λ (s : ClusterState). Contains (published after_joins ++ record { publisher = m; state = new_state h m t value; parent = s } ∷ []) new_publication) (sym joins.holds.0.accepted_is)
      (last_in (published after_joins) new_publication))

  value_sent : Contains (sent after_value) (PublishMessage request)
  value_sent = sent_last after_value m (node_history after_joins m) value_act (PublishMessage request) value_deeds

  -- The publication is taken.

  waiting : (u : Id) → has u us ≡ true → Waits t (node_history after_value u)
  waiting u e = from (same m u) refl
    where
      own : Waits t (node_history after_value m)
      own = record {
        up = publishing.up;
        runs = publishing.runs;
        term_is = publishing.term_is;
        older = subst (λ (g : NodeHistory). (accepted_of g).term < t) (sym value_deeds) (subst (λ (s : ClusterState). s.term < t) (sym joins.holds.0.accepted_is) (accepted_older m can.member));
      }

      from : (b : Bool) → same m u ≡ b → Waits t (node_history after_value u)
      from true s = subst (λ (y : Id). Waits t (node_history after_value y)) (same_is m u s) own
      from false s =
          subst (λ (g : NodeHistory). Waits t g) (sym (other_deeds after_joins m u value_act s ∙ (joins.others u s ∙ starts.each u e)))
          (waits_after_start m t (node_history h u) (JoinMessage (join_of h m t u)) (can.runs u e) (term_below u e) (accepted_older u e))

  abbrev pub after_publishes : History
  after_publishes = carried after_value (sweep (λ u. Publish request) us)

  pub publishes : Swept R (λ u. Publish request) (λ u. ResponseMessage (response_of h m t u)) us after_value
  publishes =
      swept R (λ u. Publish request) (λ u. ResponseMessage (response_of h m t u)) us can.ascending after_value value_legal (λ u e.
      let w = waiting u e in
      record {
        up = w.up;
        reply = publish_taken u (node_history after_value u) request w.runs w.term_is w.older;
        may_act = acts_later R h after_value u start_to_value (begun u e);
        closed = refl;
        sourced = λ k i. sent_grows after_value k _ i value_sent;
      })

  -- The responses are taken.

  start_to_publishes : IsPrefix h after_publishes
  start_to_publishes = prefix_trans h after_value after_publishes start_to_value (prefix_carried after_value (sweep (λ u. Publish request) us))

  abbrev pub take_response : Id → Act
  take_response u = Response (response_of h m t u)

  abbrev pub Acking : History → List Id → Type 0
  Acking k acks = Awaits m t v held base.config (node_history k m) (sent k) acks

  acking_first : Acking after_publishes []
  acking_first =
      subst (λ (g : NodeHistory). Awaits m t v held base.config g (sent after_publishes) []) (sym (publishes.each m can.member))
      (awaits_first m t v held base.config request (node_history after_value m) (sent after_publishes) (ResponseMessage (response_of h m t m)) refl publishing)

  acking_one : (k : History) (done : List Id) (u : Id) → IsPrefix after_publishes k → has u us ≡ true → Acking k done → Gathers R m take_response Acking k done u
  acking_one k done u i e p = record {
    up = p.up;
    taken = ap is_taken reply;
    closed = refl;
    sourced = sent_grows after_publishes k _ i (sent_last after_publishes u (node_history after_value u) (Publish request) (ResponseMessage (response_of h m t u)) (publishes.each u e));
    next = subst (λ (r : ActReply). Acking (Next k m (take_response u) (Answered r)) (with_id u done)) (sym reply) next;
  }
    where
      reply : reply_of m (node_history k m) (Response (response_of h m t u)) ≡ Taken (commit_sent m (node_state (node_history k m)) (response_of h m t u)) false
      reply = response_taken m (node_history k m) (response_of h m t u) p.runs refl p.won p.term_is p.version_is

      next : Acking (Next k m (Response (response_of h m t u)) (Answered (Taken (commit_sent m (node_state (node_history k m)) (response_of h m t u)) false))) (with_id u done)
      next =
          subst (λ (g : NodeHistory). Awaits m t v held base.config g (sent (Next k m (Response (response_of h m t u)) (Answered (Taken (commit_sent m (node_state (node_history k m)) (response_of h m t u)) false)))) (with_id u done))
          (sym (own_deeds k m (Response (response_of h m t u)) (Answered (Taken (commit_sent m (node_state (node_history k m)) (response_of h m t u)) false))))
          (awaits_next m t v held base.config (node_history k m) (sent k) done (response_of h m t u) refl refl p)

  abbrev pub after_all : History
  after_all = carried after_publishes (gather m take_response us)

  responses : Gathered R m take_response Acking us after_publishes []
  responses = gathered R m take_response Acking after_publishes (acts_later R h after_publishes m start_to_publishes (begun m can.member)) (λ u. has u us ≡ true) acking_one us (λ u e. e) after_publishes [] (prefix_self after_publishes) publishes.legal acking_first

  commit_is_sent : Contains (sent after_all) (CommitMessage (record { source = m; term = t; version = v }))
  commit_is_sent = responses.holds.commits_with all_votes

  -- All together.

  value_in_all : IsPrefix after_value after_all
  value_in_all = prefix_trans after_value after_publishes after_all (prefix_carried after_value (sweep (λ u. Publish request) us)) (prefix_carried after_publishes (gather m take_response us))

  joins_in_all : IsPrefix after_joins after_all
  joins_in_all = prefix_trans after_joins after_value after_all (prefix_step after_joins m value_act) value_in_all

  pub start_in_all : IsPrefix h after_all
  start_in_all = prefix_trans h after_joins after_all start_to_joins joins_in_all

  pub legal_after : R.Right after_all
  legal_after = responses.legal

  pub wins_term : Contains (winners after_all) (record { node = m; term = t })
  wins_term = winners_grow after_joins after_all _ joins_in_all (joins.holds.0.winner has_won)

  pub commits_state : IsCommitted after_all new_publication
  commits_state = (published_grows after_value after_all _ value_in_all value_published, commit_is_sent)

  pub carried_is : carried h (plan h us m value) ≡ after_all
  carried_is =
      carried-append h (sweep (λ u. StartJoin m t) us) _
      ∙ (carried-append after_starts (gather m take_join us) _ ∙ carried-append after_value (sweep (λ u. Publish request) us) (gather m take_response us))

  pub all_taken : AllTaken h (plan h us m value)
  all_taken =
      taken-append h (sweep (λ u. StartJoin m t) us) _ starts.taken
      (taken-append after_starts (gather m take_join us) _ joins.taken
      (ap is_taken value_reply_is, taken-append after_value (sweep (λ u. Publish request) us) (gather m take_response us) publishes.taken responses.taken))

  -- no state of this term was published by m before
  pub not_mine : (q : Published) → Contains (published h) q → q.publisher ≡ m → q.state.term ≡ t → ⊥
  not_mine q c same_node same_term =
      let below = published_below R h l q c in
      let above = term_below m can.member in
      let moved = ap (λ (n : Id). term_of (node_history h n)) same_node in
      absurd (omega arith)

  -- in the longer history m alone publishes in this term
  mine : (q : Published) → Contains (published h) q → q.state.term ≡ t → q.publisher ≡ m
  mine q c same_term =
      let facts = facts_of_system after_all R.root (system_of_grounded R.root after_all (R.grounded after_all legal_after)) in
      alone facts new_publication commits_state.0 (agree_terms facts t).one_winner q (published_grows h after_all q start_in_all c) same_term

  pub is_fresh : (q : Published) → Contains (published h) q → q.state.term ≡ t → ⊥
  is_fresh q c same_term = not_mine q c (mine q c same_term) same_term

  pub counted : length (plan h us m value) ≡ 4 * length us + 1
  counted =
      let a = length-sweep (λ u. StartJoin m t) us in
      let b = length-gather m take_join us in
      let c = length-sweep (λ u. Publish request) us in
      let d = length-gather m take_response us in
      let last : List Step = sweep (λ u. Publish request) us ++ gather m take_response us in
      let e = length-append (sweep (λ u. StartJoin m t) us) (gather m take_join us ++ (value_step h m value ∷ last)) in
      let f = length-append (gather m take_join us) (value_step h m value ∷ last) in
      let g = length-append (sweep (λ u. Publish request) us) (gather m take_response us) in
      omega arith

  pub rescued : Rescues R.Right h us m value
  rescued = record {
    legal = subst R.Right (sym carried_is) legal_after;
    taken = all_taken;
    count = counted;
    winner = subst (λ (k : History). Contains (winners k) (record { node = m; term = t })) (sym carried_is) wins_term;
    committed = subst (λ (k : History). IsCommitted k new_publication) (sym carried_is) commits_state;
    is_new = is_fresh;
  }

  -- What was sent.

  sent_after_joins : sent after_joins ≡ sent h ++ joins_sent h us m
  sent_after_joins = joins.holds.1 ∙ starts.sends

  pub sent_after_value : sent after_value ≡ sent h ++ (joins_sent h us m ++ PublishMessage request ∷ [])
  sent_after_value =
      ap (λ (r : ActReply). sent after_joins ++ sent_by (Answered r)) value_reply_is
      ∙ (ap (λ (x : List Message). x ++ PublishMessage request ∷ []) sent_after_joins ∙ append_assoc (sent h) (joins_sent h us m) (PublishMessage request ∷ []))
