-- What holds of a node within a round: from the start of a join until the node is opened again.
use Rattle.std.proofs.Common.{◌≡◌, ◌≢◌, ℕ, ◌≤◌, ◌<◌, Bool, true, false, cond, ◌||◌, Option, Some, List, [], refl, sym, ◌∙◌, ap, subst, arith, ◌⊎◌, inl, inr}
use Rattle.std.proofs.lemmas.Bool.{both_ways, or_cases, or_parts, and_parts, not-true}
use Rattle.voting_config.specs.Ids.{Id, has, same}
use Rattle.voting_config.proofs.Sorted.{has-with_id}
use Rattle.cluster_state.specs.declared.state.ClusterState.{ClusterState}
use Rattle.cluster_state.specs.declared.state.ClusterValue.{ClusterValue}
use Rattle.cluster_state.specs.declared.messages.Join.{Join}
use Rattle.cluster_state.specs.declared.messages.PublishRequest.{PublishRequest}
use Rattle.cluster_state.specs.declared.messages.PublishResponse.{PublishResponse}
use Rattle.cluster_state.specs.declared.messages.ApplyCommit.{ApplyCommit}
use Rattle.world_model.specs.Acts.{Act, Outcome, NodeHistory, ActReply, Message, Bootstrap, StartJoin, TakeJoin, Value, Publish, Response, Commit, Open, NoActs, Then, Taken, Refused, Stopped, Answered, Disk, Crashed, JoinMessage, PublishMessage, ResponseMessage, is_ok, is_first, wins}
use Rattle.world_model.specs.NodeState.{NodeState, node_state, term_of, accepted_of, committed_of, started_join_of, join_votes_of, election_won_of, published_version_of, published_config_of, publish_votes_of, initial_state}
use Rattle.world_model.specs.Replies.{id_of, IsOutcome}
use Rattle.world_model.specs.Histories.{is_down, is_opening, MayFollow}
use Rattle.world_model.specs.Safety.{IsIdAtMost, IsAtMost}
use Rattle.world_model.proofs.StateIds.{id_trans}
use Rattle.voting_config.proofs.Sets.{same_is}
use Rattle.world_model.proofs.Guards.{Booted, Started, Joined, Valued, Accepts, Responded, Commits, boot_guard, start_guard, join_guard, value_guard, publish_guard, response_guard, commit_guard}
use Rattle.world_model.proofs.Moments.{Begins, begins_self, begins_trans, IsSent, sent_later, sent_cases}
use Rattle.world_model.proofs.System.{IsExecution, IsSystem, IsUp, PublishBy, sent_at, origin}
use Rattle.world_model.proofs.Durable.{term_grows, request_named, accepted_grows}

response_is : (r : PublishResponse) (m me : Id) (t v : ℕ) → r.source ≡ m → r.target ≡ me → r.term ≡ t → r.version ≡ v → r ≡ record { source = m; target = me; term = t; version = v }
response_is r m me t v o p q u = λ i. record { source = o i; target = p i; term = q i; version = u i }

-- the last act was taken
abbrev pub ok : Option Message → Bool → Outcome
ok sends flag = Answered (Taken sends flag)

-- a node that runs ran before its last act, if that is no opening
up_before : (me : Id) (g : NodeHistory) (a : Act) (r : ActReply) → MayFollow me g a (Answered r) → is_opening a ≡ false → IsUp (Then g a (Answered r)) → IsUp g
up_before me g (Open found) r m h u = cc
up_before me g a r m h u = record { runs = u.runs; alive = alive (is_down g) m.up }
  where
    alive : (b : Bool) → (b ≡ true → is_opening a ≡ true) → b ≡ false
    alive true k = absurd (both_ways _ h (k refl))
    alive false k = refl

-- what a claim about a round owes at each act that is taken: P is of the acts so far, and of what the node is after them
pub record RoundSteps (D : Id → NodeHistory) (root : ClusterState) (me : Id) (P : NodeHistory → NodeState → Type 0) : Type 0 where
  pub quiet : (g : NodeHistory) (a : Act) (o : Outcome) (p : NodeState) → is_ok o ≡ false → P g p → P (Then g a o) p
  pub starts : (g : NodeHistory) (c : Id) (t : ℕ) (s : Option Message) (w : Bool) → IsExecution D root me (Then g (StartJoin c t) (ok s w)) → Started me g c t s w
      → P (Then g (StartJoin c t) (ok s w)) (node_state (Then g (StartJoin c t) (ok s w)))
  pub joins : (g : NodeHistory) (j : Join) (s : Option Message) (w : Bool) → IsExecution D root me (Then g (TakeJoin j) (ok s w)) → Joined me g j s w → IsUp g → started_join_of g ≡ true → P g (node_state g)
      → P (Then g (TakeJoin j) (ok s w)) (node_state (Then g (TakeJoin j) (ok s w)))
  pub values : (g : NodeHistory) (v : ℕ) (c : List Id) (x : ClusterValue) (s : Option Message) (w : Bool) → IsExecution D root me (Then g (Value v c x) (ok s w)) → Valued me g v c x s w → IsUp g → started_join_of g ≡ true → P g (node_state g)
      → P (Then g (Value v c x) (ok s w)) (node_state (Then g (Value v c x) (ok s w)))
  pub publishes : (g : NodeHistory) (r : PublishRequest) (s : Option Message) (w : Bool) → IsExecution D root me (Then g (Publish r) (ok s w)) → Accepts me g r s w → IsUp g → started_join_of g ≡ true → P g (node_state g)
      → P (Then g (Publish r) (ok s w)) (node_state (Then g (Publish r) (ok s w)))
  pub responds : (g : NodeHistory) (r : PublishResponse) (s : Option Message) (w : Bool) → IsExecution D root me (Then g (Response r) (ok s w)) → Responded me g r s w → IsUp g → started_join_of g ≡ true → P g (node_state g)
      → P (Then g (Response r) (ok s w)) (node_state (Then g (Response r) (ok s w)))
  pub commits : (g : NodeHistory) (c : ApplyCommit) (s : Option Message) (w : Bool) → IsExecution D root me (Then g (Commit c) (ok s w)) → Commits g c s w → IsUp g → started_join_of g ≡ true → P g (node_state g)
      → P (Then g (Commit c) (ok s w)) (node_state (Then g (Commit c) (ok s w)))
  pub boots : (g : NodeHistory) (c : List Id) (s : Option Message) (w : Bool) → IsExecution D root me (Then g (Bootstrap c) (ok s w)) → Booted g c s w → IsUp g → started_join_of g ≡ true → P g (node_state g)
      → P (Then g (Bootstrap c) (ok s w)) (node_state (Then g (Bootstrap c) (ok s w)))

-- so it holds in every round
pub in_round : (D : Id → NodeHistory) (root : ClusterState) (me : Id) (P : NodeHistory → NodeState → Type 0) → RoundSteps D root me P
    → (g : NodeHistory) → IsExecution D root me g → IsUp g → started_join_of g ≡ true → P g (node_state g)
in_round D root me P S NoActs f u h = cc
in_round D root me P S (Then g (Open found) o) f u h = cc
in_round D root me P S (Then g (StartJoin c t) (Answered (Taken s w))) f u h =
    S.starts g c t s w f (start_guard me g c t s w f.1.follows.follows)
in_round D root me P S (Then g (TakeJoin j) (Answered (Taken s w))) f u h =
    let v = up_before me g (TakeJoin j) (Taken s w) f.1.follows refl u in
    S.joins g j s w f (join_guard me g j s w f.1.follows.follows) v h (in_round D root me P S g f.0 v h)
in_round D root me P S (Then g (Value v c x) (Answered (Taken s w))) f u h =
    let y = up_before me g (Value v c x) (Taken s w) f.1.follows refl u in
    S.values g v c x s w f (value_guard me g v c x s w f.1.follows.follows) y h (in_round D root me P S g f.0 y h)
in_round D root me P S (Then g (Publish r) (Answered (Taken s w))) f u h =
    let v = up_before me g (Publish r) (Taken s w) f.1.follows refl u in
    S.publishes g r s w f (publish_guard me g r s w f.1.follows.follows) v h (in_round D root me P S g f.0 v h)
in_round D root me P S (Then g (Response r) (Answered (Taken s w))) f u h =
    let v = up_before me g (Response r) (Taken s w) f.1.follows refl u in
    S.responds g r s w f (response_guard me g r s w f.1.follows.follows) v h (in_round D root me P S g f.0 v h)
in_round D root me P S (Then g (Commit c) (Answered (Taken s w))) f u h =
    let v = up_before me g (Commit c) (Taken s w) f.1.follows refl u in
    S.commits g c s w f (commit_guard me g c s w f.1.follows.follows) v h (in_round D root me P S g f.0 v h)
in_round D root me P S (Then g (Bootstrap c) (Answered (Taken s w))) f u h =
    let v = up_before me g (Bootstrap c) (Taken s w) f.1.follows refl u in
    S.boots g c s w f (boot_guard me g c s w f.1.follows.follows) v h (in_round D root me P S g f.0 v h)
in_round D root me P S (Then g a (Answered (Refused c))) f u h =
    S.quiet g a (Answered (Refused c)) (node_state g) refl (in_round D root me P S g f.0 (up_before me g a (Refused c) f.1.follows refl u) h)
in_round D root me P S (Then g a (Answered Stopped)) f u h =
    S.quiet g a (Answered Stopped) (node_state g) refl (in_round D root me P S g f.0 (up_before me g a Stopped f.1.follows refl u) h)
in_round D root me P S (Then g a (Disk kept)) f u h = absurd (both_ways _ u.runs refl)
in_round D root me P S (Then g a (Crashed kept)) f u h = absurd (both_ways _ u.alive refl)

-- A node that won has started.
pub won_starts : (D : Id → NodeHistory) (root : ClusterState) (me : Id) (g : NodeHistory) → IsExecution D root me g → election_won_of g ≡ true → started_join_of g ≡ true
won_starts D root me NoActs f h = cc
won_starts D root me (Then g (StartJoin c t) o) f h = from (is_ok o) h (won_starts D root me g f.0)
  where
    from : (b : Bool) → cond b false (election_won_of g) ≡ true → (election_won_of g ≡ true → started_join_of g ≡ true) → (b || started_join_of g) ≡ true
    from true k i = refl
    from false k i = i k
won_starts D root me (Then g (TakeJoin j) (Answered (Taken s w))) f h = (join_guard me g j s w f.1.follows.follows).started
won_starts D root me (Then g (Open found) o) f h = cc
won_starts D root me (Then g a o) f h = won_starts D root me g f.0 h

not_first : (g : NodeHistory) → started_join_of g ≡ true → is_first g ≡ false
not_first NoActs h = cc
not_first (Then g a o) h = refl

-- the node won at the moment b
pub record WonAt (b g : NodeHistory) : Type 0 where
  pub join : Join
  pub sends : Option Message
  pub flag : Bool
  pub is_in : Begins (Then b (TakeJoin join) (Answered (Taken sends flag))) g
  pub is_win : flag ≡ true

pub won_later : (b p g : NodeHistory) → Begins p g → WonAt b p → WonAt b g
won_later b p g h w = record { join = w.join; sends = w.sends; flag = w.flag; is_in = begins_trans _ p g w.is_in h; is_win = w.is_win }

-- the last act is the win, or one before
pub won_cases : (b g : NodeHistory) (a : Act) (o : Outcome) → WonAt b (Then g a o) → ((b ≡ g) × ((j : Join) × (a ≡ TakeJoin j)) × (wins o ≡ true)) ⊎ WonAt b g
won_cases b g a o w = from w.is_in
  where
    from : Begins (Then b (TakeJoin w.join) (Answered (Taken w.sends w.flag))) (Then g a o) → ((b ≡ g) × ((j : Join) × (a ≡ TakeJoin j)) × (wins o ≡ true)) ⊎ WonAt b g
    from (inl e) =
        let same : o ≡ Answered (Taken w.sends w.flag) = cc in
        inl ((cc), (w.join, (cc)), rw same w.is_win)
    from (inr h) = inr (record { join = w.join; sends = w.sends; flag = w.flag; is_in = h; is_win = w.is_win })

wins_ok : (o : Outcome) → wins o ≡ true → is_ok o ≡ true
wins_ok (Answered (Taken s w)) h = refl
wins_ok o h = cc

-- an act that was not taken is no win, and sends nothing
pub won_quiet : (b g : NodeHistory) (a : Act) (o : Outcome) → is_ok o ≡ false → WonAt b (Then g a o) → WonAt b g
won_quiet b g a o k w = from (won_cases b g a o w)
  where
    from : ((b ≡ g) × ((j : Join) × (a ≡ TakeJoin j)) × (wins o ≡ true)) ⊎ WonAt b g → WonAt b g
    from (inl e) = absurd (both_ways _ k (wins_ok o e.2))
    from (inr h) = h

pub sent_quiet : (g : NodeHistory) (a : Act) (o : Outcome) (m : Message) → is_ok o ≡ false → IsSent (Then g a o) m → IsSent g m
sent_quiet g a o m k s = from (sent_cases g a o m s)
  where
    from : ((flag : Bool) × (o ≡ Answered (Taken (Some m) flag))) ⊎ IsSent g m → IsSent g m
    from (inl e) = absurd (both_ways _ k (ap is_ok e.1))
    from (inr h) = h

-- the last act published r, or one before
pub publish_cases : (D : Id → NodeHistory) (root : ClusterState) (me : Id) (g : NodeHistory) (a : Act) (o : Outcome) (r : PublishRequest) → IsExecution D root me (Then g a o) → IsSent (Then g a o) (PublishMessage r)
    → (PublishBy me g r a × ((flag : Bool) × (o ≡ ok (Some (PublishMessage r)) flag))) ⊎ IsSent g (PublishMessage r)
publish_cases D root me g a o r f s = from (sent_cases g a o (PublishMessage r) s)
  where
    from : ((flag : Bool) × (o ≡ Answered (Taken (Some (PublishMessage r)) flag))) ⊎ IsSent g (PublishMessage r) → (PublishBy me g r a × ((flag : Bool) × (o ≡ ok (Some (PublishMessage r)) flag))) ⊎ IsSent g (PublishMessage r)
    from (inl e) =
        let follows = subst (λ (x : Outcome). IsOutcome me g a x) e.1 f.1.follows.follows in
        inl (origin me g a (PublishMessage r) e.0 follows, e)
    from (inr h) = inr h

-- voter has joined the node in this term, and told of a state that is not above s
pub record VotedIn (D : Id → NodeHistory) (voter me : Id) (term : ℕ) (s : ClusterState) : Type 0 where
  pub join : Join
  pub is_sent : IsSent (D voter) (JoinMessage join)
  pub has_source : join.source ≡ voter
  pub has_target : join.target ≡ me
  pub has_term : join.term ≡ term
  pub not_above : IsIdAtMost join.last_term join.last_version s.term s.version

voted_above : (D : Id → NodeHistory) (voter me : Id) (term : ℕ) (s t : ClusterState) → IsAtMost s t → VotedIn D voter me term s → VotedIn D voter me term t
voted_above D voter me term s t h v =
    record { join = v.join; is_sent = v.is_sent; has_source = v.has_source; has_target = v.has_target; has_term = v.has_term; not_above = id_trans _ _ _ _ _ _ v.not_above h }

-- each vote was joined
abbrev pub Votes : (Id → NodeHistory) → Id → NodeHistory → NodeState → Type 0
Votes D me g p = (m : Id) → has m p.join_votes ≡ true → VotedIn D m me p.term p.accepted

module _ (D : Id → NodeHistory) (root : ClusterState) (W : IsSystem D root) (me : Id) where
  -- the accepted state after one more act
  more_accepted : (g : NodeHistory) (a : Act) (o : Outcome) → IsExecution D root me (Then g a o) → started_join_of g ≡ true → IsAtMost (accepted_of g) (accepted_of (Then g a o))
  more_accepted g a o f h = accepted_grows D root W me g (Then g a o) f (inr (begins_self g)) (not_first g h)

  vote_steps : RoundSteps D root me (Votes D me)
  vote_steps = record {
    quiet = λ g a o p k i. i;
    starts = λ g c t s w f k m h. cc;
    joins = λ g j s w f k u st i m h. from g j f k i m (or_cases _ _ (sym (has-with_id m j.source (join_votes_of g)) ∙ h));
    values = λ g v c x s w f k u st i. i;
    publishes = λ g r s w f k u st i m h. voted_above D m me _ (accepted_of g) r.state (more_accepted g _ _ f st) (i m h);
    responds = λ g r s w f k u st i. i;
    commits = λ g c s w f k u st i. i;
    boots = λ g c s w f k u st i m h. voted_above D m me _ (accepted_of g) (initial_state c) (more_accepted g _ _ f st) (i m h);
  }
    where
      from : (g : NodeHistory) (j : Join) {s : Option Message} {w : Bool} → IsExecution D root me (Then g (TakeJoin j) (ok s w)) → Joined me g j s w → Votes D me g (node_state g)
          → (m : Id) → (same j.source m ≡ true) ⊎ (has m (join_votes_of g) ≡ true) → VotedIn D m me (term_of g) (accepted_of g)
      from g j f k i m (inl e) =
          let is = same_is j.source m e in
          record { join = j; is_sent = subst (λ (x : Id). IsSent (D x) (JoinMessage j)) is f.1.sourced.is_sent; has_source = is; has_target = k.mine; has_term = k.now; not_above = k.older }
      from g j f k i m (inr h) = i m h

  pub votes_are_joins : (g : NodeHistory) → IsExecution D root me g → IsUp g → started_join_of g ≡ true → Votes D me g (node_state g)
  votes_are_joins = in_round D root me (Votes D me) vote_steps

-- the round has a win, on a state that is the accepted one still, or that was followed by one of this term
pub record WonIn (g : NodeHistory) (term : ℕ) (accepted : ClusterState) : Type 0 where
  pub before : NodeHistory
  pub won : WonAt before g
  pub same_term : term_of before ≡ term
  pub named : accepted.config ≢ []
  pub follows : (accepted ≡ accepted_of before) ⊎ (accepted.term ≡ term)

abbrev pub HasWin : NodeHistory → NodeState → Type 0
HasWin g p = p.election_won ≡ true → WonIn g p.term p.accepted

-- without a win the node has neither won nor published in this term
abbrev pub IsFresh : NodeHistory → NodeState → Type 0
IsFresh g p = p.election_won ≡ false → ((b : NodeHistory) → WonAt b g → term_of b < p.term) × ((r : PublishRequest) → IsSent g (PublishMessage r) → r.state.term < p.term)

win_later : (g : NodeHistory) (a : Act) (o : Outcome) (term : ℕ) (s : ClusterState) → WonIn g term s → WonIn (Then g a o) term s
win_later g a o term s w = record { before = w.before; won = won_later w.before g (Then g a o) (inr (begins_self g)) w.won; same_term = w.same_term; named = w.named; follows = w.follows }

module _ (D : Id → NodeHistory) (root : ClusterState) (W : IsSystem D root) (me : Id) where
  win_steps : RoundSteps D root me HasWin
  win_steps = record {
    quiet = λ g a o p k i h. win_later g a o p.term p.accepted (i h);
    starts = λ g c t s w f k h. cc;
    joins = λ g j s w f k u st i h. from g j s w k i (or_cases _ _ h);
    values = λ g v c x s w f k u st i h. win_later g _ _ (term_of g) (accepted_of g) (i h);
    publishes = λ g r s w f k u st i h.
        let w' = i h in
        record {
          before = w'.before;
          won = won_later w'.before g _ (inr (begins_self g)) w'.won;
          same_term = w'.same_term;
          named = request_named D root W r.source r f.1.sourced.is_sent;
          follows = inr k.now;
        };
    responds = λ g r s w f k u st i h. win_later g _ _ (term_of g) (accepted_of g) (i h);
    commits = λ g c s w f k u st i h. win_later g _ _ (term_of g) (accepted_of g) (i h);
    boots = λ g c s w f k u st i h. absurd ((i h).named k.empty);
  }
    where
      from : (g : NodeHistory) (j : Join) (s : Option Message) (w : Bool) → Joined me g j s w → HasWin g (node_state g) → (w ≡ true) ⊎ (election_won_of g ≡ true)
          → WonIn (Then g (TakeJoin j) (ok s w)) (term_of g) (accepted_of g)
      from g j s w k i (inl e) =
          record { before = g; won = record { join = j; sends = s; flag = w; is_in = inl refl; is_win = e }; same_term = refl; named = k.named; follows = inl refl }
      from g j s w k i (inr h) = win_later g _ _ (term_of g) (accepted_of g) (i h)

  pub won_has_win : (g : NodeHistory) → IsExecution D root me g → IsUp g → election_won_of g ≡ true → WonIn g (term_of g) (accepted_of g)
  won_has_win g f u h = in_round D root me HasWin win_steps g f u (won_starts D root me g f h) h

  -- terms of wins and of publications are at most the term
  pub win_below : (b g : NodeHistory) → IsExecution D root me g → WonAt b g → term_of b ≤ term_of g
  win_below b g f w = term_grows _ g w.is_in refl

  pub request_below : (r : PublishRequest) (g : NodeHistory) → IsExecution D root me g → IsSent g (PublishMessage r) → r.state.term ≤ term_of g
  request_below r g f s =
      let at = sent_at D root me g (PublishMessage r) f s in
      let grown = in_term at.before at.act at.flag g at.is_in at.origin_is.act_is f in
      rw at.origin_is.term_is grown
    where
      in_term : (p : NodeHistory) (a : Act) (flag : Bool) (g : NodeHistory) → Begins (Then p a (ok (Some (PublishMessage r)) flag)) g → a ≡ Value r.state.version r.state.config r.state.value → IsExecution D root me g → term_of p ≤ term_of g
      in_term p a flag g b e f =
          term_grows (Then p (Value r.state.version r.state.config r.state.value) (ok (Some (PublishMessage r)) flag)) g
          (subst (λ (x : Act). Begins (Then p x (ok (Some (PublishMessage r)) flag)) g) e b) refl

  -- no act but a join wins
  pub other_win : (b g : NodeHistory) (a : Act) (o : Outcome) {A : Type 0} → ((j : Join) → a ≡ TakeJoin j → A) → (WonAt b g → A) → WonAt b (Then g a o) → A
  other_win b g a o {A} here before w = from (won_cases b g a o w)
    where
      from : ((b ≡ g) × ((j : Join) × (a ≡ TakeJoin j)) × (wins o ≡ true)) ⊎ WonAt b g → A
      from (inl e) = here e.1.0 e.1.1
      from (inr h) = before h

  -- no act but a value publishes
  pub other_request : (g : NodeHistory) (a : Act) (o : Outcome) (r : PublishRequest) {A : Type 0} → IsExecution D root me (Then g a o) → (a ≡ Value r.state.version r.state.config r.state.value → is_ok o ≡ true → A) → (IsSent g (PublishMessage r) → A)
      → IsSent (Then g a o) (PublishMessage r) → A
  other_request g a o r {A} f here before s = from (publish_cases D root me g a o r f s)
    where
      from : (PublishBy me g r a × ((flag : Bool) × (o ≡ ok (Some (PublishMessage r)) flag))) ⊎ IsSent g (PublishMessage r) → A
      from (inl e) = here e.0.act_is (ap is_ok e.1.1)
      from (inr h) = before h

  fresh_steps : RoundSteps D root me IsFresh
  fresh_steps = record {
    quiet = λ g a o p k i h. ((λ b v. (i h).0 b (won_quiet b g a o k v)), (λ r v. (i h).1 r (sent_quiet g a o _ k v)));
    starts = λ g c t s w f k h. (
      (λ b. other_win b g _ _ (λ j e. cc) (λ x. let below = win_below b g f.0 x in omega (arith, k.above))),
      (λ r. other_request g _ _ r f (λ e y. cc) (λ x. let below = request_below r g f.0 x in omega (arith, k.above))),
    );
    joins = λ g j s w f k u st i h. from g j s w f (or_parts _ _ h) i;
    values = λ g v c x s w f k u st i h. absurd (both_ways _ h k.won);
    publishes = λ g r s w f k u st i h. ((λ b. other_win b g _ _ (λ j e. cc) ((i h).0 b)), (λ q. other_request g _ _ q f (λ e y. cc) ((i h).1 q)));
    responds = λ g r s w f k u st i h. absurd (both_ways _ h k.won);
    commits = λ g c s w f k u st i h. ((λ b. other_win b g _ _ (λ j e. cc) ((i h).0 b)), (λ q. other_request g _ _ q f (λ e y. cc) ((i h).1 q)));
    boots = λ g c s w f k u st i h. ((λ b. other_win b g _ _ (λ j e. cc) ((i h).0 b)), (λ q. other_request g _ _ q f (λ e y. cc) ((i h).1 q)));
  }
    where
      from : (g : NodeHistory) (j : Join) (s : Option Message) (w : Bool) → IsExecution D root me (Then g (TakeJoin j) (ok s w)) → (w ≡ false) × (election_won_of g ≡ false) → IsFresh g (node_state g)
          → ((b : NodeHistory) → WonAt b (Then g (TakeJoin j) (ok s w)) → term_of b < term_of g) × ((r : PublishRequest) → IsSent (Then g (TakeJoin j) (ok s w)) (PublishMessage r) → r.state.term < term_of g)
      from g j s w f h i = ((λ b v. wins_by b (won_cases b g _ _ v)), (λ q. other_request g _ _ q f (λ e y. cc) ((i h.1).1 q)))
        where
          wins_by : (b : NodeHistory) → ((b ≡ g) × ((k : Join) × (TakeJoin j ≡ TakeJoin k)) × (w ≡ true)) ⊎ WonAt b g → term_of b < term_of g
          wins_by b (inl e) = absurd (both_ways _ h.0 e.2)
          wins_by b (inr v) = (i h.1).0 b v

  pub fresh : (g : NodeHistory) → IsExecution D root me g → IsUp g → started_join_of g ≡ true → IsFresh g (node_state g)
  fresh = in_round D root me IsFresh fresh_steps

-- what the round's last value says: b is the moment of the round's win
pub record LastValue (g : NodeHistory) (b : NodeHistory) (term version : ℕ) (config : List Id) : Type 0 where
  pub low : (accepted_of b).version ≤ version
  pub within : (r : PublishRequest) → IsSent g (PublishMessage r) → r.state.term ≡ term → ((accepted_of b).version < r.state.version) × (r.state.version ≤ version)
  pub last : (version ≡ (accepted_of b).version) ⊎ ((r : PublishRequest) × IsSent g (PublishMessage r) × (r.state.term ≡ term) × (r.state.version ≡ version) × (r.state.config ≡ config))

abbrev pub HasLast : NodeHistory → NodeState → Type 0
HasLast g p = p.election_won ≡ true → (b : NodeHistory) → WonAt b g → term_of b ≡ p.term → LastValue g b p.term p.published_version p.published_config

module _ (D : Id → NodeHistory) (root : ClusterState) (W : IsSystem D root) (me : Id) where
  -- one more act that is no value changes nothing
  last_later : (g : NodeHistory) (a : Act) (o : Outcome) (b : NodeHistory) (term version : ℕ) (config : List Id) → ((r : PublishRequest) → IsSent (Then g a o) (PublishMessage r) → IsSent g (PublishMessage r))
      → LastValue g b term version config → LastValue (Then g a o) b term version config
  last_later g a o b term version config before l =
      record { low = l.low; within = λ r s. l.within r (before r s); last = from l.last }
    where
      from : (version ≡ (accepted_of b).version) ⊎ ((r : PublishRequest) × IsSent g (PublishMessage r) × (r.state.term ≡ term) × (r.state.version ≡ version) × (r.state.config ≡ config))
          → (version ≡ (accepted_of b).version) ⊎ ((r : PublishRequest) × IsSent (Then g a o) (PublishMessage r) × (r.state.term ≡ term) × (r.state.version ≡ version) × (r.state.config ≡ config))
      from (inl e) = inl e
      from (inr e) = inr (e.0, sent_later g (Then g a o) _ (inr (begins_self g)) e.1, e.2, e.3, e.4)

  -- at a join: the one that wins begins the count of versions
  last_join : (g : NodeHistory) (j : Join) (s : Option Message) (w : Bool) → IsExecution D root me (Then g (TakeJoin j) (ok s w)) → Joined me g j s w → IsUp g → started_join_of g ≡ true → HasLast g (node_state g)
      → (w || election_won_of g) ≡ true → (b : NodeHistory) → WonAt b (Then g (TakeJoin j) (ok s w)) → term_of b ≡ term_of g
      → LastValue (Then g (TakeJoin j) (ok s w)) b (term_of g) (cond w (accepted_of g).version (published_version_of g)) (published_config_of g)
  last_join g j s false f k u st i h b v e = from (won_cases b g _ _ v)
    where
      from : ((b ≡ g) × ((j' : Join) × (TakeJoin j ≡ TakeJoin j')) × (false ≡ true)) ⊎ WonAt b g → LastValue (Then g (TakeJoin j) (ok s false)) b (term_of g) (published_version_of g) (published_config_of g)
      from (inl x) = cc (x.2)
      from (inr x) = last_later g _ _ b (term_of g) (published_version_of g) (published_config_of g) (λ q. other_request D root W me g _ _ q f (λ y z. cc) (λ y. y)) (i h b x e)
  last_join g j s true f k u st i h b v e = from (won_cases b g _ _ v)
    where
      none : IsFresh g (node_state g)
      none = fresh D root W me g f.0 u st

      lost : election_won_of g ≡ false
      lost = not-true _ (and_parts _ _ (sym k.flag)).0

      from : ((b ≡ g) × ((j' : Join) × (TakeJoin j ≡ TakeJoin j')) × (true ≡ true)) ⊎ WonAt b g → LastValue (Then g (TakeJoin j) (ok s true)) b (term_of g) (accepted_of g).version (published_config_of g)
      from (inl x) =
          let same : (accepted_of g).version ≡ (accepted_of b).version = ap (λ (y : NodeHistory). (accepted_of y).version) (sym x.0) in
          record {
            low = omega arith;
            within = λ r y z. other_request D root W me g _ _ r f (λ a d. cc) (λ a. let less = (none lost).1 r a in absurd (omega arith)) y;
            last = inl same;
          }
      from (inr x) = let less = (none lost).0 b x in absurd (omega arith)

  -- at a value: its version is above all of before
  last_value : (g : NodeHistory) (v : ℕ) (c : List Id) (x : ClusterValue) (s : Option Message) (w : Bool) → IsExecution D root me (Then g (Value v c x) (ok s w)) → Valued me g v c x s w → HasLast g (node_state g)
      → (b : NodeHistory) → WonAt b (Then g (Value v c x) (ok s w)) → term_of b ≡ term_of g → LastValue (Then g (Value v c x) (ok s w)) b (term_of g) v c
  last_value g v c x s w f k i b y e =
      let l = i k.won b (other_win D root W me b g _ _ (λ j z. cc) (λ z. z) y) e in
      record {
        low = omega (arith, l.low, k.above);
        within = λ r a d. from l r d (publish_cases D root me g _ _ r f a);
        last = inr (
          record { source = me; state = record { term = term_of g; version = v; parent = Some (id_of (accepted_of g)); config = c; committed = committed_of g; value = x } },
          record { before = g; act = Value v c x; flag = w; is_in = inl (ap (λ (z : Option Message). Then g (Value v c x) (ok z w)) (sym k.sends)) },
          refl,
          refl,
          refl,
        );
      }
    where
      from : (l : LastValue g b (term_of g) (published_version_of g) (published_config_of g)) (r : PublishRequest) → r.state.term ≡ term_of g → (PublishBy me g r (Value v c x) × ((flag : Bool) × (ok s w ≡ ok (Some (PublishMessage r)) flag))) ⊎ IsSent g (PublishMessage r)
          → ((accepted_of b).version < r.state.version) × (r.state.version ≤ v)
      from l r d (inl p) =
          let same : v ≡ r.state.version = cc (p.0.act_is) in
          (omega (arith, l.low, k.above), omega arith)
      from l r d (inr p) = let q = l.within r p d in (q.0, omega (arith, k.above))

  last_steps : RoundSteps D root me HasLast
  last_steps = record {
    quiet = λ g a o p k i h b v e. last_later g a o b p.term p.published_version p.published_config (λ r. sent_quiet g a o _ k) (i h b (won_quiet b g a o k v) e);
    starts = λ g c t s w f k h. cc;
    joins = λ g j s w f k u st i h b v e. last_join g j s w f k u st i h b v e;
    values = λ g v c x s w f k u st i h b y e. last_value g v c x s w f k i b y e;
    publishes = λ g r s w f k u st i h b v e.
        last_later g _ _ b (term_of g) (published_version_of g) (published_config_of g) (λ q. other_request D root W me g _ _ q f (λ y z. cc) (λ x. x)) (i h b (other_win D root W me b g _ _ (λ j y. cc) (λ x. x) v) e);
    responds = λ g r s w f k u st i h b v e.
        last_later g _ _ b (term_of g) (published_version_of g) (published_config_of g) (λ q. other_request D root W me g _ _ q f (λ y z. cc) (λ x. x)) (i h b (other_win D root W me b g _ _ (λ j y. cc) (λ x. x) v) e);
    commits = λ g c s w f k u st i h b v e.
        last_later g _ _ b (term_of g) (published_version_of g) (published_config_of g) (λ q. other_request D root W me g _ _ q f (λ y z. cc) (λ x. x)) (i h b (other_win D root W me b g _ _ (λ j y. cc) (λ x. x) v) e);
    boots = λ g c s w f k u st i h b v e.
        last_later g _ _ b (term_of g) (published_version_of g) (published_config_of g) (λ q. other_request D root W me g _ _ q f (λ y z. cc) (λ x. x)) (i h b (other_win D root W me b g _ _ (λ j y. cc) (λ x. x) v) e);
  }

  pub last_values : (g : NodeHistory) → IsExecution D root me g → IsUp g → election_won_of g ≡ true → (b : NodeHistory) → WonAt b g → term_of b ≡ term_of g → LastValue g b (term_of g) (published_version_of g) (published_config_of g)
  last_values g f u h = in_round D root me HasLast last_steps g f u (won_starts D root me g f h) h

-- each acknowledgement of the round's last value was sent to the node
abbrev pub Acks : (Id → NodeHistory) → Id → NodeHistory → NodeState → Type 0
Acks D me g p = (m : Id) → has m p.publish_votes ≡ true → (p.election_won ≡ true) × IsSent (D m) (ResponseMessage (record { source = m; target = me; term = p.term; version = p.published_version }))

module _ (D : Id → NodeHistory) (root : ClusterState) (W : IsSystem D root) (me : Id) where
  ack_steps : RoundSteps D root me (Acks D me)
  ack_steps = record {
    quiet = λ g a o p k i. i;
    starts = λ g c t s w f k m h. cc;
    joins = λ g j s w f k u st i m h. at_join g j s w k i m h;
    values = λ g v c x s w f k u st i m h. cc;
    publishes = λ g r s w f k u st i. i;
    responds = λ g r s w f k u st i m h. from g r f k i m (or_cases _ _ (sym (has-with_id m r.source (publish_votes_of g)) ∙ h));
    commits = λ g c s w f k u st i. i;
    boots = λ g c s w f k u st i. i;
  }
    where
      at_join : (g : NodeHistory) (j : Join) (s : Option Message) (w : Bool) → Joined me g j s w → Acks D me g (node_state g) → (m : Id) → has m (publish_votes_of g) ≡ true
          → ((w || election_won_of g) ≡ true) × IsSent (D m) (ResponseMessage (record { source = m; target = me; term = term_of g; version = cond w (accepted_of g).version (published_version_of g) }))
      at_join g j s false k i m h = i m h
      at_join g j s true k i m h = absurd (both_ways _ (not-true _ (and_parts _ _ (sym k.flag)).0) (i m h).0)

      from : (g : NodeHistory) (r : PublishResponse) {s : Option Message} {w : Bool} → IsExecution D root me (Then g (Response r) (ok s w)) → Responded me g r s w → Acks D me g (node_state g) → (m : Id)
          → (same r.source m ≡ true) ⊎ (has m (publish_votes_of g) ≡ true) → (election_won_of g ≡ true) × IsSent (D m) (ResponseMessage (record { source = m; target = me; term = term_of g; version = published_version_of g }))
      from g r f k i m (inl e) =
          let is = response_is r m me (term_of g) (published_version_of g) (same_is r.source m e) k.mine k.now k.current in
          (k.won, subst (λ (x : PublishResponse). IsSent (D x.source) (ResponseMessage x)) is f.1.sourced.is_sent)
      from g r f k i m (inr h) = i m h

  pub acks_are_responses : (g : NodeHistory) → IsExecution D root me g → IsUp g → started_join_of g ≡ true → Acks D me g (node_state g)
  acks_are_responses = in_round D root me (Acks D me) ack_steps

-- a round has a term above 0
pub started_above : (D : Id → NodeHistory) (root : ClusterState) (me : Id) (g : NodeHistory) → IsExecution D root me g → IsUp g → started_join_of g ≡ true → 0 < term_of g
started_above D root me = in_round D root me (λ g p. 0 < p.term) (record {
  quiet = λ g a o p k i. i;
  starts = λ g c t s w f k. omega (arith, k.above);
  joins = λ g j s w f k u st i. i;
  values = λ g v c x s w f k u st i. i;
  publishes = λ g r s w f k u st i. i;
  responds = λ g r s w f k u st i. i;
  commits = λ g c s w f k u st i. i;
  boots = λ g c s w f k u st i. i;
})
