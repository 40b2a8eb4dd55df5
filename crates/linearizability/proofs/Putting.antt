-- What a rule's items tell of the requests that a run has taken, and what they leave of a node, by the second profile.
use Rattle.std.proofs.Common.{◌≡◌, ◌≢◌, inl, inr, ℕ, Bool, true, false, true≢false, Option, None, Some, List, [], ◌∷◌, ◌++◌, refl, sym, ◌∙◌, ap, subst}
use Rattle.std.specs.Prelude.{if◌then◌else◌, not, ◌&&◌}
use Rattle.std.specs.List.{Contains, cons_option}
use Rattle.std.specs.Option.{option_map}
use Rattle.std.proofs.lemmas.Bool.{and_parts, not-true}
use Rattle.voting_config.specs.Ids.{Id, some_among}
use Rattle.cluster_state.specs.States.{id_of}
use Rattle.cluster_state.specs.declared.reply.Answer.{Answer}
use Rattle.cluster_state.specs.declared.reply.Answer.TheVariants as answer
use Rattle.cluster_state.specs.declared.reply.Reply.{Reply}
use Rattle.cluster_state.specs.declared.reply.Reply.TheVariants as reply
use Rattle.cluster_state.specs.declared.request.Ask.{Ask}
use Rattle.cluster_state.specs.declared.request.Ask.TheVariants as ask
use Rattle.cluster_state.specs.declared.state.ClusterState.{ClusterState}
use Rattle.cluster_state.specs.declared.state.ClusterValue.{ClusterValue}
use Rattle.cluster_state.specs.declared.state.StateId.{StateId}
use Rattle.master_tasks.specs.declared.waiting.Waiting.{Waiting}
use Rattle.master_tasks.specs.declared.waiting.Outgoing.{Outgoing}
use Rattle.master_tasks.specs.Replying.{answer_to}
use Rattle.master_tasks.specs.Answering.{answers_by, waits_applied, committed_in, applied_in, answer_applied}
use Rattle.world_model.specs.declared.acts.Act.{Act}
use Rattle.world_model.specs.declared.acts.Act.TheVariants.{Value}
use Rattle.world_model.specs.declared.acts.ActReply.{ActReply}
use Rattle.world_model.specs.declared.acts.ActReply.TheVariants.{Taken}
use Rattle.world_model.specs.declared.acts.Outcome.TheVariants.{Answered}
use Rattle.world_model.specs.NodeState.{NodeState}
use Rattle.world_model.specs.Replies.{is_taken}
use Rattle.world_model.specs.Histories.{History}
use Rattle.world_model.specs.Safety.{Published, published, Descends}
use Rattle.policy_model.specs.declared.settings.Settings.{Settings}
use Rattle.policy_model.specs.Events.{Note, Met, Heard, PeersAsked, ElectionOff, ElectionSet, RoundBegun, RoundAnswered, RoundEnded, FollowersChecked, FollowerAnswered, LeaderChecked, LeaderAnswered, StateMade, HandedOver, PeerLost, LeaderLost, Item, Opens, Begins, Acts, ChangesMode, Drops, Sends, Replies, Notes}
use Rattle.policy_model.specs.Parts.{published_id}
use Rattle.policy_model.specs.Views.{View, master_now}
use Rattle.policy_model.specs.Moves.{moved, moved_all}
use Rattle.policy_model.specs.Doing as doing
use Rattle.policy_model.specs.NextState.{is_in_flight}
use Rattle.client_guarantees.specs.Processed.{processed_into_next}
use Rattle.client_guarantees.specs.Replies.{HasCommitted}
use Rattle.client_guarantees.proofs.Backing.{Backs, IsUnique, HasCommittedId, state_of}
use Rattle.client_guarantees.proofs.Steady.{Standing, standing, is_steady, is_steady_note, IsSteady, Calm, Still, steady_stands}
use Rattle.client_guarantees.proofs.Leading.{Stands, IsReady}
use Rattle.client_guarantees.proofs.Folding.{Each, each-map, IsAmong}
use Rattle.linearizability.proofs.Accounts.{IsIn}
use Rattle.linearizability.proofs.Places.{Speaks}

-- ---- what is taken

-- a request, and the id of the state into which it was processed
pub record Tag : Type 0 where
  pub id : StateId
  pub request : Waiting

abbrev pub tag_all : StateId → List Waiting → List Tag
tag_all id [] = []
tag_all id (w ∷ ws) = record { id = id; request = w } ∷ tag_all id ws

-- the requests that were processed into a state that is not published yet, and those of published ones
pub record Takes : Type 0 where
  pub made : List Waiting
  pub taken : List Tag

abbrev pub takes_after : Settings → View → Takes → Item → Takes
takes_after s v g (Opens found) = record { made = []; taken = [] }
takes_after s v g (Begins event) = record { made = []; taken = g.taken }
takes_after s v g (Notes StateMade) = record { made = processed_into_next (master_now s v) v.tasks; taken = g.taken }
takes_after s v g (Acts (Value version config value) (Answered (Taken sends wins))) =
    record { made = []; taken = g.taken ++ tag_all (record { term = v.node.term; version = version }) g.made }
takes_after s v g (Acts (Value version config value) o) = record { made = []; taken = g.taken }
takes_after s v g i = g

abbrev pub takes_all : Settings → View → Takes → List Item → Takes
takes_all s v g [] = g
takes_all s v g (i ∷ is) = takes_all s (moved s v i) (takes_after s v g i) is

pub in-tags : (id : StateId) (ws : List Waiting) (w : Waiting) → IsAmong ws w → IsIn (tag_all id ws) (record { id = id; request = w })
in-tags id [] w a = absurd a
in-tags id (x ∷ xs) w (inl e) = inl (ap (λ (u : Waiting). record { id = id; request = u }) e)
in-tags id (x ∷ xs) w (inr a) = inr (in-tags id xs w a)

-- ---- places

-- as a place in a log, told by what is taken
pub record AnswerHasPlace (h : History) (taken : List Tag) (conn number : ℕ) (a : Answer) : Type 0 where
  pub tag : Tag
  pub is_in : IsIn taken tag
  pub as_published : Published
  pub is_published : Contains (published h) as_published
  pub is_id : id_of as_published.state ≡ tag.id
  pub has_conn : tag.request.conn ≡ conn
  pub has_number : tag.request.request.id ≡ number
  pub speaks : Speaks h as_published.state tag.request.request.ask a

abbrev pub AnswerIsPlaced : History → List Tag → ℕ → ℕ → Answer → Type 0
AnswerIsPlaced h taken conn number (answer.Acked id) = AnswerHasPlace h taken conn number (answer.Acked id)
AnswerIsPlaced h taken conn number (answer.State state) = AnswerHasPlace h taken conn number (answer.State state)
AnswerIsPlaced h taken conn number other = Unit {0}

abbrev pub ReplyIsPlaced : History → List Tag → ℕ → Reply → Type 0
ReplyIsPlaced h taken conn (reply.To number a) = AnswerIsPlaced h taken conn number a
ReplyIsPlaced h taken conn (reply.BadLine fault) = Unit {0}

abbrev pub AllPlaced : History → List Tag → List Outgoing → Type 0
AllPlaced h taken [] = Unit {0}
AllPlaced h taken (out ∷ outs) = ReplyIsPlaced h taken out.conn out.reply × AllPlaced h taken outs

-- A request that waits and was processed: the state into which it was, and the one of this id that was published last and made of it. A read
-- waits no longer than its own state is in flight.
pub record WasPut (h : History) (taken : List Tag) (id : StateId) (flight : Bool) (w : Waiting) : Type 0 where
  pub tag : Tag
  pub is_in : IsIn taken tag
  pub is_request : tag.request ≡ w
  pub as_published : Published
  pub is_published : Contains (published h) as_published
  pub is_id : id_of as_published.state ≡ tag.id
  pub last : Published
  pub is_last : Contains (published h) last
  pub last_id : id_of last.state ≡ id
  pub descends : Descends h as_published.state last.state
  pub read : w.request.ask ≡ ask.State → (as_published ≡ last) × (flight ≡ true)

abbrev pub Puts : History → List Tag → StateId → Bool → Waiting → Type 0
Puts h taken id flight w = w.processed ≡ true → WasPut h taken id flight w

pub in_flight : {h : History} {taken : List Tag} {id : StateId} {flight : Bool} {w : Waiting} → WasPut h taken id flight w → WasPut h taken id true w
in_flight p = record {
  tag = p.tag;
  is_in = p.is_in;
  is_request = p.is_request;
  as_published = p.as_published;
  is_published = p.is_published;
  is_id = p.is_id;
  last = p.last;
  is_last = p.is_last;
  last_id = p.last_id;
  descends = p.descends;
  read = λ e. ((p.read e).0, refl);
}

-- no read
pub landed : {h : History} {taken : List Tag} {id : StateId} {flight now : Bool} {w : Waiting} → w.request.ask ≢ ask.State → WasPut h taken id flight w → WasPut h taken id now w
landed n p = record {
  tag = p.tag;
  is_in = p.is_in;
  is_request = p.is_request;
  as_published = p.as_published;
  is_published = p.is_published;
  is_id = p.is_id;
  last = p.last;
  is_last = p.is_last;
  last_id = p.last_id;
  descends = p.descends;
  read = λ e. absurd (n e);
}

-- ---- answers

module _ (h : History) (U : IsUnique h) (taken : List Tag) where
  pub acked_so : (id : StateId) (flight : Bool) (w : Waiting) → WasPut h taken id flight w → HasCommittedId h id → w.request.ask ≢ ask.State → AnswerHasPlace h taken w.conn w.request.id (answer.Acked id)
  acked_so id flight w p c n = record {
    tag = p.tag;
    is_in = p.is_in;
    as_published = p.as_published;
    is_published = p.is_published;
    is_id = p.is_id;
    has_conn = ap (λ (x : Waiting). x.conn) p.is_request;
    has_number = ap (λ (x : Waiting). x.request.id) p.is_request;
    speaks = record {
      acked = c.as_published;
      is_committed = c.is_committed;
      is_id = c.is_id;
      descends = subst (λ (q : Published). Descends h p.as_published.state q.state) (U.same p.last c.as_published p.is_last c.is_committed.0 (p.last_id ∙ sym c.is_id)) p.descends;
      no_read = λ e. n (sym (ap (λ (x : Waiting). x.request.ask) p.is_request) ∙ e);
    };
  }

  shown_so : (state : ClusterState) (flight : Bool) (w : Waiting) → WasPut h taken (id_of state) flight w → HasCommitted h state → w.request.ask ≡ ask.State → AnswerHasPlace h taken w.conn w.request.id (answer.State state)
  shown_so state flight w p c e =
      let last : p.last ≡ c.as_published = U.same p.last c.as_published p.is_last c.is_committed.0 (p.last_id ∙ sym (ap id_of c.is_state)) in
      record {
        tag = p.tag;
        is_in = p.is_in;
        as_published = p.as_published;
        is_published = p.is_published;
        is_id = p.is_id;
        has_conn = ap (λ (x : Waiting). x.conn) p.is_request;
        has_number = ap (λ (x : Waiting). x.request.id) p.is_request;
        speaks = record {
          is_read = ap (λ (x : Waiting). x.request.ask) p.is_request ∙ e;
          same = ap (λ (q : Published). q.state) ((p.read e).0 ∙ last) ∙ c.is_state;
          committed = c;
        };
      }

  abbrev pub TellsOption : Waiting → Option Answer → Type 0
  TellsOption w None = Unit {0}
  TellsOption w (Some a) = AnswerIsPlaced h taken w.conn w.request.id a

  decided : (w : Waiting) (o : Option Answer) (rest : List Outgoing) → TellsOption w o → AllPlaced h taken rest → AllPlaced h taken (cons_option (option_map (answer_to w) o) rest)
  decided w None rest t a = a
  decided w (Some x) rest t a = (t, a)

  pub placed-answers : (decide : Waiting → Option Answer) (ws : List Waiting) → Each (λ w. TellsOption w (decide w)) ws → AllPlaced h taken (answers_by decide ws)
  placed-answers decide [] e = tt
  placed-answers decide (w ∷ ws) e = decided w (decide w) (answers_by decide ws) e.0 (placed-answers decide ws e.1)

  pub tells-if : (w : Waiting) (b : Bool) (x y : Option Answer) → (b ≡ true → TellsOption w x) → (b ≡ false → TellsOption w y) → TellsOption w (if b then x else y)
  tells-if w true x y t u = t refl
  tells-if w false x y t u = u refl

  no_read : (a : Ask) → waits_applied a ≡ false → a ≢ ask.State
  no_read a e q = true≢false (sym (ap waits_applied q) ∙ e)

  pub placed-committed_in : (id : StateId) (flight : Bool) → HasCommittedId h id → (ws : List Waiting) → Each (Puts h taken id flight) ws → AllPlaced h taken (answers_by (committed_in id) ws)
  placed-committed_in id flight c ws e =
      placed-answers (committed_in id) ws
      (each-map (Puts h taken id flight) (λ w. TellsOption w (committed_in id w))
      (λ w p. tells-if w (w.processed && not (waits_applied w.request.ask)) (Some (answer.Acked id)) None
      (λ t. let parts = and_parts _ _ t in acked_so id flight w (p parts.0) c (no_read w.request.ask (not-true _ parts.1))) (λ t. tt)) ws e)

  differs : (ids : List Id) (a : Ask) → a ≡ ask.Exclude ids → a ≢ ask.State
  differs ids a e q = true≢false (sym (ap excludes (sym e ∙ q)))
    where
      excludes : Ask → Bool
      excludes (ask.Exclude ids) = false
      excludes other = true

  applied_one : (committed : List Id) (accepted : ClusterState) (flight : Bool) → HasCommitted h accepted → (w : Waiting) (a : Ask) → w.request.ask ≡ a → WasPut h taken (id_of accepted) flight w
      → TellsOption w (answer_applied committed accepted a)
  applied_one committed accepted flight c w (ask.Put key text) e p = tt
  applied_one committed accepted flight c w (ask.Remove key) e p = tt
  applied_one committed accepted flight c w (ask.Exclude ids) e p =
      tells-if w (some_among ids committed) None (Some (answer.Acked (id_of accepted))) (λ t. tt)
      (λ t. acked_so (id_of accepted) flight w p (record { as_published = c.as_published; is_committed = c.is_committed; is_id = ap id_of c.is_state }) (differs ids w.request.ask e))
  applied_one committed accepted flight c w (ask.Clear wait) e p = tt
  applied_one committed accepted flight c w ask.State e p = shown_so accepted flight w p c e

  pub placed-applied_in : (committed : List Id) (accepted : ClusterState) (flight : Bool) → HasCommitted h accepted → (ws : List Waiting) → Each (Puts h taken (id_of accepted) flight) ws
      → AllPlaced h taken (answers_by (applied_in committed accepted) ws)
  placed-applied_in committed accepted flight c ws e =
      placed-answers (applied_in committed accepted) ws
      (each-map (Puts h taken (id_of accepted) flight) (λ w. TellsOption w (applied_in committed accepted w))
      (λ w p. tells-if w w.processed (answer_applied committed accepted w.request.ask) None (λ t. applied_one committed accepted flight c w w.request.ask refl (p t)) (λ t. tt)) ws e)

-- ---- rules

module _ (h : History) (s : Settings) where
  -- a value that is taken is published
  pub record IsPublishedSo (p : NodeState) (version : ℕ) (config : List Id) (value : ClusterValue) : Type 0 where
    pub as_published : Published
    pub is_in : Contains (published h) as_published
    pub is_state : as_published.state ≡ state_of p version config value
    pub parent : as_published.parent ≡ p.accepted

  abbrev pub Publishes : NodeState → Act → ActReply → Type 0
  Publishes p (Value version config value) r = is_taken r ≡ true → IsPublishedSo p version config value
  Publishes p act r = Unit {0}

  abbrev pub IsSound : View → Item → Type 0
  IsSound v (Acts act (Answered r)) = Backs h v.node act r × Publishes v.node act r
  IsSound v i = Unit {0}

  abbrev pub Tells : List Tag → Item → Type 0
  Tells taken (Replies out) = ReplyIsPlaced h taken out.conn out.reply
  Tells taken i = Unit {0}

  -- as far as the history backs the acts, each reply is placed; and at the end Q
  abbrev pub Safe : View → Takes → List Item → (Standing → Takes → Type 0) → Type 0
  Safe v g [] Q = Q (standing v) g
  Safe v g (i ∷ is) Q = IsSound v i → Tells g.taken i × Safe (moved s v i) (takes_after s v g i) is Q

  pub safe-append : (v : View) (g : Takes) (xs ys : List Item) (R Q : Standing → Takes → Type 0) → Safe v g xs R
      → (R (standing (moved_all s v xs)) (takes_all s v g xs) → Safe (moved_all s v xs) (takes_all s v g xs) ys Q) → Safe v g (xs ++ ys) Q
  safe-append v g [] ys R Q a f = f a
  safe-append v g (x ∷ xs) ys R Q a f = λ b. let n = a b in (n.0, safe-append (moved s v x) (takes_after s v g x) xs ys R Q n.1 f)

  pub safe-then : (v : View) (g : Takes) (xs : List Item) (rule : View → List Item) (R Q : Standing → Takes → Type 0) → Safe v g xs R → ((u : View) (k : Takes) → R (standing u) k → Safe u k (rule u) Q)
      → Safe v g (doing.then_rule s v xs rule) Q
  safe-then v g xs rule R Q a f = safe-append v g xs (rule (moved_all s v xs)) R Q a (f (moved_all s v xs) (takes_all s v g xs))

  pub safe-if : (v : View) (g : Takes) (b : Bool) (xs ys : List Item) (Q : Standing → Takes → Type 0) → (b ≡ true → Safe v g xs Q) → (b ≡ false → Safe v g ys Q) → Safe v g (if b then xs else ys) Q
  safe-if v g true xs ys Q k l = k refl
  safe-if v g false xs ys Q k l = l refl

  pub safe-answers : (v : View) (g : Takes) (outs : List Outgoing) (rest : List Item) (Q : Standing → Takes → Type 0) → AllPlaced h g.taken outs → Safe v g rest Q → Safe v g (doing.reply_all s outs ++ rest) Q
  safe-answers v g [] rest Q a k = k
  safe-answers v g (out ∷ outs) rest Q a k = λ b. (a.0, safe-answers v g outs rest Q a.1 k)

  pub safe-replies : (v : View) (g : Takes) (outs : List Outgoing) (Q : Standing → Takes → Type 0) → AllPlaced h g.taken outs → Q (standing v) g → Safe v g (doing.reply_all s outs) Q
  safe-replies v g [] Q a k = k
  safe-replies v g (out ∷ outs) Q a k = λ b. (a.0, safe-replies v g outs Q a.1 k)

  steady_takes : (v : View) (g : Takes) (n : Note) → is_steady_note n ≡ true → takes_after s v g (Notes n) ≡ g
  steady_takes v g (Met ids) e = refl
  steady_takes v g (Heard peer master) e = refl
  steady_takes v g PeersAsked e = refl
  steady_takes v g ElectionOff e = refl
  steady_takes v g (ElectionSet word) e = refl
  steady_takes v g (RoundBegun word) e = refl
  steady_takes v g (RoundAnswered source term last) e = refl
  steady_takes v g RoundEnded e = refl
  steady_takes v g FollowersChecked e = refl
  steady_takes v g (FollowerAnswered from good applied) e = refl
  steady_takes v g LeaderChecked e = refl
  steady_takes v g (LeaderAnswered good) e = refl
  steady_takes v g HandedOver e = refl
  steady_takes v g (PeerLost id) e = refl
  steady_takes v g LeaderLost e = refl
  steady_takes v g n e = cc

  steady_item : (v : View) (g : Takes) (i : Item) → is_steady i ≡ true → (takes_after s v g i ≡ g) × Tells g.taken i
  steady_item v g (Sends frame) e = (refl, tt)
  steady_item v g (Drops member cause) e = (refl, tt)
  steady_item v g (Notes note) e = (steady_takes v g note e, tt)
  steady_item v g (Opens found) e = cc
  steady_item v g (Begins event) e = cc
  steady_item v g (Acts act o) e = cc
  steady_item v g (ChangesMode mode term) e = cc
  steady_item v g (Replies answer) e = cc

  pub safe-steady : (v : View) (g : Takes) (is : List Item) (Q : Standing → Takes → Type 0) → IsSteady is → Q (standing v) g → Safe v g is Q
  safe-steady v g xs Q Calm k = k
  safe-steady v g xs Q (Still i is e q) k = λ b.
      let own = steady_item v g i e in
      let same = steady_stands s v (i ∷ []) (Still i [] e Calm) in
      (own.1, safe-steady (moved s v i) (takes_after s v g i) is Q q (subst (λ (x : Standing). Q x (takes_after s v g i)) (sym same) (subst (Q (standing v)) (sym own.0) k)))

  -- ---- how a node stands

  -- between events
  pub record Stays (x : Standing) (g : Takes) : Type 0 where
    pub stands : Stands h s x
    pub put : Each (Puts h g.taken (published_id x.node) (is_in_flight x.publication)) x.waiting

  -- before a leader goes on
  pub record GoesOn (x : Standing) (g : Takes) : Type 0 where
    pub ready : IsReady h s x
    pub put : Each (Puts h g.taken (published_id x.node) (is_in_flight x.publication)) x.waiting
