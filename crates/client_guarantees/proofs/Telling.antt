-- What a rule's items tell and what they leave of a node and of the requests that it processed: how both are put together of the items' own.
use Rattle.std.proofs.Common.{◌≡◌, ◌⊎◌, ℕ, Bool, true, false, true≢false, List, [], ◌∷◌, ◌++◌, refl, sym, ◌∙◌, ap, subst}
use Rattle.std.specs.Prelude.{if◌then◌else◌}
use Rattle.std.specs.List.{All}
use Rattle.std.proofs.lemmas.List.{append_assoc, append-nil}
use Rattle.std.proofs.lemmas.List.Elements.{All-nil, All-cons, All-head, All-tail, All-append}
use Rattle.cluster_state.specs.declared.request.Request.{Request}
use Rattle.cluster_state.specs.declared.request.Ask.TheVariants as ask
use Rattle.cluster_state.specs.declared.reply.Answer.{Answer}
use Rattle.cluster_state.specs.declared.reply.Answer.TheVariants as answer
use Rattle.cluster_state.specs.declared.reply.Reply.{Reply}
use Rattle.cluster_state.specs.declared.reply.Reply.TheVariants as reply
use Rattle.cluster_state.specs.declared.state.ClusterState.{ClusterState}
use Rattle.cluster_state.specs.declared.state.ClusterValue.{ClusterValue}
use Rattle.cluster_state.specs.declared.state.StateId.{StateId}
use Rattle.cluster_state.specs.States.{id_of}
use Rattle.master_tasks.specs.declared.waiting.Waiting.{Waiting}
use Rattle.master_tasks.specs.declared.waiting.Outgoing.{Outgoing}
use Rattle.master_tasks.specs.NextState.{next_value}
use Rattle.world_model.specs.declared.acts.Act.{Act}
use Rattle.world_model.specs.declared.acts.Act.TheVariants.{Value}
use Rattle.world_model.specs.declared.acts.ActReply.{ActReply}
use Rattle.world_model.specs.declared.acts.Outcome.TheVariants.{Answered}
use Rattle.world_model.specs.NodeState.{NodeState}
use Rattle.world_model.specs.Replies.{is_taken}
use Rattle.world_model.specs.Histories.{History}
use Rattle.world_model.specs.Safety.{Published, IsCommitted, IsIdAtMost}
use Rattle.policy_model.specs.declared.settings.Settings.{Settings}
use Rattle.policy_model.specs.Events.{Met, Heard, PeersAsked, ElectionOff, ElectionSet, RoundBegun, RoundAnswered, RoundEnded, Joined, FollowersChecked, FollowerAnswered, LeaderChecked, LeaderAnswered, Queued, ExclusionsTimedOut, CommitAcked, AppliedAnswered, StateMade, HandedOver, PeerLost, LeaderLost, Item, Opens, Begins, Acts, ChangesMode, Drops, Sends, Replies, Notes}
use Rattle.policy_model.specs.Parts.{published_id}
use Rattle.policy_model.specs.Entries.{replies_in, replies_of}
use Rattle.policy_model.specs.Views.{View, master_now}
use Rattle.policy_model.specs.Moves.{moved, moved_all}
use Rattle.policy_model.specs.Doing as doing
use Rattle.policy_model.proofs.Sweeps.{moved_all-append, replies-append}
use Rattle.client_guarantees.specs.Asked.{MeetsEach, HasNoVoterOf}
use Rattle.client_guarantees.specs.Processed.{processed_into_next, last_id}
use Rattle.client_guarantees.specs.Replies.{HasCommitted}
use Rattle.client_guarantees.proofs.Steady.{Standing, standing, is_steady, IsSteady, Calm, Still, steady_stands, steady_silent}
use Rattle.client_guarantees.proofs.Folding.{IsAmong}
use Rattle.client_guarantees.proofs.Backing.{HasAcceptedLast, Backs}

-- what the claims are about: how a node stands, and what it has processed
pub record Place : Type 0 where
  pub stands : Standing
  pub processed : List Waiting

abbrev pub place : View → List Waiting → Place
place v g = record { stands = standing v; processed = g }

-- ---- what was processed

-- what was processed with one more item, told by what the node was
abbrev pub processed_after : Settings → View → List Waiting → Item → List Waiting
processed_after s v g (Notes StateMade) = g ++ processed_into_next (master_now s v) v.tasks
processed_after s v g i = g

abbrev pub processed_after_all : Settings → View → List Waiting → List Item → List Waiting
processed_after_all s v g [] = g
processed_after_all s v g (i ∷ is) = processed_after_all s (moved s v i) (processed_after s v g i) is

-- an item but the making of a state processes no request
abbrev pub is_made : Item → Bool
is_made (Notes StateMade) = true
is_made i = false

unmade : (s : Settings) (v : View) (g : List Waiting) (i : Item) → is_made i ≡ false → processed_after s v g i ≡ g
unmade s v g (Opens found) e = refl
unmade s v g (Begins event) e = refl
unmade s v g (Acts act o) e = refl
unmade s v g (ChangesMode mode term) e = refl
unmade s v g (Drops member cause) e = refl
unmade s v g (Sends frame) e = refl
unmade s v g (Replies answer) e = refl
unmade s v g (Notes (Met ids)) e = refl
unmade s v g (Notes (Heard peer master)) e = refl
unmade s v g (Notes PeersAsked) e = refl
unmade s v g (Notes ElectionOff) e = refl
unmade s v g (Notes (ElectionSet word)) e = refl
unmade s v g (Notes (RoundBegun word)) e = refl
unmade s v g (Notes (RoundAnswered source term last)) e = refl
unmade s v g (Notes RoundEnded) e = refl
unmade s v g (Notes (Joined ids)) e = refl
unmade s v g (Notes FollowersChecked) e = refl
unmade s v g (Notes (FollowerAnswered from good applied)) e = refl
unmade s v g (Notes LeaderChecked) e = refl
unmade s v g (Notes (LeaderAnswered good)) e = refl
unmade s v g (Notes (Queued conn request)) e = refl
unmade s v g (Notes ExclusionsTimedOut) e = refl
unmade s v g (Notes CommitAcked) e = refl
unmade s v g (Notes AppliedAnswered) e = refl
unmade s v g (Notes StateMade) e = absurd (true≢false e)
unmade s v g (Notes HandedOver) e = refl
unmade s v g (Notes (PeerLost id)) e = refl
unmade s v g (Notes LeaderLost) e = refl

steady_unmade : (i : Item) → is_steady i ≡ true → is_made i ≡ false
steady_unmade (Opens found) e = refl
steady_unmade (Begins event) e = refl
steady_unmade (Acts act o) e = refl
steady_unmade (ChangesMode mode term) e = refl
steady_unmade (Drops member cause) e = refl
steady_unmade (Sends frame) e = refl
steady_unmade (Replies answer) e = refl
steady_unmade (Notes (Met ids)) e = refl
steady_unmade (Notes (Heard peer master)) e = refl
steady_unmade (Notes PeersAsked) e = refl
steady_unmade (Notes ElectionOff) e = refl
steady_unmade (Notes (ElectionSet word)) e = refl
steady_unmade (Notes (RoundBegun word)) e = refl
steady_unmade (Notes (RoundAnswered source term last)) e = refl
steady_unmade (Notes RoundEnded) e = refl
steady_unmade (Notes (Joined ids)) e = refl
steady_unmade (Notes FollowersChecked) e = refl
steady_unmade (Notes (FollowerAnswered from good applied)) e = refl
steady_unmade (Notes LeaderChecked) e = refl
steady_unmade (Notes (LeaderAnswered good)) e = refl
steady_unmade (Notes (Queued conn request)) e = refl
steady_unmade (Notes ExclusionsTimedOut) e = refl
steady_unmade (Notes CommitAcked) e = refl
steady_unmade (Notes AppliedAnswered) e = refl
steady_unmade (Notes StateMade) e = absurd (true≢false (sym e))
steady_unmade (Notes HandedOver) e = refl
steady_unmade (Notes (PeerLost id)) e = refl
steady_unmade (Notes LeaderLost) e = refl

-- what was processed stays so
pub record Grown (g k : List Waiting) : Type 0 where
  pub more : List Waiting
  pub is : k ≡ g ++ more

grown_item : (s : Settings) (v : View) (g : List Waiting) (i : Item) → Grown g (processed_after s v g i)
grown_item s v g (Opens found) = record { more = []; is = sym (append-nil g) }
grown_item s v g (Begins event) = record { more = []; is = sym (append-nil g) }
grown_item s v g (Acts act o) = record { more = []; is = sym (append-nil g) }
grown_item s v g (ChangesMode mode term) = record { more = []; is = sym (append-nil g) }
grown_item s v g (Drops member cause) = record { more = []; is = sym (append-nil g) }
grown_item s v g (Sends frame) = record { more = []; is = sym (append-nil g) }
grown_item s v g (Replies answer) = record { more = []; is = sym (append-nil g) }
grown_item s v g (Notes (Met ids)) = record { more = []; is = sym (append-nil g) }
grown_item s v g (Notes (Heard peer master)) = record { more = []; is = sym (append-nil g) }
grown_item s v g (Notes PeersAsked) = record { more = []; is = sym (append-nil g) }
grown_item s v g (Notes ElectionOff) = record { more = []; is = sym (append-nil g) }
grown_item s v g (Notes (ElectionSet word)) = record { more = []; is = sym (append-nil g) }
grown_item s v g (Notes (RoundBegun word)) = record { more = []; is = sym (append-nil g) }
grown_item s v g (Notes (RoundAnswered source term last)) = record { more = []; is = sym (append-nil g) }
grown_item s v g (Notes RoundEnded) = record { more = []; is = sym (append-nil g) }
grown_item s v g (Notes (Joined ids)) = record { more = []; is = sym (append-nil g) }
grown_item s v g (Notes FollowersChecked) = record { more = []; is = sym (append-nil g) }
grown_item s v g (Notes (FollowerAnswered from good applied)) = record { more = []; is = sym (append-nil g) }
grown_item s v g (Notes LeaderChecked) = record { more = []; is = sym (append-nil g) }
grown_item s v g (Notes (LeaderAnswered good)) = record { more = []; is = sym (append-nil g) }
grown_item s v g (Notes (Queued conn request)) = record { more = []; is = sym (append-nil g) }
grown_item s v g (Notes ExclusionsTimedOut) = record { more = []; is = sym (append-nil g) }
grown_item s v g (Notes CommitAcked) = record { more = []; is = sym (append-nil g) }
grown_item s v g (Notes AppliedAnswered) = record { more = []; is = sym (append-nil g) }
grown_item s v g (Notes StateMade) = record { more = processed_into_next (master_now s v) v.tasks; is = refl }
grown_item s v g (Notes HandedOver) = record { more = []; is = sym (append-nil g) }
grown_item s v g (Notes (PeerLost id)) = record { more = []; is = sym (append-nil g) }
grown_item s v g (Notes LeaderLost) = record { more = []; is = sym (append-nil g) }

grown-trans : (g k l : List Waiting) → Grown g k → Grown k l → Grown g l
grown-trans g k l a b = record { more = a.more ++ b.more; is = b.is ∙ ap (λ (x : List Waiting). x ++ b.more) a.is ∙ append_assoc g a.more b.more }

pub grown : (s : Settings) (v : View) (g : List Waiting) (is : List Item) → Grown g (processed_after_all s v g is)
grown s v g [] = record { more = []; is = sym (append-nil g) }
grown s v g (i ∷ is) = grown-trans g (processed_after s v g i) (processed_after_all s v g (i ∷ is)) (grown_item s v g i) (grown s (moved s v i) (processed_after s v g i) is)

pub processed-append : (s : Settings) (v : View) (g : List Waiting) (xs ys : List Item) → processed_after_all s v g (xs ++ ys) ≡ processed_after_all s (moved_all s v xs) (processed_after_all s v g xs) ys
processed-append s v g [] ys = refl
processed-append s v g (x ∷ xs) ys = processed-append s (moved s v x) (processed_after s v g x) xs ys

past : (s : Settings) (v : View) (g : List Waiting) (outs : List Outgoing) (rest : List Item) → processed_after_all s v g (doing.reply_all s outs ++ rest) ≡ processed_after_all s v g rest
past s v g [] rest = refl
past s v g (x ∷ xs) rest = past s v g xs rest

processed-steady : (s : Settings) (v : View) (g : List Waiting) (is : List Item) → IsSteady is → processed_after_all s v g is ≡ g
processed-steady s v g xs Calm = refl
processed-steady s v g xs (Still i is e q) = processed-steady s (moved s v i) (processed_after s v g i) is q ∙ unmade s v g i (steady_unmade i e)

-- ---- what is told

-- Which requests came, what the node had published last as the event began, which of them it processed into which value while it was so, and of
-- which the state of an id was published after they came.
pub record Basis : Type 1 where
  pub came : ℕ → Request → Type 0
  pub low : StateId
  pub processed : Waiting → NodeState → ClusterValue → Type 0
  pub anew : Waiting → StateId → Type 0

-- one id is at most the other
abbrev pub Up : StateId → StateId → Type 0
Up a b = IsIdAtMost a.term a.version b.term b.version

-- a node has published this, or more
abbrev pub HasReached : StateId → View → Type 0
HasReached low v = Up low (last_id v.node)

-- in the second profile the state of this id was published after the request came
abbrev pub IsNewFor : Settings → Basis → StateId → Waiting → Type 0
IsNewFor s P id w = s.policy.second ≡ true → P.anew w id

-- the state of this id is so for the request, which is the one that the node has accepted, and is committed
pub record WasNewFor (h : History) (P : Basis) (node : NodeState) (w : Waiting) : Type 0 where
  pub new : P.anew w (published_id node)
  pub last : HasAcceptedLast node
  pub committed : HasCommitted h node.accepted

-- an act that publishes a state does so after those requests came that were processed into its value, and those for which the last one was new
abbrev pub Renews : History → Basis → NodeState → Act → ActReply → Type 0
Renews h P node (Value version config value) reply =
    is_taken reply ≡ true → (w : Waiting) → P.came w.conn w.request → P.processed w node value ⊎ WasNewFor h P node w
    → P.anew w (record { term = node.term; version = version })
Renews h P node act reply = Unit {0}

-- the requests that are processed as a state is made
abbrev pub Processes : Settings → Basis → View → Item → Type 0
Processes s P v (Notes StateMade) =
    (w : Waiting) → IsAmong (processed_into_next (master_now s v) v.tasks) w → P.processed w v.node (next_value (master_now s v) v.tasks)
Processes s P v i = Unit {0}

-- when a reply is true, by which requests came and which of them were processed
pub record AckIsTrue (h : History) (s : Settings) (P : Basis) (processed : List Waiting) (conn number : ℕ) (id : StateId) : Type 0 where
  pub request : Waiting
  pub earlier : List Waiting
  pub later : List Waiting
  pub after : List Waiting
  pub is_processed : processed ≡ earlier ++ request ∷ later ++ after
  pub has_conn : request.conn ≡ conn
  pub has_number : request.request.id ≡ number
  pub since : Up P.low id
  pub is_new : IsNewFor s P id request
  pub as_published : Published
  pub is_committed : IsCommitted h as_published
  pub is_id : id_of as_published.state ≡ id
  pub meets : MeetsEach as_published.state.value (request ∷ later)
  pub votes : HasNoVoterOf as_published.state.config request.request.ask

pub record StateIsTrue (h : History) (s : Settings) (P : Basis) (conn number : ℕ) (state : ClusterState) : Type 0 where
  pub request : Waiting
  pub has_conn : request.conn ≡ conn
  pub has_number : request.request.id ≡ number
  pub is_asked : request.request.ask ≡ ask.State
  pub came : P.came request.conn request.request
  pub is_new : IsNewFor s P (id_of state) request
  pub committed : HasCommitted h state

abbrev pub AnswerIsTrue : History → Settings → Basis → List Waiting → ℕ → ℕ → Answer → Type 0
AnswerIsTrue h s P processed conn number (answer.Acked id) = AckIsTrue h s P processed conn number id
AnswerIsTrue h s P processed conn number (answer.State state) = StateIsTrue h s P conn number state
AnswerIsTrue h s P processed conn number other = Unit {0}

abbrev pub ReplyIsTrue : History → Settings → Basis → List Waiting → ℕ → Reply → Type 0
ReplyIsTrue h s P processed conn (reply.To number answer) = AnswerIsTrue h s P processed conn number answer
ReplyIsTrue h s P processed conn (reply.BadLine fault) = Unit {0}

-- each answer is true
abbrev Truth : History → Settings → Basis → List Waiting → Outgoing → Type 0
Truth h s P g out = ReplyIsTrue h s P g out.conn out.reply

pub record AllTrue (h : History) (s : Settings) (P : Basis) (g : List Waiting) (answers : List Outgoing) : Type 0 where
  pub all : All (λ (out : Outgoing). ReplyIsTrue h s P g out.conn out.reply) answers

pub true-none : (h : History) (s : Settings) (P : Basis) (g : List Waiting) → AllTrue h s P g []
true-none h s P g = record { all = All-nil (Truth h s P g) }

pub true-cons : (h : History) (s : Settings) (P : Basis) (g : List Waiting) (out : Outgoing) (outs : List Outgoing) → ReplyIsTrue h s P g out.conn out.reply → AllTrue h s P g outs → AllTrue h s P g (out ∷ outs)
true-cons h s P g out outs t a = record { all = All-cons (Truth h s P g) out outs t a.all }

pub true-append : (h : History) (s : Settings) (P : Basis) (g : List Waiting) (xs ys : List Outgoing) → AllTrue h s P g xs → AllTrue h s P g ys → AllTrue h s P g (xs ++ ys)
true-append h s P g xs ys a b = record { all = All-append (Truth h s P g) xs ys a.all b.all }

-- what is true stays true when more is processed
granted_later : (h : History) (s : Settings) (P : Basis) (g k : List Waiting) (conn number : ℕ) (id : StateId) → Grown g k → AckIsTrue h s P g conn number id → AckIsTrue h s P k conn number id
granted_later h s P g k conn number id m t = record {
  request = t.request;
  earlier = t.earlier;
  later = t.later;
  after = t.after ++ m.more;
  is_processed =
      m.is ∙ ap (λ (x : List Waiting). x ++ m.more) t.is_processed
      ∙ append_assoc (t.earlier ++ t.request ∷ t.later) t.after m.more;
  has_conn = t.has_conn;
  has_number = t.has_number;
  since = t.since;
  is_new = t.is_new;
  as_published = t.as_published;
  is_committed = t.is_committed;
  is_id = t.is_id;
  meets = t.meets;
  votes = t.votes;
}

answer_later : (h : History) (s : Settings) (P : Basis) (g k : List Waiting) (conn number : ℕ) (a : Answer) → Grown g k → AnswerIsTrue h s P g conn number a → AnswerIsTrue h s P k conn number a
answer_later h s P g k conn number (answer.Acked id) m t = granted_later h s P g k conn number id m t
answer_later h s P g k conn number (answer.State state) m t = t
answer_later h s P g k conn number (answer.NotMaster leader) m t = tt
answer_later h s P g k conn number (answer.BadSetting length) m t = tt
answer_later h s P g k conn number (answer.QueueFull count) m t = tt
answer_later h s P g k conn number (answer.TooManySettings count) m t = tt
answer_later h s P g k conn number (answer.TooManyExclusions count) m t = tt
answer_later h s P g k conn number (answer.StillMember id) m t = tt
answer_later h s P g k conn number (answer.FailedToCommit term) m t = tt
answer_later h s P g k conn number (answer.ExclusionTimeout ids) m t = tt

reply_later : (h : History) (s : Settings) (P : Basis) (g k : List Waiting) (conn : ℕ) (r : Reply) → Grown g k → ReplyIsTrue h s P g conn r → ReplyIsTrue h s P k conn r
reply_later h s P g k conn (reply.To number a) m t = answer_later h s P g k conn number a m t
reply_later h s P g k conn (reply.BadLine fault) m t = tt

pub true-later : (h : History) (s : Settings) (P : Basis) (g k : List Waiting) (outs : List Outgoing) → Grown g k → AllTrue h s P g outs → AllTrue h s P k outs
true-later h s P g k [] m a = true-none h s P k
true-later h s P g k (out ∷ outs) m a =
    true-cons h s P k out outs (reply_later h s P g k out.conn out.reply m (All-head (Truth h s P g) out outs a.all)) (true-later h s P g k outs m (record { all = All-tail (Truth h s P g) out outs a.all }))

-- ---- a prefix

no_prefix : (prefix rest : List Item) → [] ≡ prefix ++ rest → prefix ≡ []
no_prefix [] rest e = refl
no_prefix (f ∷ fs) rest e = absurd (cc)

steady_prefix : (prefix rest xs : List Item) → xs ≡ prefix ++ rest → IsSteady xs → IsSteady prefix
steady_prefix [] rest xs e q = Calm
steady_prefix (f ∷ fs) rest xs e Calm = absurd (cc)
steady_prefix (f ∷ fs) rest xs e (Still i is still q) =
    let head : i ≡ f = cc in
    let tail : is ≡ fs ++ rest = cc in
    Still f fs (subst (λ (x : Item). is_steady x ≡ true) head still) (steady_prefix fs rest is tail q)

-- a prefix of two parts ends within the first, or goes on into the second
data Splits (xs ys prefix rest : List Item) : Type 0 where
  Within : (more : List Item) → xs ≡ prefix ++ more → Splits xs ys prefix rest
  Beyond : (more : List Item) → prefix ≡ xs ++ more → ys ≡ more ++ rest → Splits xs ys prefix rest

splits : (xs ys prefix rest : List Item) → xs ++ ys ≡ prefix ++ rest → Splits xs ys prefix rest
splits [] ys prefix rest e = Beyond prefix refl e
splits (x ∷ xs) ys [] rest e = Within (x ∷ xs) refl
splits (x ∷ xs) ys (f ∷ fs) rest e = from (splits xs ys fs rest tail)
  where
    head : x ≡ f
    head = cc

    tail : xs ++ ys ≡ fs ++ rest
    tail = cc

    from : Splits xs ys fs rest → Splits (x ∷ xs) ys (f ∷ fs) rest
    from (Within more q) = Within more (λ i. head i ∷ q i)
    from (Beyond more p q) = Beyond more (λ i. sym head i ∷ p i) q

module _ (h : History) (s : Settings) (P : Basis) where
  -- the history backs each act, what is published is published after who came, and who replies has published that much
  abbrev pub IsBacked : View → Item → Type 0
  IsBacked v (Acts act (Answered reply)) = Backs h v.node act reply × Renews h P v.node act reply
  IsBacked v (Replies answer) = HasReached P.low v
  IsBacked v (Notes note) = Processes s P v (Notes note)
  IsBacked v i = Unit {0}

  abbrev pub AreBacked : View → List Item → Type 0
  AreBacked v [] = Unit {0}
  AreBacked v (i ∷ is) = IsBacked v i × AreBacked (moved s v i) is

  backed_parts : (v : View) (xs ys : List Item) → AreBacked v (xs ++ ys) → AreBacked v xs × AreBacked (moved_all s v xs) ys
  backed_parts v [] ys b = (tt, b)
  backed_parts v (x ∷ xs) ys b = let rest = backed_parts (moved s v x) xs ys b.1 in ((b.0, rest.0), rest.1)

module _ (h : History) (s : Settings) (P : Basis) where
  pub record Ends (v : View) (g : List Waiting) (is : List Item) (Q : Place → Type 0) : Type 0 where
    pub told : AllTrue h s P (processed_after_all s v g is) (replies_of is)
    pub stands : Q (place (moved_all s v is) (processed_after_all s v g is))

  -- Where the history backs their acts, the items tell what is true of what was processed by their end, and leave a node that was v so that Q. Where it
  -- backs the acts of a prefix, what that tells is true.
  pub record Keeps (v : View) (g : List Waiting) (is : List Item) (Q : Place → Type 0) : Type 0 where
    pub ends : AreBacked h s P v is → Ends v g is Q
    pub within : (prefix rest : List Item) → is ≡ prefix ++ rest → AreBacked h s P v prefix → AllTrue h s P (processed_after_all s v g is) (replies_of prefix)

  pub keeps-none : (v : View) (g : List Waiting) (Q : Place → Type 0) → Q (place v g) → Keeps v g [] Q
  keeps-none v g Q q = record {
    ends = λ b. record { told = true-none h s P g; stands = q };
    within = λ prefix rest e b. subst (λ (f : List Item). AllTrue h s P g (replies_of f)) (sym (no_prefix prefix rest e)) (true-none h s P g);
  }

  pub keeps-append : (v : View) (g : List Waiting) (xs ys : List Item) (R Q : Place → Type 0) → Keeps v g xs R
      → (R (place (moved_all s v xs) (processed_after_all s v g xs)) → Keeps (moved_all s v xs) (processed_after_all s v g xs) ys Q) → Keeps v g (xs ++ ys) Q
  keeps-append v g xs ys R Q a next = record { ends = λ b. from (backed_parts h s P v xs ys b); within = λ prefix rest e b. part prefix rest b (splits xs ys prefix rest e) }
    where
      from : AreBacked h s P v xs × AreBacked h s P (moved_all s v xs) ys → Ends v g (xs ++ ys) Q
      from b =
          let first = a.ends b.0 in
          let second = (next first.stands).ends b.1 in
          let k = processed_after_all s v g xs in
          let l = processed_after_all s (moved_all s v xs) k ys in
          record {
            told =
                subst (λ (p : List Waiting). AllTrue h s P p (replies_of (xs ++ ys))) (sym (processed-append s v g xs ys))
                (subst (AllTrue h s P l) (sym (replies-append xs ys)) (true-append h s P l (replies_of xs) (replies_of ys) (true-later h s P k l (replies_of xs) (grown s (moved_all s v xs) k ys) first.told) second.told));
            stands =
                subst (λ (p : List Waiting). Q (place (moved_all s v (xs ++ ys)) p)) (sym (processed-append s v g xs ys))
                (subst (λ (u : View). Q (place u l)) (sym (moved_all-append s v xs ys)) second.stands);
          }

      part : (prefix rest : List Item) → AreBacked h s P v prefix → Splits xs ys prefix rest → AllTrue h s P (processed_after_all s v g (xs ++ ys)) (replies_of prefix)
      part prefix rest b (Within more q) =
          let k = processed_after_all s v g xs in
          let l = processed_after_all s (moved_all s v xs) k ys in
          subst (λ (p : List Waiting). AllTrue h s P p (replies_of prefix)) (sym (processed-append s v g xs ys))
          (true-later h s P k l (replies_of prefix) (grown s (moved_all s v xs) k ys) (a.within prefix more q b))
      part prefix rest b (Beyond more p q) =
          let both = backed_parts h s P v xs more (subst (λ (f : List Item). AreBacked h s P v f) p b) in
          let first = a.ends both.0 in
          let second = (next first.stands).within more rest q both.1 in
          let k = processed_after_all s v g xs in
          let l = processed_after_all s (moved_all s v xs) k ys in
          subst (λ (p : List Waiting). AllTrue h s P p (replies_of prefix)) (sym (processed-append s v g xs ys))
          (subst (λ (f : List Item). AllTrue h s P l (replies_of f)) (sym p)
          (subst (AllTrue h s P l) (sym (replies-append xs more)) (true-append h s P l (replies_of xs) (replies_of more) (true-later h s P k l (replies_of xs) (grown s (moved_all s v xs) k ys) first.told) second)))

  pub keeps-then : (v : View) (g : List Waiting) (xs : List Item) (rule : View → List Item) (R Q : Place → Type 0) → Keeps v g xs R → ((u : View) (k : List Waiting) → R (place u k) → Keeps u k (rule u) Q)
      → Keeps v g (doing.then_rule s v xs rule) Q
  keeps-then v g xs rule R Q a next = keeps-append v g xs (rule (moved_all s v xs)) R Q a (next (moved_all s v xs) (processed_after_all s v g xs))

  pub keeps-if : (v : View) (g : List Waiting) (b : Bool) (xs ys : List Item) (Q : Place → Type 0) → (b ≡ true → Keeps v g xs Q) → (b ≡ false → Keeps v g ys Q) → Keeps v g (if b then xs else ys) Q
  keeps-if v g true xs ys Q k l = k refl
  keeps-if v g false xs ys Q k l = l refl

  -- an item that tells nothing, and then the others
  pub keeps-item : (v : View) (g : List Waiting) (i : Item) (is : List Item) (Q : Place → Type 0) → replies_in i ≡ [] → (IsBacked h s P v i → Keeps (moved s v i) (processed_after s v g i) is Q) → Keeps v g (i ∷ is) Q
  keeps-item v g i is Q silent next = record {
    ends = λ b.
        let rest = (next b.0).ends b.1 in
        record { told = subst (λ (l : List Outgoing). AllTrue h s P (processed_after_all s v g (i ∷ is)) (l ++ replies_of is)) (sym silent) rest.told; stands = rest.stands };
    within = part;
  }
    where
      part : (prefix rest : List Item) → i ∷ is ≡ prefix ++ rest → AreBacked h s P v prefix → AllTrue h s P (processed_after_all s v g (i ∷ is)) (replies_of prefix)
      part [] rest e b = true-none h s P (processed_after_all s v g (i ∷ is))
      part (f ∷ fs) rest e b =
          let head : i ≡ f = cc in
          let tail : is ≡ fs ++ rest = cc in
          let own : AreBacked h s P v (i ∷ fs) = subst (λ (x : Item). AreBacked h s P v (x ∷ fs)) (sym head) b in
          subst (λ (x : Item). AllTrue h s P (processed_after_all s v g (i ∷ is)) (replies_of (x ∷ fs))) head
          (subst (λ (l : List Outgoing). AllTrue h s P (processed_after_all s v g (i ∷ is)) (l ++ replies_of fs)) (sym silent) ((next own.0).within fs rest tail own.1))

  pub keeps-steady : (v : View) (g : List Waiting) (is : List Item) (Q : Place → Type 0) → IsSteady is → Q (place v g) → Keeps v g is Q
  keeps-steady v g is Q q k = record {
    ends = λ b.
        record {
          told = subst (AllTrue h s P (processed_after_all s v g is)) (sym (steady_silent is q)) (true-none h s P (processed_after_all s v g is));
          stands = subst (λ (p : List Waiting). Q (place (moved_all s v is) p)) (sym (processed-steady s v g is q)) (subst (λ (x : Standing). Q (record { stands = x; processed = g })) (sym (steady_stands s v is q)) k);
        };
    within = λ prefix rest e b. subst (AllTrue h s P (processed_after_all s v g is)) (sym (steady_silent prefix (steady_prefix prefix rest is e q))) (true-none h s P (processed_after_all s v g is));
  }

  -- a reply that is true of what is processed by the end, and what comes after it
  keeps-first : (v : View) (g : List Waiting) (out : Outgoing) (is : List Item) (Q : Place → Type 0) → (HasReached P.low v → ReplyIsTrue h s P (processed_after_all s v g is) out.conn out.reply) → Keeps v g is Q
      → Keeps v g (Replies out ∷ is) Q
  keeps-first v g out is Q t k = record {
    ends = λ b.
        let more = k.ends b.1 in
        record { told = true-cons h s P (processed_after_all s v g is) out (replies_of is) (t b.0) more.told; stands = more.stands };
    within = part;
  }
    where
      part : (prefix rest : List Item) → Replies out ∷ is ≡ prefix ++ rest → AreBacked h s P v prefix → AllTrue h s P (processed_after_all s v g is) (replies_of prefix)
      part [] rest e b = true-none h s P (processed_after_all s v g is)
      part (f ∷ fs) rest e b =
          let head : Replies out ≡ f = cc in
          let tail : is ≡ fs ++ rest = cc in
          let own : AreBacked h s P v (Replies out ∷ fs) = subst (λ (x : Item). AreBacked h s P v (x ∷ fs)) (sym head) b in
          subst (λ (x : Item). AllTrue h s P (processed_after_all s v g is) (replies_of (x ∷ fs))) head
          (true-cons h s P (processed_after_all s v g is) out (replies_of fs) (t own.0) (k.within fs rest tail own.1))

  -- replies that are true so, and what comes after them
  pub keeps-replies : (v : View) (g : List Waiting) (answers : List Outgoing) (rest : List Item) (Q : Place → Type 0) → (HasReached P.low v → AllTrue h s P (processed_after_all s v g rest) answers) → Keeps v g rest Q
      → Keeps v g (doing.reply_all s answers ++ rest) Q
  keeps-replies v g [] rest Q a k = k
  keeps-replies v g (out ∷ outs) rest Q a k =
      keeps-first v g out (doing.reply_all s outs ++ rest) Q
      (λ r. subst (λ (p : List Waiting). ReplyIsTrue h s P p out.conn out.reply) (sym (past s v g outs rest)) (All-head (Truth h s P (processed_after_all s v g rest)) out outs (a r).all))
      (keeps-replies v g outs rest Q (λ r. record { all = All-tail (Truth h s P (processed_after_all s v g rest)) out outs (a r).all }) k)

  pub keeps-answers : (v : View) (g : List Waiting) (answers : List Outgoing) (rest : List Item) (Q : Place → Type 0) → (HasReached P.low v → AllTrue h s P g answers) → Keeps v g rest Q → Keeps v g (doing.reply_all s answers ++ rest) Q
  keeps-answers v g answers rest Q a k = keeps-replies v g answers rest Q (λ r. true-later h s P g (processed_after_all s v g rest) answers (grown s v g rest) (a r)) k

  pub keeps-all : (v : View) (g : List Waiting) (answers : List Outgoing) (Q : Place → Type 0) → (HasReached P.low v → AllTrue h s P g answers) → Q (place v g) → Keeps v g (doing.reply_all s answers) Q
  keeps-all v g answers Q a k = subst (λ (l : List Item). Keeps v g l Q) (append-nil (doing.reply_all s answers)) (keeps-answers v g answers [] Q a (keeps-none v g Q k))

  pub keeps-reply : (v : View) (g : List Waiting) (out : Outgoing) (Q : Place → Type 0) → (HasReached P.low v → ReplyIsTrue h s P g out.conn out.reply) → Q (place v g) → Keeps v g (Replies out ∷ []) Q
  keeps-reply v g out Q t k = keeps-first v g out [] Q t (keeps-none v g Q k)
