-- Each reply of a run of the second profile that speaks of a committed state has its place.
use Rattle.std.proofs.Common.{◌≡◌, ◌≢◌, ◌⊎◌, inl, inr, ℕ, true, false, true≢false, List, [], ◌∷◌, ◌++◌, refl, sym, ◌∙◌, ap, subst}
use Rattle.std.specs.List.{Contains, All}
use Rattle.std.proofs.lemmas.Bool.{both_ways, and_parts, not-true}
use Rattle.std.proofs.lemmas.List.Elements.{All-nil, All-cons, All-contains}
use Rattle.cluster_state.specs.States.{id_of}
use Rattle.cluster_state.specs.declared.reply.Answer.{Answer}
use Rattle.cluster_state.specs.declared.reply.Answer.TheVariants as answer
use Rattle.cluster_state.specs.declared.reply.Reply.{Reply}
use Rattle.cluster_state.specs.declared.reply.Reply.TheVariants as reply
use Rattle.cluster_state.specs.declared.state.ClusterState.{ClusterState}
use Rattle.cluster_state.specs.declared.state.ClusterValue.{ClusterValue}
use Rattle.cluster_state.specs.declared.state.StateId.{StateId}
use Rattle.voting_config.specs.Ids.{Id}
use Rattle.master_tasks.specs.declared.waiting.Outgoing.{Outgoing}
use Rattle.master_tasks.specs.declared.waiting.Waiting.{Waiting}
use Rattle.world_model.specs.declared.acts.Act.{Act}
use Rattle.world_model.specs.declared.acts.Act.TheVariants.{Bootstrap, StartJoin, TakeJoin, Value, Publish, Response, Commit, Open}
use Rattle.world_model.specs.declared.acts.ActReply.{ActReply}
use Rattle.world_model.specs.declared.acts.ActReply.TheVariants.{Taken, Refused, Stopped}
use Rattle.world_model.specs.declared.acts.Outcome.{Outcome}
use Rattle.world_model.specs.declared.acts.Outcome.TheVariants.{Answered, Disk, Crashed}
use Rattle.world_model.specs.Acts.{NodeHistory, NoActs, Then, is_opening}
use Rattle.world_model.specs.NodeState.{NodeState, node_state, durable_of}
use Rattle.world_model.specs.Histories.{History, node_history}
use Rattle.world_model.specs.Safety.{Published, published}
use Rattle.world_model.specs.Local.{then_run, OpensWith}
use Rattle.world_model.proofs.System.{IsSystem}
use Rattle.world_model.proofs.Moments.{Begins as IsBeginning, begins_self, begins_trans}
use Rattle.policy_model.specs.declared.settings.Settings.{Settings}
use Rattle.policy_model.specs.declared.events.Event.{Event}
use Rattle.policy_model.specs.Events.{Met, Heard, PeersAsked, ElectionOff, ElectionSet, RoundBegun, RoundAnswered, RoundEnded, Joined, FollowersChecked, FollowerAnswered, LeaderChecked, LeaderAnswered, Queued, ExclusionsTimedOut, CommitAcked, AppliedAnswered, StateMade, HandedOver, PeerLost, LeaderLost, Item, Opens, Begins, Acts, ChangesMode, Drops, Sends, Replies, Notes, Log, And, added, acts_of}
use Rattle.policy_model.specs.Entries.{Life, NotBegun, Opened, Lived, Did, Gone, Bad, NoMemory, Unread, log_of, replies_in, replies_of}
use Rattle.policy_model.specs.LookBacks.{node_of}
use Rattle.policy_model.specs.Views.{View, view_of}
use Rattle.policy_model.specs.Moves.{moved, is_own, are_own, view_of-And}
use Rattle.policy_model.specs.Follows.{Follows, IsStruck, is_struck, items_of}
use Rattle.policy_model.proofs.Answering.{answered-next}
use Rattle.policy_model.proofs.Locals.{struck_fault}
use Rattle.policy_model.proofs.Standing.{own-answered}
use Rattle.client_guarantees.proofs.Backing.{Backs, backs, IsPublishedAt, unique, value_published, state_of}
use Rattle.client_guarantees.proofs.Running.{begins-within, node-within}
use Rattle.client_guarantees.proofs.Steady.{standing}
use Rattle.system_laws.specs.Systems.{IsDoneOf, Killed, InAct, Also, Unsent, Unanswered}
use Rattle.system_laws.specs.Messages.{comes_with}
use Rattle.system_laws.proofs.Done.{event-meant, done-own}
use Rattle.linearizability.specs.Linearizations.{IsDone}
use Rattle.linearizability.proofs.Accounts.{IsIn, in-left}
use Rattle.linearizability.proofs.Numbers.{Numbered, Tagged, requests_of, requests-into_next, tagged_all, made_of, taken_of}
use Rattle.linearizability.proofs.Taken.{begins_added}
use Rattle.linearizability.proofs.Places.{Speaks, HasPlace}
use Rattle.linearizability.proofs.Putting.{Tag, tag_all, Takes, takes_after, AnswerHasPlace, AnswerIsPlaced, ReplyIsPlaced, AllPlaced, Publishes, IsSound, Tells, Safe, Stays}
use Rattle.linearizability.proofs.Leaving.{stays-idle}
use Rattle.linearizability.proofs.PlacedRules.{safe-next}

-- ---- what a run has taken, by its log

abbrev tags_of : List Tagged → List Tag
tags_of [] = []
tags_of (t ∷ ts) = record { id = t.id; request = t.numbered.request } ∷ tags_of ts

abbrev takes_of : Settings → Log → Takes
takes_of s l = record { made = requests_of (made_of s l); taken = tags_of (taken_of s l) }

tags-append : (xs ys : List Tagged) → tags_of (xs ++ ys) ≡ tags_of xs ++ tags_of ys
tags-append [] ys = refl
tags-append (x ∷ xs) ys = ap (λ (ts : List Tag). record { id = x.id; request = x.numbered.request } ∷ ts) (tags-append xs ys)

tags-all : (id : StateId) (ts : List Numbered) → tags_of (tagged_all id ts) ≡ tag_all id (requests_of ts)
tags-all id [] = refl
tags-all id (t ∷ ts) = ap (λ (us : List Tag). record { id = id; request = t.request } ∷ us) (tags-all id ts)

takes-value : (s : Settings) (l : Log) (version : ℕ) (config : List Id) (value : ClusterValue) (o : Outcome)
    → takes_of s (And l (Acts (Value version config value) o)) ≡ takes_after s (view_of s l) (takes_of s l) (Acts (Value version config value) o)
takes-value s l version config value (Answered (Taken sends wins)) =
    let id : StateId = record { term = (node_of l).term; version = version } in
    ap (λ (ts : List Tag). record { made = []; taken = ts })
    (tags-append (taken_of s l) (tagged_all id (made_of s l)) ∙ ap (λ (ts : List Tag). tags_of (taken_of s l) ++ ts) (tags-all id (made_of s l)))
takes-value s l version config value (Answered (Refused cause)) = refl
takes-value s l version config value (Answered Stopped) = refl
takes-value s l version config value (Disk kept) = refl
takes-value s l version config value (Crashed kept) = refl

takes-And : (s : Settings) (l : Log) (i : Item) → is_own i ≡ true → takes_of s (And l i) ≡ takes_after s (view_of s l) (takes_of s l) i
takes-And s l (Opens found) e = absurd (true≢false (sym e))
takes-And s l (Begins event) e = refl
takes-And s l (Acts (Value version config value) o) e = takes-value s l version config value o
takes-And s l (Acts (Bootstrap config) o) e = refl
takes-And s l (Acts (StartJoin candidate term) o) e = refl
takes-And s l (Acts (TakeJoin join) o) e = refl
takes-And s l (Acts (Publish request) o) e = refl
takes-And s l (Acts (Response response) o) e = refl
takes-And s l (Acts (Commit commit) o) e = refl
takes-And s l (Acts (Open found) o) e = refl
takes-And s l (ChangesMode mode term) e = refl
takes-And s l (Drops member cause) e = refl
takes-And s l (Sends frame) e = refl
takes-And s l (Replies answer) e = refl
takes-And s l (Notes (Met ids)) e = refl
takes-And s l (Notes (Heard peer master)) e = refl
takes-And s l (Notes PeersAsked) e = refl
takes-And s l (Notes ElectionOff) e = refl
takes-And s l (Notes (ElectionSet word)) e = refl
takes-And s l (Notes (RoundBegun word)) e = refl
takes-And s l (Notes (RoundAnswered source term last)) e = refl
takes-And s l (Notes RoundEnded) e = refl
takes-And s l (Notes (Joined ids)) e = refl
takes-And s l (Notes FollowersChecked) e = refl
takes-And s l (Notes (FollowerAnswered from good applied)) e = refl
takes-And s l (Notes LeaderChecked) e = refl
takes-And s l (Notes (LeaderAnswered good)) e = refl
takes-And s l (Notes (Queued conn request)) e = refl
takes-And s l (Notes ExclusionsTimedOut) e = refl
takes-And s l (Notes CommitAcked) e = refl
takes-And s l (Notes AppliedAnswered) e = refl
takes-And s l (Notes StateMade) e = ap (λ (ws : List Waiting). record { made = ws; taken = tags_of (taken_of s l) }) (requests-into_next s l)
takes-And s l (Notes HandedOver) e = refl
takes-And s l (Notes (PeerLost id)) e = refl
takes-And s l (Notes LeaderLost) e = refl

-- what was taken stays so
stay-value : (s : Settings) (v : View) (g : Takes) (version : ℕ) (config : List Id) (value : ClusterValue) (o : Outcome) (t : Tag) → IsIn g.taken t → IsIn (takes_after s v g (Acts (Value version config value) o)).taken t
stay-value s v g version config value (Answered (Taken sends wins)) t i = in-left g.taken (tag_all (record { term = v.node.term; version = version }) g.made) t i
stay-value s v g version config value (Answered (Refused cause)) t i = i
stay-value s v g version config value (Answered Stopped) t i = i
stay-value s v g version config value (Disk kept) t i = i
stay-value s v g version config value (Crashed kept) t i = i

stay-item : (s : Settings) (v : View) (g : Takes) (i : Item) → is_own i ≡ true → (t : Tag) → IsIn g.taken t → IsIn (takes_after s v g i).taken t
stay-item s v g (Opens found) e t k = absurd (true≢false (sym e))
stay-item s v g (Begins event) e t k = k
stay-item s v g (Acts (Value version config value) o) e t k = stay-value s v g version config value o t k
stay-item s v g (Acts (Bootstrap config) o) e t k = k
stay-item s v g (Acts (StartJoin candidate term) o) e t k = k
stay-item s v g (Acts (TakeJoin join) o) e t k = k
stay-item s v g (Acts (Publish request) o) e t k = k
stay-item s v g (Acts (Response response) o) e t k = k
stay-item s v g (Acts (Commit commit) o) e t k = k
stay-item s v g (Acts (Open found) o) e t k = k
stay-item s v g (ChangesMode mode term) e t k = k
stay-item s v g (Drops member cause) e t k = k
stay-item s v g (Sends frame) e t k = k
stay-item s v g (Replies answer) e t k = k
stay-item s v g (Notes (Met ids)) e t k = k
stay-item s v g (Notes (Heard peer master)) e t k = k
stay-item s v g (Notes PeersAsked) e t k = k
stay-item s v g (Notes ElectionOff) e t k = k
stay-item s v g (Notes (ElectionSet word)) e t k = k
stay-item s v g (Notes (RoundBegun word)) e t k = k
stay-item s v g (Notes (RoundAnswered source term last)) e t k = k
stay-item s v g (Notes RoundEnded) e t k = k
stay-item s v g (Notes (Joined ids)) e t k = k
stay-item s v g (Notes FollowersChecked) e t k = k
stay-item s v g (Notes (FollowerAnswered from good applied)) e t k = k
stay-item s v g (Notes LeaderChecked) e t k = k
stay-item s v g (Notes (LeaderAnswered good)) e t k = k
stay-item s v g (Notes (Queued conn request)) e t k = k
stay-item s v g (Notes ExclusionsTimedOut) e t k = k
stay-item s v g (Notes CommitAcked) e t k = k
stay-item s v g (Notes AppliedAnswered) e t k = k
stay-item s v g (Notes StateMade) e t k = k
stay-item s v g (Notes HandedOver) e t k = k
stay-item s v g (Notes (PeerLost id)) e t k = k
stay-item s v g (Notes LeaderLost) e t k = k

stay-added : (s : Settings) (l : Log) (is : List Item) → are_own is ≡ true → (t : Tag) → IsIn (tags_of (taken_of s l)) t → IsIn (tags_of (taken_of s (added l is))) t
stay-added s l [] e t k = k
stay-added s l (i ∷ is) e t k =
    let parts = and_parts (is_own i) (are_own is) e in
    stay-added s (And l i) is parts.1 t (subst (λ (g : Takes). IsIn g.taken t) (sym (takes-And s l i parts.0)) (stay-item s (view_of s l) (takes_of s l) i parts.0 t k))

-- ---- places stay

module _ (h : History) (taken now : List Tag) (more : (t : Tag) → IsIn taken t → IsIn now t) where
  place-stays : (conn number : ℕ) (a : Answer) → AnswerHasPlace h taken conn number a → AnswerHasPlace h now conn number a
  place-stays conn number a p = record {
    tag = p.tag;
    is_in = more p.tag p.is_in;
    as_published = p.as_published;
    is_published = p.is_published;
    is_id = p.is_id;
    has_conn = p.has_conn;
    has_number = p.has_number;
    speaks = p.speaks;
  }

  answer-stays : (conn number : ℕ) (a : Answer) → AnswerIsPlaced h taken conn number a → AnswerIsPlaced h now conn number a
  answer-stays conn number (answer.Acked id) p = place-stays conn number (answer.Acked id) p
  answer-stays conn number (answer.State state) p = place-stays conn number (answer.State state) p
  answer-stays conn number (answer.NotMaster leader) p = tt
  answer-stays conn number (answer.BadSetting length) p = tt
  answer-stays conn number (answer.QueueFull count) p = tt
  answer-stays conn number (answer.TooManySettings count) p = tt
  answer-stays conn number (answer.TooManyExclusions count) p = tt
  answer-stays conn number (answer.StillMember id) p = tt
  answer-stays conn number (answer.FailedToCommit term) p = tt
  answer-stays conn number (answer.ExclusionTimeout ids) p = tt

  reply-stays : (conn : ℕ) (r : Reply) → ReplyIsPlaced h taken conn r → ReplyIsPlaced h now conn r
  reply-stays conn (reply.To number a) p = answer-stays conn number a p
  reply-stays conn (reply.BadLine fault) p = tt

-- ---- a run of the node, what it did before the run, and what the history has of it

module _ (h : History) (root : ClusterState) (W : IsSystem (node_history h) root) (s : Settings) (second : s.policy.second ≡ true) (g r : NodeHistory)
    (opens : g ≢ NoActs → OpensWith (durable_of g) r) (is_in : IsBeginning (then_run g r) (node_history h s.me)) where
  backs-within : (p : NodeHistory) (act : Act) (reply : ActReply) → is_opening act ≡ false → IsBeginning (Then p act (Answered reply)) r → Backs h (node_state p) act reply
  backs-within p act reply closed b =
      let whole = begins_trans (then_run g (Then p act (Answered reply))) (then_run g r) (node_history h s.me) (begins-within g (Then p act (Answered reply)) r b) is_in in
      subst (λ (n : NodeState). Backs h n act reply) (node-within g r p act (Answered reply) opens closed b) (backs h root W s.me (then_run g p) act reply whole)

  publishes : (p : NodeHistory) (act : Act) (reply : ActReply) → IsBeginning (Then p act (Answered reply)) r → Publishes h s (node_state p) act reply
  publishes p (Value version config value) (Taken sends w) b = λ t.
      let whole = begins_trans (then_run g (Then p (Value version config value) (Answered (Taken sends w)))) (then_run g r) (node_history h s.me) (begins-within g (Then p (Value version config value) (Answered (Taken sends w))) r b) is_in in
      let a : IsPublishedAt h s.me (then_run g p) version config value = value_published h root W s.me (then_run g p) version config value sends w whole in
      let same : node_state (then_run g p) ≡ node_state p = node-within g r p (Value version config value) (Answered (Taken sends w)) opens refl b in
      record {
        as_published = a.as_published;
        is_in = a.is_in;
        is_state = a.is_state ∙ ap (λ (n : NodeState). state_of n version config value) same;
        parent = a.parent ∙ ap (λ (n : NodeState). n.accepted) same;
      }
  publishes p (Value version config value) (Refused c) b = λ t. absurd (true≢false (sym t))
  publishes p (Value version config value) Stopped b = λ t. absurd (true≢false (sym t))
  publishes p (Bootstrap config) reply b = tt
  publishes p (StartJoin candidate term) reply b = tt
  publishes p (TakeJoin join) reply b = tt
  publishes p (Publish request) reply b = tt
  publishes p (Response response) reply b = tt
  publishes p (Commit commit) reply b = tt
  publishes p (Open found) reply b = tt

  sound : (l : Log) (v : View) (i : Item) → is_own i ≡ true → v ≡ view_of s l → IsBeginning (acts_of (And l i)) r → IsSound h s v i
  sound l v (Acts act (Answered reply)) own e b =
      subst (λ (x : View). Backs h x.node act reply × Publishes h s x.node act reply) (sym e)
      (backs-within (acts_of l) act reply (not-true _ own) b, publishes (acts_of l) act reply b)
  sound l v (Acts act (Disk kept)) own e b = tt
  sound l v (Acts act (Crashed kept)) own e b = tt
  sound l v (Opens found) own e b = tt
  sound l v (Begins event) own e b = tt
  sound l v (ChangesMode mode term) own e b = tt
  sound l v (Drops member cause) own e b = tt
  sound l v (Sends frame) own e b = tt
  sound l v (Replies answer) own e b = tt
  sound l v (Notes note) own e b = tt

  -- one item more
  next_view : (l : Log) (v : View) (i : Item) → is_own i ≡ true → v ≡ view_of s l → moved s v i ≡ view_of s (And l i)
  next_view l v i own e = ap (λ (x : View). moved s x i) e ∙ sym (view_of-And s l i own)

  next_takes : (l : Log) (v : View) (k : Takes) (i : Item) → is_own i ≡ true → v ≡ view_of s l → k ≡ takes_of s l → takes_after s v k i ≡ takes_of s (And l i)
  next_takes l v k i own e t = (λ j. takes_after s (e j) (t j) i) ∙ sym (takes-And s l i own)

  -- what whole items leave
  ends : (l : Log) (v : View) (k : Takes) (is : List Item) → v ≡ view_of s l → k ≡ takes_of s l → are_own is ≡ true → Safe h s v k is (Stays h s) → IsBeginning (acts_of (added l is)) r
      → Stays h s (standing (view_of s (added l is))) (takes_of s (added l is))
  ends l v k [] e t own safe b = subst (λ (x : View). Stays h s (standing x) (takes_of s l)) e (subst (Stays h s (standing v)) t safe)
  ends l v k (i ∷ is) e t own safe b =
      let parts = and_parts (is_own i) (are_own is) own in
      let here = begins_trans (acts_of (And l i)) (acts_of (added (And l i) is)) r (begins_added (And l i) is (acts_of (And l i)) (begins_self (acts_of (And l i)))) b in
      ends (And l i) (moved s v i) (takes_after s v k i) is (next_view l v i parts.0 e) (next_takes l v k i parts.0 e t) parts.1 (safe (sound l v i parts.0 e here)).1 b

  -- a reply that is told, and the others
  with-told : (l : Log) (k : Takes) (i : Item) (now : List Tag) (outs : List Outgoing) → ((t : Tag) → IsIn k.taken t → IsIn now t) → Tells h s k.taken i → AllPlaced h now outs → AllPlaced h now (replies_in i ++ outs)
  with-told l k (Opens found) now outs more t a = a
  with-told l k (Begins event) now outs more t a = a
  with-told l k (Acts act o) now outs more t a = a
  with-told l k (ChangesMode mode term) now outs more t a = a
  with-told l k (Drops member cause) now outs more t a = a
  with-told l k (Sends frame) now outs more t a = a
  with-told l k (Replies out) now outs more t a = (reply-stays h k.taken now more out.conn out.reply t, a)
  with-told l k (Notes note) now outs more t a = a

  -- what was done of some items tells what is so
  tells : (l : Log) (v : View) (k : Takes) (is done : List Item) → v ≡ view_of s l → k ≡ takes_of s l → are_own is ≡ true → are_own done ≡ true → IsDoneOf is done → Safe h s v k is (Stays h s) → IsBeginning (acts_of (added l done)) r
      → AllPlaced h (tags_of (taken_of s (added l done))) (replies_of done)
  tells l v k is done e t own mine (Killed is') safe b = tt
  tells l v k is done e t own mine (InAct act sends wins rest fault w f) safe b = tt
  tells l v k is done e t own mine (Also i rest some d) safe b =
      let parts = and_parts (is_own i) (are_own rest) own in
      let also = and_parts (is_own i) (are_own some) mine in
      let here = begins_trans (acts_of (And l i)) (acts_of (added (And l i) some)) r (begins_added (And l i) some (acts_of (And l i)) (begins_self (acts_of (And l i)))) b in
      let now = safe (sound l v i parts.0 e here) in
      with-told l k i (tags_of (taken_of s (added (And l i) some))) (replies_of some)
      (λ x c. stay-added s l (i ∷ some) mine x (subst (λ (y : Takes). IsIn y.taken x) t c)) now.0
      (tells (And l i) (moved s v i) (takes_after s v k i) rest some (next_view l v i parts.0 e) (next_takes l v k i parts.0 e t) parts.1 also.1 d now.1 b)
  tells l v k is done e t own mine (Unsent frame rest some d) safe b = tells l v k rest some e t own mine d (safe tt).1 b
  tells l v k is done e t own mine (Unanswered answer rest some d) safe b = tells l v k rest some e t own mine d (safe tt).1 b

  -- ---- a life

  safe-event : (life : Life) (e : Event) → Stays h s (standing (view_of s (log_of life))) (takes_of s (log_of life))
      → Safe h s (view_of s (And (log_of life) (Begins e))) (takes_of s (And (log_of life) (Begins e))) (items_of s (log_of life) e) (Stays h s)
  safe-event life e i =
      safe-next h (unique h root W) s second (view_of s (And (log_of life) (Begins e))) (takes_of s (And (log_of life) (Begins e))) e (record { stands = i.stands; put = i.put })

  own-event : (life : Life) (e : Event) → are_own (items_of s (log_of life) e) ≡ true
  own-event life e =
      let v = view_of s (And (log_of life) (Begins e)) in
      own-answered s v (items_of s (log_of life) e) (answered-next s v e)

  stays-event : (life : Life) (e : Event) (is : List Item) → Follows s (Lived life (Did e is)) → is_struck (Lived life (Did e is)) ≡ false → Stays h s (standing (view_of s (log_of life))) (takes_of s (log_of life))
      → IsBeginning (acts_of (log_of (Lived life (Did e is)))) r → Stays h s (standing (view_of s (log_of (Lived life (Did e is))))) (takes_of s (log_of (Lived life (Did e is))))
  stays-event life e is f u before b = by f.1.does
    where
      by : (is ≡ items_of s (log_of life) e) ⊎ IsStruck (items_of s (log_of life) e) is → Stays h s (standing (view_of s (log_of (Lived life (Did e is))))) (takes_of s (log_of (Lived life (Did e is))))
      by (inl same) =
          subst (λ (x : List Item). Stays h s (standing (view_of s (added (And (log_of life) (Begins e)) x))) (takes_of s (added (And (log_of life) (Begins e)) x))) (sym same)
          (ends (And (log_of life) (Begins e)) (view_of s (And (log_of life) (Begins e))) (takes_of s (And (log_of life) (Begins e))) (items_of s (log_of life) e) refl refl (own-event life e) (safe-event life e before)
          (subst (λ (x : List Item). IsBeginning (acts_of (added (And (log_of life) (Begins e)) x)) r) same b))
      by (inr struck) = absurd (both_ways _ u (struck_fault (items_of s (log_of life) e) is struck))

  stays : (life : Life) → Follows s life → is_struck life ≡ false → IsBeginning (acts_of (log_of life)) r → Stays h s (standing (view_of s (log_of life))) (takes_of s (log_of life))
  stays NotBegun f u b = stays-idle h s _ _ refl refl refl
  stays (Opened life found) f u b = stays-idle h s _ _ refl refl refl
  stays (Lived life (Did e is)) f u b =
      stays-event life e is f u
      (stays life f.0 f.1.up (begins_trans (acts_of (log_of life)) (acts_of (log_of (Lived life (Did e is)))) r (begins_added (And (log_of life) (Begins e)) is (acts_of (log_of life)) (begins_self (acts_of (log_of life)))) b)) b
  stays (Lived life (Gone conn)) f u b = stays life f.0 u b
  stays (Lived life (Bad conn fault)) f u b = stays life f.0 u b
  stays (Lived life NoMemory) f u b = stays life f.0 u b
  stays (Lived life (Unread conn)) f u b = stays life f.0 u b

  event-tells : (life : Life) (e : Event) (done : List Item) → Follows s life → is_struck life ≡ false → IsDoneOf (items_of s (log_of life) e) done → IsBeginning (acts_of (added (And (log_of life) (Begins e)) done)) r
      → AllPlaced h (tags_of (taken_of s (added (And (log_of life) (Begins e)) done))) (replies_of done)
  event-tells life e done f u d b =
      let v = view_of s (And (log_of life) (Begins e)) in
      let before = begins_trans (acts_of (log_of life)) (acts_of (added (And (log_of life) (Begins e)) done)) r (begins_added (And (log_of life) (Begins e)) done (acts_of (log_of life)) (begins_self (acts_of (log_of life)))) b in
      tells (And (log_of life) (Begins e)) v (takes_of s (And (log_of life) (Begins e))) (items_of s (log_of life) e) done refl refl (own-event life e)
      (done-own s (comes_with e) [] v (items_of s (log_of life) e) done (event-meant s life e) d) d (safe-event life e (stays life f u before)) b

-- ---- the place in the log

record FromTag (ts : List Tagged) (tag : Tag) : Type 0 where
  tagged : Tagged
  is_in : IsIn ts tagged
  is_tag : record { id = tagged.id; request = tagged.numbered.request } ≡ tag

from-tag : (ts : List Tagged) (tag : Tag) → IsIn (tags_of ts) tag → FromTag ts tag
from-tag [] tag i = absurd i
from-tag (t ∷ ts) tag (inl e) = record { tagged = t; is_in = inl refl; is_tag = sym e }
from-tag (t ∷ ts) tag (inr i) = let k = from-tag ts tag i in record { tagged = k.tagged; is_in = inr k.is_in; is_tag = k.is_tag }

-- a place, but for where it stands
record IsSuch (h : History) (conn number : ℕ) (a : Answer) (x : Tag) : Type 0 where
  as_published : Published
  is_published : Contains (published h) as_published
  is_id : id_of as_published.state ≡ x.id
  has_conn : x.request.conn ≡ conn
  has_number : x.request.request.id ≡ number
  speaks : Speaks h as_published.state x.request.request.ask a

place-of : (h : History) (s : Settings) (l : Log) (conn number : ℕ) (a : Answer) → AnswerHasPlace h (tags_of (taken_of s l)) conn number a → HasPlace h s l conn number a
place-of h s l conn number a p =
    let k : FromTag (taken_of s l) p.tag = from-tag (taken_of s l) p.tag p.is_in in
    let such : IsSuch h conn number a (record { id = k.tagged.id; request = k.tagged.numbered.request }) =
    subst (IsSuch h conn number a) (sym k.is_tag) (record { as_published = p.as_published; is_published = p.is_published; is_id = p.is_id; has_conn = p.has_conn; has_number = p.has_number; speaks = p.speaks }) in
    record {
      tagged = k.tagged;
      is_in = k.is_in;
      as_published = such.as_published;
      is_published = such.is_published;
      is_id = such.is_id;
      has_conn = such.has_conn;
      has_number = such.has_number;
      speaks = such.speaks;
    }

answer-place : (h : History) (s : Settings) (l : Log) (conn number : ℕ) (a : Answer) → IsDone a → AnswerIsPlaced h (tags_of (taken_of s l)) conn number a → HasPlace h s l conn number a
answer-place h s l conn number (answer.Acked id) d p = place-of h s l conn number (answer.Acked id) p
answer-place h s l conn number (answer.State state) d p = place-of h s l conn number (answer.State state) p
answer-place h s l conn number (answer.NotMaster leader) d p = absurd d
answer-place h s l conn number (answer.BadSetting length) d p = absurd d
answer-place h s l conn number (answer.QueueFull count) d p = absurd d
answer-place h s l conn number (answer.TooManySettings count) d p = absurd d
answer-place h s l conn number (answer.TooManyExclusions count) d p = absurd d
answer-place h s l conn number (answer.StillMember id) d p = absurd d
answer-place h s l conn number (answer.FailedToCommit term) d p = absurd d
answer-place h s l conn number (answer.ExclusionTimeout ids) d p = absurd d

all-placed : (h : History) (taken : List Tag) (outs : List Outgoing) → AllPlaced h taken outs → All (λ (out : Outgoing). ReplyIsPlaced h taken out.conn out.reply) outs
all-placed h taken [] a = All-nil (λ (out : Outgoing). ReplyIsPlaced h taken out.conn out.reply)
all-placed h taken (out ∷ outs) a = All-cons (λ (x : Outgoing). ReplyIsPlaced h taken x.conn x.reply) out outs a.0 (all-placed h taken outs a.1)

-- what a run did of its last event: all of it, or as far as it came
pub placed : (h : History) (root : ClusterState) → IsSystem (node_history h) root → (s : Settings) → s.policy.second ≡ true
    → (before_run : NodeHistory) (life : Life) (event : Event) (done : List Item)
    → Follows s life → is_struck life ≡ false → IsDoneOf (items_of s (log_of life) event) done
    → (before_run ≢ NoActs → OpensWith (durable_of before_run) (acts_of (log_of (Lived life (Did event done)))))
    → IsBeginning (then_run before_run (acts_of (log_of (Lived life (Did event done))))) (node_history h s.me)
    → (conn number : ℕ) (a : Answer) → Contains (replies_of done) (record { conn = conn; reply = reply.To number a }) → IsDone a
    → HasPlace h s (log_of (Lived life (Did event done))) conn number a
placed h root system s second before_run life event done follows up did opens begins conn number a is_in is_done =
    let l = log_of (Lived life (Did event done)) in
    let all = event-tells h root system s second before_run (acts_of (log_of (Lived life (Did event done)))) opens begins life event done follows up did (begins_self (acts_of (log_of (Lived life (Did event done))))) in
    answer-place h s l conn number a is_done
    (All-contains (λ (out : Outgoing). ReplyIsPlaced h (tags_of (taken_of s (log_of (Lived life (Did event done))))) out.conn out.reply) (replies_of done) (record { conn = conn; reply = reply.To number a })
    (all-placed h (tags_of (taken_of s (log_of (Lived life (Did event done))))) (replies_of done) all) is_in)
