-- Each event of a life that follows the policy tells what is true of what came and was processed.
use Rattle.std.proofs.Common.{◌≡◌, ◌≢◌, ℕ, true, false, true≢false, List, [], ◌∷◌, ◌++◌, refl, sym, ◌∙◌, ap, subst, arith, ◌⊎◌, inl, inr}
use Rattle.std.specs.List.{Contains, All}
use Rattle.std.proofs.lemmas.Bool.{both_ways, and_parts}
use Rattle.std.proofs.lemmas.List.{append-nil}
use Rattle.std.proofs.lemmas.List.Elements.{All-nil, All-cons, All-head, All-tail, Contains-append_left, Contains-append_right}
use Rattle.cluster_state.specs.declared.state.ClusterState.{ClusterState}
use Rattle.cluster_state.specs.States.{id_of}
use Rattle.cluster_state.specs.declared.reply.Answer.TheVariants as answer
use Rattle.cluster_state.specs.declared.reply.Reply.{Reply}
use Rattle.cluster_state.specs.declared.reply.Reply.TheVariants as reply
use Rattle.master_tasks.specs.declared.waiting.Waiting.{Waiting}
use Rattle.master_tasks.specs.declared.waiting.Outgoing.{Outgoing}
use Rattle.master_tasks.specs.NextState.{next_value}
use Rattle.world_model.specs.declared.acts.Act.{Act}
use Rattle.world_model.specs.declared.acts.Act.TheVariants.{Bootstrap, StartJoin, TakeJoin, Value, Publish, Response, Commit, Open}
use Rattle.world_model.specs.declared.acts.ActReply.{ActReply}
use Rattle.world_model.specs.declared.acts.ActReply.TheVariants.{Taken, Refused, Stopped}
use Rattle.world_model.specs.declared.acts.Outcome.TheVariants.{Answered}
use Rattle.world_model.specs.Acts.{NodeHistory, NoActs, Then, is_opening}
use Rattle.world_model.specs.NodeState.{NodeState, node_state, term_of, durable_of}
use Rattle.world_model.specs.Replies.{reply_at}
use Rattle.world_model.specs.Histories.{History, node_history}
use Rattle.world_model.specs.Local.{then_run, OpensWith}
use Rattle.world_model.specs.Safety.{Published, Descends, Itself, Child}
use Rattle.world_model.proofs.System.{IsSystem}
use Rattle.world_model.proofs.Moments.{Begins as IsBeginning, begins_self, begins_trans}
use Rattle.policy_model.specs.declared.settings.Settings.{Settings}
use Rattle.policy_model.specs.declared.events.Event.{Event}
use Rattle.policy_model.specs.Events.{Met, Heard, PeersAsked, ElectionOff, ElectionSet, RoundBegun, RoundAnswered, RoundEnded, Joined, FollowersChecked, FollowerAnswered, LeaderChecked, LeaderAnswered, Queued, ExclusionsTimedOut, CommitAcked, AppliedAnswered, StateMade, HandedOver, PeerLost, LeaderLost, Item, Log, Opens, Begins, Acts, ChangesMode, Drops, Sends, Replies, Notes, And, added, acts_of}
use Rattle.policy_model.specs.Entries.{Life, NotBegun, Opened, Lived, Did, Gone, Bad, NoMemory, Unread, log_of, replies_of}
use Rattle.policy_model.specs.LookBacks.{node_of, master_of, tasks_of}
use Rattle.policy_model.specs.Parts.{published_id}
use Rattle.policy_model.specs.Views.{View, view_of, master_now}
use Rattle.policy_model.specs.Moves.{moved, moved_all, is_own, are_own, view_of-And}
use Rattle.policy_model.specs.Local.{IsAnswered, ByAct, ByQuiet, Ended, is_quiet}
use Rattle.policy_model.specs.Follows.{Follows, IsStruck, is_struck, items_of}
use Rattle.policy_model.proofs.Answering.{answered-next}
use Rattle.policy_model.proofs.Standing.{view_of-added, own-quiet, own-answered}
use Rattle.policy_model.proofs.Locals.{struck_fault}
use Rattle.policy_model.proofs.Faults.{struck-replies}
use Rattle.client_guarantees.specs.Processed.{processed_into_next, processed_of, CameIn, CameAt, last_id}
use Rattle.client_guarantees.specs.Replies.{IsTrueReply, RepliesTruly}
use Rattle.client_guarantees.specs.Lasting.{IsPartOf}
use Rattle.client_guarantees.specs.Laws.{IsRunIn}
use Rattle.client_guarantees.specs.InTime.{IsPublishedSince, HasPlace, IsRepliedInTime}
use Rattle.client_guarantees.proofs.Running.{begins-run, begins-within, node-within}
use Rattle.client_guarantees.proofs.Backing.{Backs, backs, IsPublishedAt, IsUnique, unique, value_published}
use Rattle.client_guarantees.proofs.Telling.{WasNewFor, Renews, Processes, processed_after, processed_after_all, Up, ReplyIsTrue, place, AllTrue, AreBacked, Ends, Keeps}
use Rattle.client_guarantees.proofs.Folding.{IsAmong, among_contains}
use Rattle.client_guarantees.proofs.Lasting.{part-self, part-added}
use Rattle.client_guarantees.proofs.Holding.{Holds, holds-idle, holds-more}
use Rattle.client_guarantees.proofs.Queued.{processed_was_queued}
use Rattle.client_guarantees.proofs.Newest.{up-same, up-trans, up-act, quiet_acts, low_of, begun_of, basis, came_in, CameSince, WasProcessed, IsNew, new_later, CameOver, came_over}
use Rattle.client_guarantees.proofs.Rules.{keeps-next}

-- the acts before an item begin those with it
begins_item : (l : Log) (i : Item) → IsBeginning (acts_of l) (acts_of (And l i))
begins_item l (Opens found) = inr (begins_self (acts_of l))
begins_item l (Begins event) = begins_self (acts_of l)
begins_item l (Acts act o) = inr (begins_self (acts_of l))
begins_item l (ChangesMode mode term) = begins_self (acts_of l)
begins_item l (Drops member cause) = begins_self (acts_of l)
begins_item l (Sends frame) = begins_self (acts_of l)
begins_item l (Replies answer) = begins_self (acts_of l)
begins_item l (Notes note) = begins_self (acts_of l)

begins_added : (l : Log) (is : List Item) → IsBeginning (acts_of l) (acts_of (added l is))
begins_added l [] = begins_self (acts_of l)
begins_added l (i ∷ is) = begins_trans (acts_of l) (acts_of (And l i)) (acts_of (added (And l i) is)) (begins_item l i) (begins_added (And l i) is)

begun_before : (life : Life) → IsBeginning (acts_of (begun_of life)) (acts_of (log_of life))
begun_before NotBegun = begins_self (acts_of (log_of NotBegun))
begun_before (Opened life found) = begins_self (acts_of (log_of (Opened life found)))
begun_before (Lived life (Did event items)) = begins_added (And (log_of life) (Begins event)) items
begun_before (Lived life (Gone conn)) = begun_before life
begun_before (Lived life (Bad conn fault)) = begun_before life
begun_before (Lived life NoMemory) = begun_before life
begun_before (Lived life (Unread conn)) = begun_before life

-- what was processed over one more item
processed-And : (s : Settings) (l : Log) (i : Item) → is_own i ≡ true → processed_of s (And l i) ≡ processed_after s (view_of s l) (processed_of s l) i
processed-And s l (Opens found) e = absurd (true≢false (sym e))
processed-And s l (Begins event) e = refl
processed-And s l (Acts act o) e = refl
processed-And s l (ChangesMode mode term) e = refl
processed-And s l (Drops member cause) e = refl
processed-And s l (Sends frame) e = refl
processed-And s l (Replies answer) e = refl
processed-And s l (Notes (Met ids)) e = refl
processed-And s l (Notes (Heard peer master)) e = refl
processed-And s l (Notes PeersAsked) e = refl
processed-And s l (Notes ElectionOff) e = refl
processed-And s l (Notes (ElectionSet word)) e = refl
processed-And s l (Notes (RoundBegun word)) e = refl
processed-And s l (Notes (RoundAnswered source term last)) e = refl
processed-And s l (Notes RoundEnded) e = refl
processed-And s l (Notes (Joined ids)) e = refl
processed-And s l (Notes FollowersChecked) e = refl
processed-And s l (Notes (FollowerAnswered from good applied)) e = refl
processed-And s l (Notes LeaderChecked) e = refl
processed-And s l (Notes (LeaderAnswered good)) e = refl
processed-And s l (Notes (Queued conn request)) e = refl
processed-And s l (Notes ExclusionsTimedOut) e = refl
processed-And s l (Notes CommitAcked) e = refl
processed-And s l (Notes AppliedAnswered) e = refl
processed-And s l (Notes StateMade) e = refl
processed-And s l (Notes HandedOver) e = refl
processed-And s l (Notes (PeerLost id)) e = refl
processed-And s l (Notes LeaderLost) e = refl

processed-added : (s : Settings) (l : Log) (is : List Item) → are_own is ≡ true → processed_of s (added l is) ≡ processed_after_all s (view_of s l) (processed_of s l) is
processed-added s l [] e = refl
processed-added s l (i ∷ is) e =
    let parts = and_parts (is_own i) (are_own is) e in
    processed-added s (And l i) is parts.1
    ∙ ap (λ (v : View). processed_after_all s v (processed_of s (And l i)) is) (view_of-And s l i parts.0)
    ∙ ap (λ (g : List Waiting). processed_after_all s (moved s (view_of s l) i) g is) (processed-And s l i parts.0)

-- ---- what is true by which requests came and were processed, said of a life

true_at : (h : History) (s : Settings) (g : NodeHistory) (life : Life) → Follows s life → (conn : ℕ) (r : Reply) → ReplyIsTrue h s (basis h s g life) (processed_of s (log_of life)) conn r → IsTrueReply h s life conn r
true_at h s g life f conn (reply.BadLine fault) t = tt
true_at h s g life f conn (reply.To number (answer.Acked id)) t = record {
  request = t.request;
  has_conn = t.has_conn;
  has_number = t.has_number;
  newest = over.newest;
  came = subst (λ (c : ℕ). CameAt life c t.request.request over.newest) t.has_conn over.came;
  since = up-trans over.newest (low_of life) id over.below t.since;
  earlier = t.earlier;
  later = t.later;
  after = t.after;
  is_processed = t.is_processed;
  as_published = t.as_published;
  is_committed = t.is_committed;
  is_id = t.is_id;
  meets = t.meets;
  votes = t.votes;
}
  where
    is_in : Contains (processed_of s (log_of life)) t.request
    is_in =
        subst (λ (ws : List Waiting). Contains ws t.request) (sym t.is_processed)
        (Contains-append_left (t.earlier ++ t.request ∷ t.later) t.after t.request (Contains-append_right t.earlier (t.request ∷ t.later) t.request (0, (omega arith), refl)))

    over : CameOver life t.request.conn t.request.request
    over = came_over s life f t.request.conn t.request.request (processed_was_queued s (log_of life) t.request is_in)
true_at h s g life f conn (reply.To number (answer.State state)) t =
    record {
      request = t.request.request;
      has_number = t.has_number;
      is_asked = t.is_asked;
      came = subst (λ (c : ℕ). CameIn life c t.request.request) t.has_conn (came_in life t.request.conn t.request.request t.came.so_far t.came.came);
      committed = t.committed;
    }
true_at h s g life f conn (reply.To number (answer.NotMaster leader)) t = tt
true_at h s g life f conn (reply.To number (answer.BadSetting length)) t = tt
true_at h s g life f conn (reply.To number (answer.QueueFull count)) t = tt
true_at h s g life f conn (reply.To number (answer.TooManySettings count)) t = tt
true_at h s g life f conn (reply.To number (answer.TooManyExclusions count)) t = tt
true_at h s g life f conn (reply.To number (answer.StillMember id)) t = tt
true_at h s g life f conn (reply.To number (answer.FailedToCommit term)) t = tt
true_at h s g life f conn (reply.To number (answer.ExclusionTimeout ids)) t = tt

each_at : (h : History) (s : Settings) (g : NodeHistory) (life : Life) (T : Outgoing → Type 0) → ((out : Outgoing) → ReplyIsTrue h s (basis h s g life) (processed_of s (log_of life)) out.conn out.reply → T out)
    → (outs : List Outgoing) → AllTrue h s (basis h s g life) (processed_of s (log_of life)) outs → All T outs
each_at h s g life T f [] t = All-nil T
each_at h s g life T f (out ∷ outs) t =
    let P : Outgoing → Type 0 = λ x. ReplyIsTrue h s (basis h s g life) (processed_of s (log_of life)) x.conn x.reply in
    All-cons T out outs (f out (All-head P out outs t.all)) (each_at h s g life T f outs (record { all = All-tail P out outs t.all }))

all_true_at : (h : History) (s : Settings) (g : NodeHistory) (life : Life) → Follows s life → (outs : List Outgoing) → AllTrue h s (basis h s g life) (processed_of s (log_of life)) outs
    → All (λ (out : Outgoing). IsTrueReply h s life out.conn out.reply) outs
all_true_at h s g life f = each_at h s g life (λ (out : Outgoing). IsTrueReply h s life out.conn out.reply) (λ out. true_at h s g life f out.conn out.reply)

-- a reply by the second profile
abbrev pub InTime : History → Settings → NodeHistory → Life → Outgoing → Type 0
InTime h s g life out = IsRepliedInTime h s g life out.conn out.reply

in_time_at : (h : History) → IsUnique h → (s : Settings) (g : NodeHistory) (life : Life) → Follows s life → s.policy.second ≡ true
    → (conn : ℕ) (r : Reply) → ReplyIsTrue h s (basis h s g life) (processed_of s (log_of life)) conn r → IsRepliedInTime h s g life conn r
unfolding true_at
in_time_at h U s g life f second conn (reply.BadLine fault) t = tt
in_time_at h U s g life f second conn (reply.To number (answer.Acked id)) t =
    let n : IsNew h s g life t.request id = t.is_new second in
    let same = U.same n.since.as_published t.as_published n.since.is_in t.is_committed.0 (n.since.is_id ∙ sym t.is_id) in
    record {
      ack = true_at h s g life f conn (reply.To number (answer.Acked id)) t;
      since = subst (λ (c : ℕ). IsPublishedSince h s g life c t.request.request id) t.has_conn n.since;
      place = subst (λ (p : Published). HasPlace h s g life t.request p.state) same n.place;
    }
in_time_at h U s g life f second conn (reply.To number (answer.State state)) t =
    let n : IsNew h s g life t.request (id_of state) = t.is_new second in
    record {
      shown = true_at h s g life f conn (reply.To number (answer.State state)) t;
      since = subst (λ (c : ℕ). IsPublishedSince h s g life c t.request.request (id_of state)) t.has_conn n.since;
    }
in_time_at h U s g life f second conn (reply.To number (answer.NotMaster leader)) t = tt
in_time_at h U s g life f second conn (reply.To number (answer.BadSetting length)) t = tt
in_time_at h U s g life f second conn (reply.To number (answer.QueueFull count)) t = tt
in_time_at h U s g life f second conn (reply.To number (answer.TooManySettings count)) t = tt
in_time_at h U s g life f second conn (reply.To number (answer.TooManyExclusions count)) t = tt
in_time_at h U s g life f second conn (reply.To number (answer.StillMember id)) t = tt
in_time_at h U s g life f second conn (reply.To number (answer.FailedToCommit term)) t = tt
in_time_at h U s g life f second conn (reply.To number (answer.ExclusionTimeout ids)) t = tt

-- a run of the node, what it did before the run, and what the history has of it
module _ (h : History) (root : ClusterState) (W : IsSystem (node_history h) root) (s : Settings) (g r : NodeHistory)
    (opens : g ≢ NoActs → OpensWith (durable_of g) r) (is_in : IsBeginning (then_run g r) (node_history h s.me)) where
  backs-within : (p : NodeHistory) (act : Act) (reply : ActReply) → is_opening act ≡ false → IsBeginning (Then p act (Answered reply)) r → Backs h (node_state p) act reply
  backs-within p act reply closed b =
      let whole = begins_trans (then_run g (Then p act (Answered reply))) (then_run g r) (node_history h s.me) (begins-within g (Then p act (Answered reply)) r b) is_in in
      subst (λ (n : NodeState). Backs h n act reply) (node-within g r p act (Answered reply) opens closed b) (backs h root W s.me (then_run g p) act reply whole)

  -- a value is published after those requests came that were processed into it, and those for which the last one was new
  renews : (now : Life) (p : NodeHistory) (act : Act) (reply : ActReply) → IsBeginning (acts_of (begun_of now)) p → IsBeginning (Then p act (Answered reply)) r → Renews h (basis h s g now) (node_state p) act reply
  renews now p (Value version config value) (Taken sends w) k b = λ t wait came cause. record { since = since wait came; place = place wait came cause }
    where
      whole : IsBeginning (Then (then_run g p) (Value version config value) (Answered (Taken sends w))) (node_history h s.me)
      whole = begins_trans (then_run g (Then p (Value version config value) (Answered (Taken sends w)))) (then_run g r) (node_history h s.me) (begins-within g (Then p (Value version config value) (Answered (Taken sends w))) r b) is_in

      a : IsPublishedAt h s.me (then_run g p) version config value
      a = value_published h root W s.me (then_run g p) version config value sends w whole

      same_node : node_state (then_run g p) ≡ node_state p
      same_node = node-within g r p (Value version config value) (Answered (Taken sends w)) opens refl b

      term : term_of (then_run g p) ≡ term_of p
      term = ap (λ (n : NodeState). n.term) same_node

      parent : a.as_published.parent ≡ (node_state p).accepted
      parent = a.parent ∙ ap (λ (n : NodeState). n.accepted) same_node

      since : (wait : Waiting) → CameSince now wait.conn wait.request → IsPublishedSince h s g now wait.conn wait.request (record { term = term_of p; version = version })
      since wait came = record {
        so_far = came.so_far;
        came = came.came;
        as_published = a.as_published;
        is_in = a.is_in;
        publisher = a.publisher;
        is_id = ap id_of a.is_state ∙ ap (λ (x : ℕ). record { term = x; version = version }) term;
        not_yet = λ q m o c same.
            let low : IsBeginning (then_run g (acts_of (log_of came.so_far))) (then_run g p) = begins-within g (acts_of (log_of came.so_far)) p (begins_trans (acts_of (log_of came.so_far)) (acts_of (begun_of now)) p came.begins k) in
            a.not_yet q m.part (subst (λ (x : NodeHistory). IsBeginning x (then_run g p)) (sym m.acts) low) o c (same ∙ sym (ap (λ (x : ℕ). record { term = x; version = version }) term));
      }

      -- the accepted state is the one that the last one is
      over_last : (wait : Waiting) (old : WasNewFor h (basis h s g now) (node_state p) wait) → old.new.since.as_published.state ≡ a.as_published.parent
      over_last wait old =
          let c = old.committed in
          let id : id_of (node_state p).accepted ≡ published_id (node_state p) = λ i. record { term = old.last.term i; version = old.last.version i } in
          ap (λ (x : Published). x.state) ((unique h root W).same old.new.since.as_published c.as_published old.new.since.is_in c.is_committed.0 (old.new.since.is_id ∙ sym (ap id_of c.is_state ∙ id)))
          ∙ c.is_state ∙ sym parent

      place : (wait : Waiting) → CameSince now wait.conn wait.request → WasProcessed s now wait (node_state p) value ⊎ WasNewFor h (basis h s g now) (node_state p) wait → HasPlace h s g now wait a.as_published.state
      place wait came (inl mark) = record {
        id = record { term = term_of p; version = version };
        since = since wait came;
        into = record {
          moment = mark.moment;
          part = mark.part;
          requests = processed_into_next (master_of s mark.moment) (tasks_of s mark.moment);
          made = record {
            publisher = a.publisher;
            parent = parent ∙ ap (λ (n : NodeState). n.accepted) (sym mark.is_node);
            value = ap (λ (x : ClusterState). x.value) a.is_state ∙ sym mark.is_value;
            processed = refl;
          };
          is_among = among_contains (processed_into_next (master_of s mark.moment) (tasks_of s mark.moment)) wait mark.is_among;
        };
        descends = Itself;
      }
      place wait came (inr old) = record {
        id = old.new.place.id;
        since = old.new.place.since;
        into = old.new.place.into;
        descends = Child a.as_published a.is_in (subst (Descends h old.new.place.since.as_published.state) (over_last wait old) old.new.place.descends);
      }
  renews now p (Value version config value) (Refused c) k b = λ t. absurd (true≢false (sym t))
  renews now p (Value version config value) Stopped k b = λ t. absurd (true≢false (sym t))
  renews now p (Bootstrap config) reply k b = tt
  renews now p (StartJoin candidate term) reply k b = tt
  renews now p (TakeJoin join) reply k b = tt
  renews now p (Publish request) reply k b = tt
  renews now p (Response response) reply k b = tt
  renews now p (Commit commit) reply k b = tt
  renews now p (Open found) reply k b = tt

  -- the event that comes last
  module _ (now : Life) where
    -- the requests that are processed here
    processes : (l : Log) (v : View) (i : Item) (is : List Item) → v ≡ view_of s l → added l (i ∷ is) ≡ log_of now → Processes s (basis h s g now) v i
    processes l v (Notes StateMade) is e whole = λ w k. record {
      moment = l;
      part = subst (IsPartOf l) whole (part-added l (And l (Notes StateMade)) is (inr (part-self l)));
      is_node = ap (λ (x : View). x.node) (sym e);
      is_value = ap (λ (x : View). next_value (master_now s x) x.tasks) (sym e);
      is_among = subst (λ (x : View). IsAmong (processed_into_next (master_now s x) x.tasks) w) e k;
    }
    processes l v (Notes note) is e whole = tt
    processes l v (Opens found) is e whole = tt
    processes l v (Begins event) is e whole = tt
    processes l v (Acts act o) is e whole = tt
    processes l v (ChangesMode mode term) is e whole = tt
    processes l v (Drops member cause) is e whole = tt
    processes l v (Sends frame) is e whole = tt
    processes l v (Replies answer) is e whole = tt

    quietly : (v : View) (i : Item) (is : List Item) → is_quiet i ≡ true → Up (low_of now) (last_id v.node) → Processes s (basis h s g now) v i → AreBacked h s (basis h s g now) (moved s v i) is → AreBacked h s (basis h s g now) v (i ∷ is)
    quietly v (Opens found) is e u m a = cc
    quietly v (Begins event) is e u m a = cc
    quietly v (Acts act o) is e u m a = cc
    quietly v (ChangesMode mode term) is e u m a = (tt, a)
    quietly v (Drops member cause) is e u m a = (tt, a)
    quietly v (Sends frame) is e u m a = (tt, a)
    quietly v (Replies answer) is e u m a = (u, a)
    quietly v (Notes note) is e u m a = (m, a)

    -- the history backs the acts of a part of what the node does, which stand in its log
    backed : (l : Log) (v : View) (xs prefix rest : List Item) → IsAnswered s v xs → xs ≡ prefix ++ rest → added l xs ≡ log_of now → v ≡ view_of s l → Up (low_of now) (last_id (node_of l)) → IsBeginning (acts_of (begun_of now)) (acts_of l) → IsBeginning (acts_of (added l prefix)) r → AreBacked h s (basis h s g now) v prefix
    backed l v xs [] rest a same whole e u k b = tt
    backed l v xs (f ∷ fs) rest (Ended w) same whole e u k b = absurd (cc)
    backed l v xs (f ∷ fs) rest (ByAct w act is o a) same whole e u k b =
        let i : Item = Acts act (Answered (reply_at s.me w.node act)) in
        let own : is_own i ≡ true = rw o refl in
        let head : Acts act (Answered (reply_at s.me w.node act)) ≡ f = cc in
        let tail : is ≡ fs ++ rest = cc in
        let all : IsBeginning (acts_of (added (And l i) fs)) r = subst (λ (x : Item). IsBeginning (acts_of (added (And l x) fs)) r) (sym head) b in
        let here = begins_trans (acts_of (And l i)) (acts_of (added (And l i) fs)) r (begins_added (And l i) fs) all in
        let up : Up (low_of now) (last_id (node_of (And l i))) = up-trans (low_of now) (last_id (node_of l)) (last_id (node_of (And l i))) u (up-act s.me (acts_of l) act (reply_at s.me w.node act) o (ap (λ (x : View). reply_at s.me x.node act) e)) in
        subst (λ (x : Item). AreBacked h s (basis h s g now) v (x ∷ fs)) head (
          subst (λ (x : View). Backs h x.node act (reply_at s.me w.node act) × Renews h (basis h s g now) x.node act (reply_at s.me w.node act)) (sym e)
              (backs-within (acts_of l) act (reply_at s.me w.node act) o here, renews now (acts_of l) act (reply_at s.me w.node act) k here),
          backed (And l i) (moved s w i) is fs rest a tail whole (ap (λ (x : View). moved s x i) e ∙ sym (view_of-And s l i own)) up (begins_trans (acts_of (begun_of now)) (acts_of l) (acts_of (And l i)) k (begins_item l i)) all,
        )
    backed l v xs (f ∷ fs) rest (ByQuiet w i is q a) same whole e u k b =
        let head : i ≡ f = cc in
        let tail : is ≡ fs ++ rest = cc in
        let all : IsBeginning (acts_of (added (And l i) fs)) r = subst (λ (x : Item). IsBeginning (acts_of (added (And l x) fs)) r) (sym head) b in
        subst (λ (x : Item). AreBacked h s (basis h s g now) v (x ∷ fs)) head
        (quietly w i fs q (subst (λ (x : View). Up (low_of now) (last_id x.node)) (sym e) u) (processes l w i is e whole)
        (backed (And l i) (moved s w i) is fs rest a tail whole (ap (λ (x : View). moved s x i) e ∙ sym (view_of-And s l i (own-quiet i q))) (subst (λ (g : NodeHistory). Up (low_of now) (last_id (node_state g))) (sym (quiet_acts l i q)) u)
        (begins_trans (acts_of (begun_of now)) (acts_of l) (acts_of (And l i)) k (begins_item l i)) all))

  abbrev Stood : Life → Type 0
  Stood life = Holds h s (basis h s g life) (place (view_of s (log_of life)) (processed_of s (log_of life)))

  pub record Told (life : Life) : Type 0 where
    pub tells : RepliesTruly h s life
    pub stands : is_struck life ≡ false → Stood life

  -- what an event tells that does as the rules say
  keeps-event : (life : Life) (e : Event) → Follows s (Lived life (Did e (items_of s (log_of life) e))) → Told life
      → Keeps h s (basis h s g (Lived life (Did e (items_of s (log_of life) e)))) (view_of s (And (log_of life) (Begins e))) (processed_of s (log_of life)) (items_of s (log_of life) e) (Holds h s (basis h s g (Lived life (Did e (items_of s (log_of life) e)))))
  keeps-event life e f t =
      let now = Lived life (Did e (items_of s (log_of life) e)) in
      let before : Holds h s (basis h s g (Lived life (Did e (items_of s (log_of life) e)))) (place (view_of s (And (log_of life) (Begins e))) (processed_of s (log_of life))) =
      holds-more h s (basis h s g (Lived life (Did e (items_of s (log_of life) e)))) (basis h s g life) (λ c r k. record { so_far = k.so_far; came = inr k.came; begins = begins_trans (acts_of (log_of k.so_far)) (acts_of (begun_of life)) (acts_of (log_of life)) k.begins (begun_before life) })
      (λ w id k. new_later h s g life now w id (record { came = λ c r so_far a. inr a; parts = λ m p. part-added m (log_of life) (Begins e ∷ items_of s (log_of life) e) p }) k) (place (view_of s (And (log_of life) (Begins e))) (processed_of s (log_of life))) (t.stands f.1.up) in
      keeps-next h (unique h root W) s (basis h s g now) (view_of s (And (log_of life) (Begins e))) (processed_of s (log_of life)) e (λ c r k. record { so_far = life; came = inl (k, refl); begins = begins_self (acts_of (log_of life)) }) before

  -- the replies of a part of it are true, where the history has the acts of this part
  pub part_true : (life : Life) (e : Event) (prefix rest : List Item) → Follows s (Lived life (Did e (items_of s (log_of life) e))) → Told life → items_of s (log_of life) e ≡ prefix ++ rest
      → IsBeginning (acts_of (added (And (log_of life) (Begins e)) prefix)) r → All (λ (out : Outgoing). IsTrueReply h s (Lived life (Did e (items_of s (log_of life) e))) out.conn out.reply) (replies_of prefix)
  part_true life e prefix rest f t whole b =
      let log = And (log_of life) (Begins e) in
      let v = view_of s (And (log_of life) (Begins e)) in
      let items = items_of s (log_of life) e in
      let told : AllTrue h s (basis h s g (Lived life (Did e (items_of s (log_of life) e)))) (processed_after_all s (view_of s (And (log_of life) (Begins e))) (processed_of s (log_of life)) (items_of s (log_of life) e)) (replies_of prefix) =
      (keeps-event life e f t).within prefix rest whole (backed (Lived life (Did e (items_of s (log_of life) e))) log v items prefix rest (answered-next s v e) whole refl refl (up-same (last_id (node_of (log_of life)))) (begins_self (acts_of (log_of life))) b) in
      let processed : processed_of s (added (And (log_of life) (Begins e)) (items_of s (log_of life) e)) ≡ processed_after_all s (view_of s (And (log_of life) (Begins e))) (processed_of s (log_of life)) (items_of s (log_of life) e) = processed-added s log items (own-answered s v items (answered-next s v e)) in
      all_true_at h s g (Lived life (Did e (items_of s (log_of life) e))) f (replies_of prefix) (subst (λ (k : List Waiting). AllTrue h s (basis h s g (Lived life (Did e (items_of s (log_of life) e)))) k (replies_of prefix)) (sym processed) told)

  -- an event that does as the rules say
  event_ends : (life : Life) (e : Event) → Follows s (Lived life (Did e (items_of s (log_of life) e))) → Told life
      → IsBeginning (acts_of (log_of (Lived life (Did e (items_of s (log_of life) e))))) r
      → Ends h s (basis h s g (Lived life (Did e (items_of s (log_of life) e)))) (view_of s (And (log_of life) (Begins e))) (processed_of s (log_of life)) (items_of s (log_of life) e) (Holds h s (basis h s g (Lived life (Did e (items_of s (log_of life) e)))))
  event_ends life e f t b =
      let log = And (log_of life) (Begins e) in
      let v = view_of s (And (log_of life) (Begins e)) in
      let items = items_of s (log_of life) e in
      (keeps-event life e f t).ends (backed (Lived life (Did e (items_of s (log_of life) e))) log v items items [] (answered-next s v e) (sym (append-nil items)) refl refl (up-same (last_id (node_of (log_of life)))) (begins_self (acts_of (log_of life))) b)

  processed_by_event : (life : Life) (e : Event) → processed_of s (added (And (log_of life) (Begins e)) (items_of s (log_of life) e)) ≡ processed_after_all s (view_of s (And (log_of life) (Begins e))) (processed_of s (log_of life)) (items_of s (log_of life) e)
  processed_by_event life e =
      let v = view_of s (And (log_of life) (Begins e)) in
      processed-added s (And (log_of life) (Begins e)) (items_of s (log_of life) e) (own-answered s v (items_of s (log_of life) e) (answered-next s v e))

  event_true : (life : Life) (e : Event) → Follows s (Lived life (Did e (items_of s (log_of life) e))) → Told life
      → IsBeginning (acts_of (log_of (Lived life (Did e (items_of s (log_of life) e))))) r
      → AllTrue h s (basis h s g (Lived life (Did e (items_of s (log_of life) e)))) (processed_of s (log_of (Lived life (Did e (items_of s (log_of life) e))))) (replies_of (items_of s (log_of life) e))
  event_true life e f t b =
      subst (λ (k : List Waiting). AllTrue h s (basis h s g (Lived life (Did e (items_of s (log_of life) e)))) k (replies_of (items_of s (log_of life) e))) (sym (processed_by_event life e)) (event_ends life e f t b).told

  as_it_does : (life : Life) (e : Event) → Follows s (Lived life (Did e (items_of s (log_of life) e))) → Told life
      → IsBeginning (acts_of (log_of (Lived life (Did e (items_of s (log_of life) e))))) r → Told (Lived life (Did e (items_of s (log_of life) e)))
  as_it_does life e f t b =
      let log = And (log_of life) (Begins e) in
      let v = view_of s (And (log_of life) (Begins e)) in
      let items = items_of s (log_of life) e in
      let now = Lived life (Did e (items_of s (log_of life) e)) in
      let own = own-answered s v items (answered-next s v e) in
      record {
        tells = (t.tells, all_true_at h s g now f (replies_of items) (event_true life e f t b));
        stands = λ u.
            subst (λ (w : View). Holds h s (basis h s g (Lived life (Did e (items_of s (log_of life) e)))) (place w (processed_of s (added (And (log_of life) (Begins e)) (items_of s (log_of life) e))))) (sym (view_of-added s log items own))
            (subst (λ (k : List Waiting). Holds h s (basis h s g (Lived life (Did e (items_of s (log_of life) e)))) (place (moved_all s (view_of s (And (log_of life) (Begins e))) (items_of s (log_of life) e)) k)) (sym (processed_by_event life e)) (event_ends life e f t b).stands);
      }

  -- an event's replies, by the second profile
  event_in_time : (life : Life) (e : Event) (is : List Item) → s.policy.second ≡ true → Follows s (Lived life (Did e is)) → Told life → IsBeginning (acts_of (log_of (Lived life (Did e is)))) r → All (InTime h s g (Lived life (Did e is))) (replies_of is)
  event_in_time life e is second f t b = by_way f.1.does
    where
      by_way : (is ≡ items_of s (log_of life) e) ⊎ IsStruck (items_of s (log_of life) e) is → All (InTime h s g (Lived life (Did e is))) (replies_of is)
      by_way (inl same) =
          let now = Lived life (Did e (items_of s (log_of life) e)) in
          let follows : Follows s (Lived life (Did e (items_of s (log_of life) e))) = subst (λ (x : List Item). Follows s (Lived life (Did e x))) same f in
          subst (λ (x : List Item). All (InTime h s g (Lived life (Did e x))) (replies_of x)) (sym same)
          (each_at h s g now (InTime h s g now) (λ out. in_time_at h (unique h root W) s g now follows second out.conn out.reply) (replies_of (items_of s (log_of life) e))
          (event_true life e follows t (subst (λ (x : List Item). IsBeginning (acts_of (added (And (log_of life) (Begins e)) x)) r) same b)))
      by_way (inr struck) = subst (All (InTime h s g (Lived life (Did e is)))) (sym (struck-replies (items_of s (log_of life) e) is struck)) (All-nil (InTime h s g (Lived life (Did e is))))

  told_event : (life : Life) (e : Event) (is : List Item) → Follows s (Lived life (Did e is)) → Told life → IsBeginning (acts_of (log_of (Lived life (Did e is)))) r → Told (Lived life (Did e is))
  told_event life e is f t b = by_way f.1.does
    where
      by_way : (is ≡ items_of s (log_of life) e) ⊎ IsStruck (items_of s (log_of life) e) is → Told (Lived life (Did e is))
      by_way (inl same) =
          subst (λ (x : List Item). Told (Lived life (Did e x))) (sym same)
          (as_it_does life e (subst (λ (x : List Item). Follows s (Lived life (Did e x))) same f) t
          (subst (λ (x : List Item). IsBeginning (acts_of (added (And (log_of life) (Begins e)) x)) r) same b))
      by_way (inr struck) = record {
        tells = (t.tells, subst (All (λ (out : Outgoing). IsTrueReply h s (Lived life (Did e is)) out.conn out.reply)) (sym (struck-replies (items_of s (log_of life) e) is struck)) (All-nil (λ (out : Outgoing). IsTrueReply h s (Lived life (Did e is)) out.conn out.reply)));
        stands = λ u. absurd (both_ways _ u (struck_fault (items_of s (log_of life) e) is struck));
      }

  told : (life : Life) → Follows s life → IsBeginning (acts_of (log_of life)) r → Told life
  told NotBegun f b = record { tells = tt; stands = λ u. holds-idle h s (basis h s g NotBegun) _ refl refl refl }
  told (Opened life found) f b =
      let t = told life f.0 (begins_trans (acts_of (log_of life)) (acts_of (log_of (Opened life found))) r (begins_item (log_of life) (Opens found)) b) in
      record { tells = t.tells; stands = λ u. holds-idle h s (basis h s g (Opened life found)) _ refl refl refl }
  told (Lived life (Did e is)) f b =
      let before = begins_trans (acts_of (log_of life)) (acts_of (log_of (Lived life (Did e is)))) r (begins_added (And (log_of life) (Begins e)) is) b in
      told_event life e is f (told life f.0 before) b
  told (Lived life (Gone conn)) f b = let t = told life f.0 b in record { tells = t.tells; stands = λ u. holds-more h s (basis h s g (Lived life (Gone conn))) (basis h s g life) (λ c r k. record { so_far = k.so_far; came = k.came; begins = k.begins }) (λ w id k. new_later h s g life _ w id (record { came = λ c r so_far a. a; parts = λ m p. p }) k) _ (t.stands u) }
  told (Lived life (Bad conn fault)) f b = let t = told life f.0 b in record { tells = t.tells; stands = λ u. holds-more h s (basis h s g (Lived life (Bad conn fault))) (basis h s g life) (λ c r k. record { so_far = k.so_far; came = k.came; begins = k.begins }) (λ w id k. new_later h s g life _ w id (record { came = λ c r so_far a. a; parts = λ m p. p }) k) _ (t.stands u) }
  told (Lived life NoMemory) f b = let t = told life f.0 b in record { tells = t.tells; stands = λ u. holds-more h s (basis h s g (Lived life NoMemory)) (basis h s g life) (λ c r k. record { so_far = k.so_far; came = k.came; begins = k.begins }) (λ w id k. new_later h s g life _ w id (record { came = λ c r so_far a. a; parts = λ m p. p }) k) _ (t.stands u) }
  told (Lived life (Unread conn)) f b = let t = told life f.0 b in record { tells = t.tells; stands = λ u. holds-more h s (basis h s g (Lived life (Unread conn))) (basis h s g life) (λ c r k. record { so_far = k.so_far; came = k.came; begins = k.begins }) (λ w id k. new_later h s g life _ w id (record { came = λ c r so_far a. a; parts = λ m p. p }) k) _ (t.stands u) }

-- A run was killed within an event. The replies of a part of it are true, where the history has the acts of this part.
pub part_replies_true : (h : History) (root : ClusterState) → IsSystem (node_history h) root → (s : Settings) (g r : NodeHistory) → (g ≢ NoActs → OpensWith (durable_of g) r) → IsBeginning (then_run g r) (node_history h s.me)
    → (life : Life) (e : Event) (prefix rest : List Item) → Follows s (Lived life (Did e (items_of s (log_of life) e))) → items_of s (log_of life) e ≡ prefix ++ rest → IsBeginning (acts_of (added (And (log_of life) (Begins e)) prefix)) r
    → All (λ (out : Outgoing). IsTrueReply h s (Lived life (Did e (items_of s (log_of life) e))) out.conn out.reply) (replies_of prefix)
part_replies_true h root W s g r opens is_in life e prefix rest f whole b =
    let before = begins_trans (acts_of (log_of life)) (acts_of (added (And (log_of life) (Begins e)) prefix)) r (begins_added (And (log_of life) (Begins e)) prefix) b in
    part_true h root W s g r opens is_in life e prefix rest f (told h root W s g r opens is_in life f.0 before) whole b

pub replies_true : (h : History) (root : ClusterState) → IsSystem (node_history h) root → (s : Settings) (life : Life) → IsRunIn h s life → RepliesTruly h s life
replies_true h root W s life is =
    let r : NodeHistory = acts_of (log_of life) in
    (told h root W s is.before r is.begins (subst (IsBeginning (then_run is.before r)) (sym is.acts) (begins-run (then_run is.before r) is.after)) life is.follows (begins_self r)).tells

-- each reply of the last event of a run, by the second profile
pub replies_in_time : (h : History) (root : ClusterState) → IsSystem (node_history h) root → (s : Settings) → s.policy.second ≡ true → (life : Life) (e : Event) (is : List Item) (run : IsRunIn h s (Lived life (Did e is)))
    → All (InTime h s run.before (Lived life (Did e is))) (replies_of is)
replies_in_time h root W s second life e is run =
    let r : NodeHistory = acts_of (log_of (Lived life (Did e is))) in
    let is_in : IsBeginning (then_run run.before r) (node_history h s.me) = subst (IsBeginning (then_run run.before r)) (sym run.acts) (begins-run (then_run run.before r) run.after) in
    let before = begins_added (And (log_of life) (Begins e)) is in
    event_in_time h root W s run.before r run.begins is_in life e is second run.follows (told h root W s run.before r run.begins is_in life run.follows.0 before) (begins_self r)
