-- What each item of an event may be: a node takes the messages that it was handed, bootstraps with the initial names, sends what its acts
-- send, and what it keeps fits into a body.
use Rattle.std.proofs.Common.{◌≡◌, ℕ, ◌+◌, ◌≤◌, Bool, true, false, cond, not, ◌||◌, Option, None, Some, List, [], ◌∷◌, ◌++◌, max, refl, length, arith}
use Rattle.std.specs.Prelude.{nat_lt, if◌then◌else◌}
use Rattle.std.specs.List.{list_all, flat_map, AllByRecursion, Contains}
use Rattle.std.proofs.lemmas.Bool.{and_parts, and_from}
use Rattle.voting_config.specs.Ids.{Id, is_id, has, same, with_id, without_id, most_ids, IsIdSet, has_room, with_room}
use Rattle.voting_config.proofs.Kept.{list_all-filter}
use Rattle.cluster_state.specs.Field.{last_number}
use Rattle.cluster_state.specs.Fields.{ids}
use Rattle.cluster_state.specs.declared.state.ClusterState.{ClusterState}
use Rattle.cluster_state.specs.declared.state.ClusterValue.{ClusterValue}
use Rattle.cluster_state.specs.declared.state.StateId.{StateId}
use Rattle.peer_finder.specs.Peers.{PeerFinder, ids_of as peer_ids}
use Rattle.fault_checks.specs.declared.followers.Follower.{Follower as WatchedNode}
use Rattle.fault_checks.specs.Followers.{Followers, ids_of as follower_ids}
use Rattle.publication.specs.Publications.{Publication}
use Rattle.cluster_state.specs.States.{id_of, state as state_field, value as value_field}
use Rattle.cluster_state.specs.Initial.{initial_state}
use Rattle.wire_frames.specs.declared.frame.Frame.{Frame}
use Rattle.wire_frames.specs.declared.frame.WireMessage.{WireMessage as FrameMessage}
use Rattle.wire_frames.specs.declared.frame.WireMessage.TheVariants as message
use Rattle.master_tasks.specs.declared.waiting.Waiting.{Waiting}
use Rattle.master_tasks.specs.declared.waiting.Outgoing.{Outgoing}
use Rattle.master_tasks.specs.Queue.{Tasks, no_tasks}
use Rattle.master_tasks.specs.Answering.{without_answered}
use Rattle.master_tasks.proofs.Limits.{each_append}
use Rattle.world_model.specs.declared.acts.Act.{Act}
use Rattle.world_model.specs.declared.acts.Act.TheVariants.{Bootstrap, StartJoin, TakeJoin, Value, Publish, Response, Commit, Open}
use Rattle.world_model.specs.declared.acts.Message.{Message}
use Rattle.world_model.specs.declared.acts.Message.TheVariants.{Join as JoinMessage, Publish as PublishMessage, Response as ResponseMessage, Commit as CommitMessage}
use Rattle.world_model.specs.declared.acts.Outcome.{Outcome}
use Rattle.world_model.specs.declared.acts.Outcome.TheVariants.{Answered}
use Rattle.world_model.specs.Acts.{is_ok, is_effective}
use Rattle.world_model.specs.NodeState.{NodeState}
use Rattle.world_model.specs.Replies.{reply_at}
use Rattle.world_model.specs.Histories.{IsSourced, sent_by}
use Rattle.world_model.specs.Acts.{is_opening}
use Rattle.world_model.specs.Moves.{node_state_after}
use Rattle.policy_model.specs.declared.settings.Settings.{Settings}
use Rattle.policy_model.specs.declared.events.Mode.{Mode}
use Rattle.policy_model.specs.declared.events.Mode.TheVariants.{Candidate, Leader, Follower}
use Rattle.policy_model.specs.declared.events.DropCause.{DropCause}
use Rattle.policy_model.specs.Events.{Note, Met, Heard, PeersAsked, ElectionOff, ElectionSet, RoundBegun, RoundAnswered, RoundEnded, Joined, FollowersChecked, FollowerAnswered, LeaderChecked, LeaderAnswered, Queued, ExclusionsTimedOut, CommitAcked, AppliedAnswered, StateMade, HandedOver, PeerLost, LeaderLost, Item, Acts, ChangesMode, Drops, Sends, Replies, Notes}
use Rattle.policy_model.specs.Entries.{frames_in}
use Rattle.policy_model.specs.Joins.{join_from}
use Rattle.policy_model.specs.Parts.{all_to_be_added, finished, followers_ticked, follower_answered, heard, met, peers_asked, responded, state_finished}
use Rattle.policy_model.specs.LookBacks.{sends_one}
use Rattle.policy_model.specs.Views.{View, master_now}
use Rattle.policy_model.specs.Moves.{moved, moved_all, acted, mode_changed, noted}
use Rattle.system_laws.proofs.Meant.{Covers, sent_after, covers-after}
use Rattle.trace_text.proofs.IdLists.{none_set}
use Rattle.cluster_replay.proofs.Fits.{set-fits, set-with, set-with_known}
use Rattle.cluster_replay.proofs.Naming.{AllIds, NamedView, NamesAct, NamesItem, NamesMessage, NamesMode, NamesPublication, all-room, answered-id, followers-mapped, followers-stay, members-watched, peers-forgotten, peers-heard, peers-met, peers-unanswered, some-followers}
use Rattle.cluster_replay.proofs.NextFits.{fit-either, fit-initial, fit-state, IsGoodRequest, FitTasks, FitAccepted, good-left, set-rooms, fit-after}

-- ---- what fits

-- of the acts, what is accepted and who voted
pub record FitNode (p : NodeState) : Type 0 where
  pub accepted : FitAccepted p.accepted
  pub votes : IsIdSet p.join_votes

pub record FitView (v : View) : Type 0 where
  pub node : FitNode v.node
  pub tasks : FitTasks v.tasks
  pub names : NamedView v

-- what an act keeps fits, and whom it counts
abbrev pub FitAct : NodeState → Act → Type 0
FitAct p (Bootstrap config) = (ids most_ids).Fits config
FitAct p (StartJoin candidate term) = (is_id candidate ≡ true) × (term ≤ last_number)
FitAct p (TakeJoin join) = (is_id join.source ≡ true) × (has_room p.join_votes join.source ≡ true)
FitAct p (Value version config value) = (ids most_ids).Fits config × value_field.Fits value × (version ≤ last_number + 1)
FitAct p (Response response) = is_id response.source ≡ true
FitAct p (Publish request) = state_field.Fits request.state
FitAct p other = Unit {0}

abbrev pub FitNote : Note → Type 0
FitNote (Met ids) = AllIds ids
FitNote (Joined ids) = list_all is_id ids ≡ true
FitNote (Queued conn request) = IsGoodRequest request
FitNote other = Unit {0}

-- ---- what may be sent

-- what a frame brings was sent by an act
abbrev pub IsSentBy : List Message → Id → Id → FrameMessage → Type 0
IsSentBy ms from to (message.Join term last) = Contains ms (JoinMessage (join_from from to term last))
IsSentBy ms from to (message.Publish state) = Contains ms (PublishMessage (record { source = from; state = state }))
IsSentBy ms from to (message.Response id) = Contains ms (ResponseMessage (record { source = from; target = to; term = id.term; version = id.version }))
IsSentBy ms from to (message.Commit id) = Contains ms (CommitMessage (record { source = from; term = id.term; version = id.version }))
IsSentBy ms from to other = Unit {0}

pub record IsGoodFrame (ms : List Message) (f : Frame) : Type 0 where
  pub from : is_id f.from ≡ true
  pub to : is_id f.to ≡ true
  pub names : NamesMessage f.message
  pub sent : IsSentBy ms f.from f.to f.message

pub sent-covers : (ms ns : List Message) (from to : Id) (m : FrameMessage) → Covers ms ns → IsSentBy ms from to m → IsSentBy ns from to m
sent-covers ms ns from to (message.Join term last) c s = c _ s
sent-covers ms ns from to (message.Publish state) c s = c _ s
sent-covers ms ns from to (message.Response id) c s = c _ s
sent-covers ms ns from to (message.Commit id) c s = c _ s
sent-covers ms ns from to m c s = tt

-- ---- the items of an event of a node that is v, when these messages were sent

pub data IsAllowed (s : Settings) : List Message → View → List Item → Type 0 where
  Ended : (ms : List Message) (v : View) → IsAllowed s ms v []
  ByAct : (ms : List Message) (v : View) (act : Act) (is : List Item) → is_opening act ≡ false → IsSourced s.initial ms act → FitAct v.node act
      → IsAllowed s (ms ++ sent_by (Answered (reply_at s.me v.node act))) (moved s v (Acts act (Answered (reply_at s.me v.node act)))) is
      → IsAllowed s ms v (Acts act (Answered (reply_at s.me v.node act)) ∷ is)
  BySend : (ms : List Message) (v : View) (to : Id) (m : FrameMessage) (is : List Item) → is_id to ≡ true → NamesMessage m → IsSentBy ms s.me to m → IsAllowed s ms v is
      → IsAllowed s ms v (Sends (record { from = s.me; to = to; message = m }) ∷ is)
  ByReply : (ms : List Message) (v : View) (answer : Outgoing) (is : List Item) → IsAllowed s ms v is → IsAllowed s ms v (Replies answer ∷ is)
  ByTurn : (ms : List Message) (v : View) (mode : Mode) (term : ℕ) (is : List Item) → NamesMode mode → IsAllowed s ms (mode_changed v mode term) is → IsAllowed s ms v (ChangesMode mode term ∷ is)
  ByDrop : (ms : List Message) (v : View) (member : Id) (cause : DropCause) (is : List Item) → is_id member ≡ true → IsAllowed s ms (moved s v (Drops member cause)) is → IsAllowed s ms v (Drops member cause ∷ is)
  ByNote : (ms : List Message) (v : View) (note : Note) (is : List Item) → FitNote note → IsAllowed s ms (noted s v note) is → IsAllowed s ms v (Notes note ∷ is)

-- ---- the view stays within the limits

set-either : (b : Bool) (xs ys : List Id) → IsIdSet xs → IsIdSet ys → IsIdSet (cond b xs ys)
set-either true xs ys f g = f
set-either false xs ys f g = g

set-counted : (votes : List Id) (x : Id) → IsIdSet votes → is_id x ≡ true → has_room votes x ≡ true → IsIdSet (with_id x votes)
set-counted votes x s h f = from (has x votes) refl f
  where
    from : (b : Bool) → has x votes ≡ b → (b || nat_lt (length votes) most_ids) ≡ true → IsIdSet (with_id x votes)
    from true e k = set-with_known x votes s e
    from false e k = set-with x votes s h k

fit-act : (p : NodeState) (act : Act) (o : Outcome) → FitNode p → FitAct p act → FitNode (node_state_after p act o)
fit-act p (Bootstrap config) o f a = record { accepted = fit-either (is_effective o) (initial_state config) p.accepted (fit-initial config a) f.accepted; votes = f.votes }
fit-act p (StartJoin candidate term) o f a = record { accepted = f.accepted; votes = set-either (is_ok o) [] p.join_votes none_set f.votes }
fit-act p (TakeJoin join) o f a = record { accepted = f.accepted; votes = set-either (is_ok o) (with_id join.source p.join_votes) p.join_votes (set-counted p.join_votes join.source f.votes a.0 a.1) f.votes }
fit-act p (Value version config value) o f a = record { accepted = f.accepted; votes = f.votes }
fit-act p (Publish request) o f a =
    record { accepted = fit-either (is_effective o) request.state p.accepted (fit-state request.state a) f.accepted; votes = f.votes }
fit-act p (Response response) o f a = record { accepted = f.accepted; votes = f.votes }
fit-act p (Commit commit) o f a = record { accepted = f.accepted; votes = f.votes }
fit-act p (Open found) o f a = f

small-if : (b : Bool) (x y : ℕ) → x ≤ last_number → y ≤ last_number → cond b x y ≤ last_number
small-if true x y p q = p
small-if false x y p q = q

version-if : (b : Bool) (x y : ClusterState) → x.version ≤ last_number → y.version ≤ last_number → (cond b x y).version ≤ last_number
version-if true x y p q = p
version-if false x y p q = q

names-if : (b : Bool) (x y : Option Publication) → NamesPublication x → NamesPublication y → NamesPublication (if b then x else y)
names-if true x y p q = p
names-if false x y p q = q

watched-if : (b : Bool) (x y : Followers) → AllIds (follower_ids x.watched) → AllIds (follower_ids y.watched) → AllIds (follower_ids (if b then x else y).watched)
watched-if true x y p q = p
watched-if false x y p q = q

-- a value that fits names members
pub members-fit : (value : ClusterValue) → value_field.Fits value → AllIds value.members
members-fit value f = (set-fits most_ids value.members (omega arith) f.1.0).each

members-without : (me : Id) (members : List Id) → AllIds members → AllIds (without_id me members)
members-without me members h = list_all-filter is_id _ members h

responded-names : (o : Option Publication) (source : Id) (b : Bool) → is_id source ≡ true → NamesPublication o → NamesPublication (responded o source b)
responded-names None source b h n = tt
responded-names (Some p) source true h n = (n.0, all-room p.responders source n.1 h)
responded-names (Some p) source false h n = (n.0, all-room p.responders source n.1 h)

finished-names : (o : Option Publication) → NamesPublication o → NamesPublication (finished o)
finished-names None n = tt
finished-names (Some p) n = n

state-finished : (o : Option Publication) (fs : Followers) (id : StateId) (now : ℕ) → AllIds (follower_ids fs.watched) → AllIds (follower_ids (state_finished o fs id now).watched)
state-finished None fs id now h = h
state-finished (Some p) fs id now h = watched-if p.finished fs _ h (followers-mapped _ (λ f. refl) fs.watched h)

with-node : (v : View) (p : NodeState) → p.term ≤ last_number → p.accepted.version ≤ last_number → NamedView v → NamedView (record v { node = p })
with-node v p t a n = record { term = t; version = a; mode = n.mode; peers = n.peers; publication = n.publication; watched = n.watched }

pub fit-acted : (s : Settings) (v : View) (act : Act) (o : Outcome) → FitView v → FitAct v.node act → FitView (acted s v act o)
fit-acted s v (Bootstrap config) o f a = record {
  node = fit-act v.node (Bootstrap config) o f.node a;
  tasks = f.tasks;
  names = with-node v (node_state_after v.node (Bootstrap config) o) f.names.term (version-if (is_effective o) (initial_state config) v.node.accepted (omega arith) f.names.version) f.names;
}
fit-acted s v (StartJoin candidate term) o f a = record {
  node = fit-act v.node (StartJoin candidate term) o f.node a;
  tasks = f.tasks;
  names = record {
    term = small-if (is_effective o) (max term v.node.term) v.node.term (omega (arith, a.1, f.names.term)) f.names.term;
    version = f.names.version;
    mode = f.names.mode;
    peers = f.names.peers;
    publication = f.names.publication;
    watched = f.names.watched;
  };
}
fit-acted s v (TakeJoin join) o f a = record { node = fit-act v.node (TakeJoin join) o f.node a; tasks = f.tasks; names = with-node v (node_state_after v.node (TakeJoin join) o) f.names.term f.names.version f.names }
fit-acted s v (Value version config value) o f a =
    let members = members-fit value a.1 in
    record {
      node = fit-act v.node (Value version config value) o f.node a;
      tasks = f.tasks;
      names = record {
        term = f.names.term;
        version = f.names.version;
        mode = f.names.mode;
        peers = f.names.peers;
        publication = names-if (is_ok o) _ v.publication (members, refl) f.names.publication;
        watched = watched-if (is_ok o) _ v.followers (members-watched v.followers.watched v.moment (without_id s.me value.members) (members-without s.me value.members members)) f.names.watched;
      };
    }
fit-acted s v (Publish request) o f a = record {
  node = fit-act v.node (Publish request) o f.node a;
  tasks = f.tasks;
  names = with-node v (node_state_after v.node (Publish request) o) f.names.term (version-if (is_effective o) request.state v.node.accepted a.0.0.0.1 f.names.version) f.names;
}
fit-acted s v (Response response) o f a = record {
  node = fit-act v.node (Response response) o f.node a;
  tasks = f.tasks;
  names = record {
    term = f.names.term;
    version = f.names.version;
    mode = f.names.mode;
    peers = f.names.peers;
    publication = names-if (is_ok o) _ v.publication (responded-names v.publication response.source (sends_one o) a f.names.publication) f.names.publication;
    watched = f.names.watched;
  };
}
fit-acted s v (Commit commit) o f a = record {
  node = fit-act v.node (Commit commit) o f.node a;
  tasks = f.tasks;
  names = record {
    term = f.names.term;
    version = f.names.version;
    mode = f.names.mode;
    peers = f.names.peers;
    publication = names-if (is_ok o) _ v.publication (finished-names v.publication f.names.publication) f.names.publication;
    watched = watched-if (is_ok o) _ v.followers (state-finished v.publication v.followers (id_of v.node.accepted) v.moment f.names.watched) f.names.watched;
  };
}
fit-acted s v (Open found) o f a = record { node = fit-act v.node (Open found) o f.node a; tasks = f.tasks; names = record { term = f.names.term; version = f.names.version; mode = f.names.mode; peers = f.names.peers; publication = f.names.publication; watched = f.names.watched } }

pub fit-none : FitTasks no_tasks
fit-none = record { additions = none_set; waiting = tt }

pub fit-mode_changed : (v : View) (mode : Mode) (term : ℕ) → FitView v → NamesMode mode → FitView (mode_changed v mode term)
fit-mode_changed v Candidate term f n = record {
  node = f.node;
  tasks = fit-none;
  names = record { term = f.names.term; version = f.names.version; mode = tt; peers = peers-forgotten v.finder.peers f.names.peers; publication = tt; watched = refl };
}
fit-mode_changed v Leader term f n = record {
  node = f.node;
  tasks = f.tasks;
  names = record { term = f.names.term; version = f.names.version; mode = tt; peers = f.names.peers; publication = f.names.publication; watched = f.names.watched };
}
fit-mode_changed v (Follower leader) term f n = record {
  node = f.node;
  tasks = f.tasks;
  names = record { term = f.names.term; version = f.names.version; mode = n; peers = f.names.peers; publication = f.names.publication; watched = f.names.watched };
}

additions-joined : (t : Tasks) (xs : List Id) → FitTasks t → list_all is_id xs ≡ true → FitTasks (all_to_be_added t xs)
additions-joined t [] f h = f
additions-joined t (x ∷ xs) f h =
    let parts = and_parts (is_id x) (list_all is_id xs) h in
    additions-joined (record t { additions = with_room t.additions x }) xs (record { additions = set-rooms t.additions (x ∷ []) f.additions (and_from (is_id x) true parts.0 refl); waiting = f.waiting }) parts.1

fit-left : (decide : Waiting → Option _) (t : Tasks) → FitTasks t → FitTasks (without_answered decide t)
fit-left decide t f = record { additions = f.additions; waiting = good-left _ t.waiting f.waiting }

with-peers : (v : View) (finder : PeerFinder) → AllIds (peer_ids finder.peers) → NamedView v → NamedView (record v { finder = finder })
with-peers v finder h n = record { term = n.term; version = n.version; mode = n.mode; peers = h; publication = n.publication; watched = n.watched }

with-followers : (v : View) (followers : Followers) → AllIds (follower_ids followers.watched) → NamedView v → NamedView (record v { followers = followers })
with-followers v followers h n = record { term = n.term; version = n.version; mode = n.mode; peers = n.peers; publication = n.publication; watched = h }

pub fit-noted : (s : Settings) (v : View) (note : Note) → FitView v → FitNote note → FitView (noted s v note)
fit-noted s v (Met ids) f n = record { node = f.node; tasks = f.tasks; names = with-peers v (met v.finder ids) (peers-met v.finder ids f.names.peers n) f.names }
fit-noted s v (Heard peer master) f n = record { node = f.node; tasks = f.tasks; names = with-peers v (heard v.finder peer master) (peers-heard peer master v.finder.peers f.names.peers) f.names }
fit-noted s v PeersAsked f n = record { node = f.node; tasks = f.tasks; names = with-peers v (peers_asked v.finder v.moment) f.names.peers f.names }
fit-noted s v ElectionOff f n = record { node = f.node; tasks = f.tasks; names = record { term = f.names.term; version = f.names.version; mode = f.names.mode; peers = f.names.peers; publication = f.names.publication; watched = f.names.watched } }
fit-noted s v (ElectionSet word) f n = record { node = f.node; tasks = f.tasks; names = record { term = f.names.term; version = f.names.version; mode = f.names.mode; peers = f.names.peers; publication = f.names.publication; watched = f.names.watched } }
fit-noted s v (RoundBegun word) f n = record { node = f.node; tasks = f.tasks; names = record { term = f.names.term; version = f.names.version; mode = f.names.mode; peers = f.names.peers; publication = f.names.publication; watched = f.names.watched } }
fit-noted s v (RoundAnswered source term last) f n = record { node = f.node; tasks = f.tasks; names = record { term = f.names.term; version = f.names.version; mode = f.names.mode; peers = f.names.peers; publication = f.names.publication; watched = f.names.watched } }
fit-noted s v RoundEnded f n = record { node = f.node; tasks = f.tasks; names = record { term = f.names.term; version = f.names.version; mode = f.names.mode; peers = f.names.peers; publication = f.names.publication; watched = f.names.watched } }
fit-noted s v (Joined ids) f n = record { node = f.node; tasks = additions-joined v.tasks ids f.tasks n; names = record { term = f.names.term; version = f.names.version; mode = f.names.mode; peers = f.names.peers; publication = f.names.publication; watched = f.names.watched } }
fit-noted s v FollowersChecked f n = record { node = f.node; tasks = f.tasks; names = with-followers v (followers_ticked v.followers v.moment) (followers-stay v.followers.watched v.moment f.names.watched) f.names }
fit-noted s v (FollowerAnswered from good applied) f n = record { node = f.node; tasks = f.tasks; names = with-followers v (follower_answered v.followers from good applied v.moment) (followers-mapped _ (answered-id from v.followers.finished good applied v.moment) v.followers.watched f.names.watched) f.names }
fit-noted s v LeaderChecked f n = record { node = f.node; tasks = f.tasks; names = record { term = f.names.term; version = f.names.version; mode = f.names.mode; peers = f.names.peers; publication = f.names.publication; watched = f.names.watched } }
fit-noted s v (LeaderAnswered good) f n = record { node = f.node; tasks = f.tasks; names = record { term = f.names.term; version = f.names.version; mode = f.names.mode; peers = f.names.peers; publication = f.names.publication; watched = f.names.watched } }
fit-noted s v (Queued conn request) f n = record { node = f.node; tasks = record { additions = f.tasks.additions; waiting = each_append _ v.tasks.waiting _ f.tasks.waiting (n, tt) }; names = record { term = f.names.term; version = f.names.version; mode = f.names.mode; peers = f.names.peers; publication = f.names.publication; watched = f.names.watched } }
fit-noted s v ExclusionsTimedOut f n = record { node = f.node; tasks = fit-left _ v.tasks f.tasks; names = record { term = f.names.term; version = f.names.version; mode = f.names.mode; peers = f.names.peers; publication = f.names.publication; watched = f.names.watched } }
fit-noted s v CommitAcked f n = record { node = f.node; tasks = fit-left _ v.tasks f.tasks; names = record { term = f.names.term; version = f.names.version; mode = f.names.mode; peers = f.names.peers; publication = f.names.publication; watched = f.names.watched } }
fit-noted s v AppliedAnswered f n = record { node = f.node; tasks = fit-left _ v.tasks f.tasks; names = record { term = f.names.term; version = f.names.version; mode = f.names.mode; peers = f.names.peers; publication = f.names.publication; watched = f.names.watched } }
fit-noted s v StateMade f n = record { node = f.node; tasks = fit-after (master_now s v) v.tasks f.tasks; names = record { term = f.names.term; version = f.names.version; mode = f.names.mode; peers = f.names.peers; publication = f.names.publication; watched = f.names.watched } }
fit-noted s v HandedOver f n = record { node = f.node; tasks = f.tasks; names = record { term = f.names.term; version = f.names.version; mode = f.names.mode; peers = f.names.peers; publication = f.names.publication; watched = f.names.watched } }
fit-noted s v (PeerLost id) f n = record { node = f.node; tasks = f.tasks; names = record { term = f.names.term; version = f.names.version; mode = f.names.mode; peers = peers-unanswered id v.finder.peers f.names.peers; publication = f.names.publication; watched = some-followers (λ (x : WatchedNode). not (same x.id id)) v.followers.watched f.names.watched } }
fit-noted s v LeaderLost f n = record { node = f.node; tasks = f.tasks; names = record { term = f.names.term; version = f.names.version; mode = f.names.mode; peers = f.names.peers; publication = f.names.publication; watched = f.names.watched } }

pub fit-moved : (s : Settings) (ms : List Message) (v : View) (is : List Item) → IsAllowed s ms v is → FitView v → FitView (moved_all s v is)
fit-moved s ms v is (Ended ms' v') f = f
fit-moved s ms v is (ByAct ms' v' act rest o sourced fit a) f = fit-moved s _ _ rest a (fit-acted s v' act _ f fit)
fit-moved s ms v is (BySend ms' v' to m rest there names sent a) f = fit-moved s _ _ rest a f
fit-moved s ms v is (ByReply ms' v' answer rest a) f = fit-moved s _ _ rest a f
fit-moved s ms v is (ByTurn ms' v' mode term rest n a) f = fit-moved s _ _ rest a (fit-mode_changed v' mode term f n)
fit-moved s ms v is (ByDrop ms' v' member cause rest n a) f =
    fit-moved s _ _ rest a (record { node = f.node; tasks = record { additions = f.tasks.additions; waiting = f.tasks.waiting }; names = record { term = f.names.term; version = f.names.version; mode = f.names.mode; peers = f.names.peers; publication = f.names.publication; watched = f.names.watched } })
fit-moved s ms v is (ByNote ms' v' note rest n a) f = fit-moved s _ _ rest a (fit-noted s v' note f n)

-- ---- the frames after them

pub frames-sent : (s : Settings) (ms : List Message) (v : View) (is : List Item) → is_id s.me ≡ true → IsAllowed s ms v is → AllByRecursion (IsGoodFrame (sent_after ms is)) (flat_map frames_in is)
frames-sent s ms v is me (Ended ms' v') = tt
frames-sent s ms v is me (ByAct ms' v' act rest o sourced fit a) = frames-sent s _ _ rest me a
frames-sent s ms v is me (BySend ms' v' to m rest there names sent a) =
    (record { from = me; to = there; names = names; sent = sent-covers ms' (sent_after ms' rest) s.me to m (covers-after ms' rest) sent }, frames-sent s _ _ rest me a)
frames-sent s ms v is me (ByReply ms' v' answer rest a) = frames-sent s _ _ rest me a
frames-sent s ms v is me (ByTurn ms' v' mode term rest n a) = frames-sent s _ _ rest me a
frames-sent s ms v is me (ByDrop ms' v' member cause rest n a) = frames-sent s _ _ rest me a
frames-sent s ms v is me (ByNote ms' v' note rest n a) = frames-sent s _ _ rest me a

-- whom they name

act-names : (p : NodeState) (act : Act) → FitAct p act → NamesAct act
act-names p (StartJoin candidate term) f = f
act-names p (Value version config value) f = f
act-names p (Bootstrap config) f = tt
act-names p (TakeJoin join) f = tt
act-names p (Publish request) f = tt
act-names p (Response response) f = tt
act-names p (Commit commit) f = tt
act-names p (Open found) f = tt

pub items-name : (s : Settings) (ms : List Message) (v : View) (is : List Item) → is_id s.me ≡ true → IsAllowed s ms v is → AllByRecursion NamesItem is
items-name s ms v is me (Ended ms' v') = tt
items-name s ms v is me (ByAct ms' v' act rest o sourced fit a) = (act-names v'.node act fit, items-name s _ _ rest me a)
items-name s ms v is me (BySend ms' v' to m rest there names sent a) = ((me, there, names), items-name s _ _ rest me a)
items-name s ms v is me (ByReply ms' v' answer rest a) = (tt, items-name s _ _ rest me a)
items-name s ms v is me (ByTurn ms' v' mode term rest n a) = (n, items-name s _ _ rest me a)
items-name s ms v is me (ByDrop ms' v' member cause rest n a) = (n, items-name s _ _ rest me a)
items-name s ms v is me (ByNote ms' v' note rest n a) = (tt, items-name s _ _ rest me a)

-- ---- how allowed items are put together

pub allowed-append : (s : Settings) (ms : List Message) (v : View) (xs ys : List Item) → IsAllowed s ms v xs → IsAllowed s (sent_after ms xs) (moved_all s v xs) ys → IsAllowed s ms v (xs ++ ys)
allowed-append s ms v xs ys (Ended ms' v') b = b
allowed-append s ms v xs ys (ByAct ms' v' act rest o sourced fit a) b = ByAct ms' v' act (rest ++ ys) o sourced fit (allowed-append s _ _ rest ys a b)
allowed-append s ms v xs ys (BySend ms' v' to m rest there names sent a) b = BySend ms' v' to m (rest ++ ys) there names sent (allowed-append s _ _ rest ys a b)
allowed-append s ms v xs ys (ByReply ms' v' answer rest a) b = ByReply ms' v' answer (rest ++ ys) (allowed-append s _ _ rest ys a b)
allowed-append s ms v xs ys (ByTurn ms' v' mode term rest n a) b = ByTurn ms' v' mode term (rest ++ ys) n (allowed-append s _ _ rest ys a b)
allowed-append s ms v xs ys (ByDrop ms' v' member cause rest n a) b = ByDrop ms' v' member cause (rest ++ ys) n (allowed-append s _ _ rest ys a b)
allowed-append s ms v xs ys (ByNote ms' v' note rest n a) b = ByNote ms' v' note (rest ++ ys) n (allowed-append s _ _ rest ys a b)
