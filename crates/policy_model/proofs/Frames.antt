-- An event sends few frames, and keeps a node's sets small.
use Rattle.std.proofs.Common.{◌≡◌, ℕ, suc, ◌+◌, ◌≤◌, Bool, true, false, not, cond, ◌&&◌, Option, None, Some, Result, Ok, Err, List, [], ◌∷◌, ◌++◌, length, map, filter, fold, refl, ap, ◌∙◌, arith}
use Rattle.std.specs.Prelude.{if◌then◌else◌, is_some, nat_le, nat_lt}
use Rattle.std.specs.List.{flat_map}
use Rattle.std.proofs.lemmas.Bool.Decides.{nat_tests}
use Rattle.std.proofs.lemmas.List.{length-append, length-map}
use Rattle.cluster_state.specs.Field.{last_number}
use Rattle.voting_config.specs.Ids.{Id, has, before, same, put, with_id, without_id, most_ids, among, outside, has_room, with_room}
use Rattle.exclusions.specs.declared.AddError.{AddError}
use Rattle.exclusions.specs.declared.StillMember.{StillMember}
use Rattle.exclusions.specs.Exclusions.{added_of, cleared_of}
use Rattle.bootstrap.specs.Decisions.{decision_of}
use Rattle.election_clock.specs.Delays.{is_due}
use Rattle.peer_finder.specs.declared.Peer.{Peer}
use Rattle.peer_finder.specs.Peers.{PeerFinder, after as finder_after, Added, ids_of, is_free, known_set, free_set, answered_set, most_peers}
use Rattle.cluster_state.specs.JoinCheck.{is_empty}
use Rattle.cluster_state.specs.declared.reply.LineFault.{LineFault}
use Rattle.cluster_state.specs.declared.request.Ask.{Ask}
use Rattle.cluster_state.specs.declared.request.Ask.TheVariants as ask
use Rattle.cluster_state.specs.declared.request.Request.{Request}
use Rattle.cluster_state.specs.declared.state.ClusterState.{ClusterState}
use Rattle.cluster_state.specs.declared.state.ClusterValue.{ClusterValue}
use Rattle.cluster_state.specs.declared.state.Kept.{Kept}
use Rattle.cluster_state.specs.declared.state.StateId.{StateId}
use Rattle.cluster_state.specs.Fields.{most_settings}
use Rattle.cluster_state.specs.Settings.{Setting, put_setting}
use Rattle.cluster_state.specs.declared.reply.Answer.TheVariants as answer
use Rattle.cluster_state.specs.Initial.{initial_state}
use Rattle.cluster_state.specs.Puts.{bad_setting_of}
use Rattle.wire_frames.specs.declared.frame.Frame.{Frame}
use Rattle.wire_frames.specs.declared.frame.WireMessage.{WireMessage}
use Rattle.wire_frames.specs.declared.frame.WireMessage.TheVariants as message
use Rattle.client_lines.specs.Reading.{line_request}
use Rattle.pre_vote.specs.declared.rounds.Added.{Added as RoundAdded}
use Rattle.pre_vote.specs.declared.rounds.Added.TheVariants.{Counted, Fresher, Quorum}
use Rattle.pre_vote.specs.declared.replies.Reply.{Reply as PreVoteReply}
use Rattle.pre_vote.specs.declared.replies.Reply.TheVariants.{Answer as PreVoteAnswer, Refused as PreVoteRefused}
use Rattle.pre_vote.specs.Rounds.{Round}
use Rattle.publication.specs.Publications.{Publication}
use Rattle.fault_checks.specs.declared.leader.LeaderTick.{LeaderTick}
use Rattle.fault_checks.specs.declared.leader.LeaderTick.TheVariants as leader_tick_is
use Rattle.fault_checks.specs.Leaders.{LeaderCheck, leader_tick}
use Rattle.fault_checks.specs.declared.followers.Follower.{Follower as FollowerState}
use Rattle.fault_checks.specs.Followers.{Followers, after as followers_after, Finished as StateFinished, is_asked, stays, to_ask, to_drop_for_checks, to_drop_for_lag}
use Rattle.master_tasks.proofs.Limits.{fewer}
use Rattle.master_tasks.specs.declared.waiting.Outgoing.{Outgoing}
use Rattle.master_tasks.specs.declared.waiting.Waiting.{Waiting}
use Rattle.master_tasks.specs.Members.{members_after}
use Rattle.master_tasks.specs.NextState.{Leader as Master, next_answers, is_nothing_new, next_value, processed_by, value_before}
use Rattle.master_tasks.specs.Processing.{Processing, AnsweredAtOnce, Makes, Processed, and_then, before_all, clearing, excluding, processing, processing_once, value_after, with_next}
use Rattle.master_tasks.specs.Queue.{Tasks, is_full_of}
use Rattle.world_model.specs.declared.acts.Act.{Act}
use Rattle.world_model.specs.declared.acts.Act.TheVariants.{Bootstrap, StartJoin, TakeJoin, Value, Publish, Response, Commit, Open}
use Rattle.voting_config.proofs.Sets.{same_self, length-with_id-le, length-set_of}
use Rattle.policy_model.specs.declared.settings.Settings.{Settings}
use Rattle.policy_model.specs.Events.{Mode, Candidate, Leader, Follower, Event, Start, Tick, FrameCame, LineCame, PeerGone, DropCause, Checks, Lag, Note, Met, Heard, PeersAsked, ElectionOff, ElectionSet, RoundBegun, RoundAnswered, RoundEnded, Joined, FollowersChecked, FollowerAnswered, LeaderChecked, LeaderAnswered, Queued, ExclusionsTimedOut, CommitAcked, AppliedAnswered, StateMade, HandedOver, PeerLost, LeaderLost, Item, Opens, Begins, Acts, ChangesMode, Drops, Sends, Replies, Notes}
use Rattle.policy_model.specs.Entries.{frames_in, put_frame, by_receiver}
use Rattle.policy_model.specs.Parts.{met, published_at, responded, after_response, finished, watched, state_finished}
use Rattle.policy_model.specs.Views.{View, master_now}
use Rattle.policy_model.specs.Moves.{opened, moved, moved_all}
use Rattle.policy_model.specs.Doing as doing
use Rattle.policy_model.specs.NextState as next
use Rattle.policy_model.specs.Elections as elections
use Rattle.policy_model.specs.Discovery as discovery
use Rattle.policy_model.specs.Joins as joins
use Rattle.policy_model.specs.Publications as publications
use Rattle.policy_model.specs.Checks as checks
use Rattle.policy_model.specs.Requests as requests
use Rattle.policy_model.specs.Rules as rules
use Rattle.policy_model.specs.Disconnects as disconnects
use Rattle.policy_model.specs.Bounds.{IsSmallView, HoldsSet, EventHoldsSet, SendsFew, most_frames}
use Rattle.policy_model.proofs.Sweeps.{moved_all-append, moved_all-replies, moved_all-sends, frames-append, frames-replies, frames-sends}

-- ---- lengths

-- a set without an id, which it may have been given before
without_put : (x : Id) (ys : List Id) → length (without_id x (put x ys)) ≤ length ys
without_put x [] = rw (same_self x) (omega arith)
without_put x (y ∷ ys) =
    let rest = without_put x ys in
    let all = fewer (λ z. not (same z x)) (y ∷ ys) in
    elim (before y x) as (λ b. length (without_id x (cond b (y ∷ put x ys) (x ∷ y ∷ ys))) ≤ suc (length ys)) [
      | true ↦ elim (not (same y x)) as (λ b. length (cond b (y ∷ without_id x (put x ys)) (without_id x (put x ys))) ≤ suc (length ys)) [ true ↦ omega (arith, rest) | false ↦ omega (arith, rest) ]
      | false ↦ rw (same_self x) all
    ]

few-others : (x : Id) (ys : List Id) → length (without_id x (with_id x ys)) ≤ length ys
few-others x ys =
    let other = without_put x ys in
    let all = fewer (λ z. not (same z x)) ys in
    elim (has x ys) as (λ b. length (without_id x (cond b ys (put x ys))) ≤ length ys) [ true ↦ all | false ↦ other ]

few-with_room : (ids : List Id) (id : Id) → length ids ≤ most_ids → length (with_room ids id) ≤ most_ids
few-with_room ids id few =
    let one_more = length-with_id-le id ids in
    elim (nat_lt (length ids) most_ids) as (λ b. nat_lt (length ids) most_ids ≡ b → length (if b then with_id id ids else ids) ≤ most_ids) [
      | true ↦ λ room. grind (arith, nat_tests, one_more)
      | false ↦ λ full. few
    ] refl

-- ---- the members of the next state

few-joined : (additions members : List Id) → length members ≤ most_ids → length (fold with_room members additions) ≤ most_ids
few-joined [] members few = few
few-joined (id ∷ ids) members few = few-joined ids (with_room members id) (few-with_room members id few)

few-first : (b : Bool) (me : Id) (members : List Id) → length members ≤ most_ids → length (if b then with_room members me else members) ≤ most_ids
few-first true me members few = few-with_room members me few
few-first false me members few = few

few-members : (me : Id) (t : Tasks) (members : List Id) → length members ≤ most_ids → length (members_after me t members) ≤ most_ids
few-members me t members few =
    let left = fewer (λ x. not (has x (without_id me t.removals))) members in
    few-joined t.additions _ (few-first (has me t.additions) me (outside members (without_id me t.removals)) (omega (arith, few, left)))

-- no request changes them
members-put : (b : Bool) (value made : ClusterValue) (a : Processing) → made.members ≡ value.members → (value_after value a).members ≡ value.members → (value_after value (if b then a else Makes made)).members ≡ value.members
members-put true value made a m h = h
members-put false value made a m h = m

members-exclude : (value : ClusterValue) (r : Result (List Id) AddError) → (value_after value (excluding value r)).members ≡ value.members
members-exclude value (Ok ids) = refl
members-exclude value (Err e) = refl

members-clear : (value : ClusterValue) (r : Result (Unit {0}) StillMember) → (value_after value (clearing value r)).members ≡ value.members
members-clear value (Ok u) = refl
members-clear value (Err e) = refl

members-ask : (second : Bool) (accepted : ClusterState) (value : ClusterValue) (a : Ask) → (value_after value (processing second accepted value a)).members ≡ value.members
members-ask second accepted value (ask.Put key text) =
    members-put (not (has key (map (λ (t : Setting). t.0) value.settings)) && nat_le most_settings (length value.settings)) value (record value { settings = put_setting (key, text) value.settings })
    (AnsweredAtOnce (answer.TooManySettings (most_settings + 1))) refl refl
members-ask second accepted value (ask.Remove key) = refl
members-ask second accepted value (ask.Exclude ids) = members-exclude value (added_of value.exclusions ids)
members-ask second accepted value (ask.Clear wait) = members-clear value (cleared_of value.exclusions value.members wait)
members-ask true accepted value ask.State = refl
members-ask false accepted value ask.State = refl

members-once : (b second : Bool) (accepted : ClusterState) (value : ClusterValue) (a : Ask) → (value_after value (if b then Makes value else processing second accepted value a)).members ≡ value.members
members-once true second accepted value a = refl
members-once false second accepted value a = members-ask second accepted value a

members-then : (p : Processed) (w : Waiting) (step : Processing) → (and_then p w step).value.members ≡ (value_after p.value step).members
members-then p w (AnsweredAtOnce a) = refl
members-then p w (Makes v) = refl

members-all : (second : Bool) (accepted : ClusterState) (p : Processed) (ws : List Waiting) → (fold (with_next second accepted) p ws).value.members ≡ p.value.members
members-all second accepted p [] = refl
members-all second accepted p (w ∷ ws) =
    members-all second accepted (with_next second accepted p w) ws ∙ members-then p w (processing_once second accepted p.value w) ∙ members-once w.processed second accepted p.value w.request.ask

few-next : (l : Master) (t : Tasks) → length l.accepted.value.members ≤ most_ids → length (next_value l t).members ≤ most_ids
unfolding processed_by next_value
few-next l t few = rw (members-all l.policy.second l.accepted (before_all (value_before l.me t l.accepted.value)) t.waiting) (few-members l.me t l.accepted.value.members few)

-- ---- what one more item makes of a node's sets

few-added : (f : PeerFinder) (id : Id) → length f.peers ≤ most_peers → length (finder_after f (Added id)).peers ≤ most_peers
few-added f id few =
    let one_more = length-append f.peers (record { id = id; answer = None } ∷ []) in
    let ids = length-map f.peers (λ (p : Peer). p.id) in
    elim (nat_le most_peers (length (ids_of f.peers))) as (λ b. nat_le most_peers (length (ids_of f.peers)) ≡ b → length (if not (same id f.me) && not (has id (ids_of f.peers)) && not b then f.peers ++ record { id = id; answer = None } ∷ [] else f.peers) ≤ most_peers) [
      | true ↦ λ full. none (not (same id f.me)) (not (has id (ids_of f.peers))) f few
      | false ↦ λ room. some (not (same id f.me)) (not (has id (ids_of f.peers))) f few (grind (arith, nat_tests, one_more, ids))
    ] refl
  where
    none : (a b : Bool) (f : PeerFinder) → length f.peers ≤ most_peers → length (if a && b && false then f.peers ++ record { id = id; answer = None } ∷ [] else f.peers) ≤ most_peers
    none true true f few = few
    none true false f few = few
    none false b f few = few

    some : (a b : Bool) (f : PeerFinder) → length f.peers ≤ most_peers → length (f.peers ++ record { id = id; answer = None } ∷ []) ≤ most_peers → length (if a && b && true then f.peers ++ record { id = id; answer = None } ∷ [] else f.peers) ≤ most_peers
    some true true f few more = more
    some true false f few more = few
    some false b f few more = few

few-met : (f : PeerFinder) (ids : List Id) → length f.peers ≤ most_peers → length (met f ids).peers ≤ most_peers
few-met f [] few = few
few-met f (id ∷ ids) few = few-met (finder_after f (Added id)) ids (few-added f id few)

few-state : (b : Bool) (x y : ClusterState) → length x.value.members ≤ most_ids → length y.value.members ≤ most_ids → length (cond b x y).value.members ≤ most_ids
few-state true x y f g = f
few-state false x y f g = g

few-watched : (me : Id) (fs : Followers) (members : List Id) (now : ℕ) → length members ≤ most_ids → length (watched me fs members now).watched ≤ most_ids
few-watched me fs members now few =
    let others = fewer (λ y. not (same y me)) members in
    rw (length-map (without_id me members) _) (omega (arith, few, others))

targets-if : (b : Bool) (p q : Option Publication) → length (next.targets_of p) ≤ most_ids → length (next.targets_of q) ≤ most_ids → length (next.targets_of (if b then p else q)) ≤ most_ids
targets-if true p q f g = f
targets-if false p q f g = g

responders-if : (b : Bool) (p q : Option Publication) → length (next.responders_of p) ≤ most_ids → length (next.responders_of q) ≤ most_ids → length (next.responders_of (if b then p else q)) ≤ most_ids
responders-if true p q f g = f
responders-if false p q f g = g

watched-if : (b : Bool) (fs gs : Followers) → length fs.watched ≤ most_ids → length gs.watched ≤ most_ids → length (if b then fs else gs).watched ≤ most_ids
watched-if true fs gs f g = f
watched-if false fs gs f g = g

targets-after : (p : Publication) (source : Id) (commits : Bool) → (after_response p source commits).targets ≡ p.targets
targets-after p source true = refl
targets-after p source false = refl

targets-responded : (p : Option Publication) (source : Id) (commits : Bool) → length (next.targets_of p) ≤ most_ids → length (next.targets_of (responded p source commits)) ≤ most_ids
targets-responded None source commits few = few
targets-responded (Some p) source commits few = rw (targets-after p source commits) few

responders-after : (p : Publication) (source : Id) (commits : Bool) → length p.responders ≤ most_ids → length (after_response p source commits).responders ≤ most_ids
responders-after p source true few = few-with_room p.responders source few
responders-after p source false few = few-with_room p.responders source few

responders-responded : (p : Option Publication) (source : Id) (commits : Bool) → length (next.responders_of p) ≤ most_ids → length (next.responders_of (responded p source commits)) ≤ most_ids
responders-responded None source commits few = few
responders-responded (Some p) source commits few = responders-after p source commits few

targets-finished : (p : Option Publication) → length (next.targets_of p) ≤ most_ids → length (next.targets_of (finished p)) ≤ most_ids
targets-finished None few = few
targets-finished (Some p) few = few

responders-finished : (p : Option Publication) → length (next.responders_of p) ≤ most_ids → length (next.responders_of (finished p)) ≤ most_ids
responders-finished None few = few
responders-finished (Some p) few = few

watched-done : (b : Bool) (fs : Followers) (id : StateId) (now : ℕ) → length fs.watched ≤ most_ids → length (if b then fs else followers_after fs (StateFinished id now)).watched ≤ most_ids
watched-done true fs id now few = few
watched-done false fs id now few = rw (length-map fs.watched _) few

watched-finished : (p : Option Publication) (fs : Followers) (id : StateId) (now : ℕ) → length fs.watched ≤ most_ids → length (state_finished p fs id now).watched ≤ most_ids
watched-finished None fs id now few = few
watched-finished (Some p) fs id now few = watched-done p.finished fs id now few

-- an item that is neither an act nor one that the rules never name
abbrev is_mild : Item → Bool
is_mild (Opens found) = false
is_mild (Begins event) = false
is_mild (Acts act o) = false
is_mild i = true

-- an item that sends nothing
abbrev silent : Item → Bool
silent (Sends frame) = false
silent i = is_mild i

one-silent : (i : Item) (is : List Item) → silent i ≡ true → length (flat_map frames_in (i ∷ is)) ≡ length (flat_map frames_in is)
one-silent (Opens found) is e = refl
one-silent (Begins event) is e = refl
one-silent (Acts act o) is e = refl
one-silent (ChangesMode mode term) is e = refl
one-silent (Drops member cause) is e = refl
one-silent (Sends frame) is e = cc
one-silent (Replies answer) is e = refl
one-silent (Notes note) is e = refl

mild-silent : (i : Item) → silent i ≡ true → is_mild i ≡ true
mild-silent (Opens found) e = e
mild-silent (Begins event) e = e
mild-silent (Acts act o) e = e
mild-silent (ChangesMode mode term) e = e
mild-silent (Drops member cause) e = e
mild-silent (Sends frame) e = refl
mild-silent (Replies answer) e = e
mild-silent (Notes note) e = e

module _ (s : Settings) where
  note-small : (v : View) (n : Note) → IsSmallView v → IsSmallView (moved s v (Notes n))
  note-small v (Met ids) f = record { members = f.members; peers = few-met v.finder ids f.peers; watched = f.watched; targets = f.targets; responders = f.responders }
  note-small v (Heard peer master) f = record { members = f.members; peers = rw (length-map v.finder.peers _) f.peers; watched = f.watched; targets = f.targets; responders = f.responders }
  note-small v PeersAsked f = record { members = f.members; peers = f.peers; watched = f.watched; targets = f.targets; responders = f.responders }
  note-small v ElectionOff f = f
  note-small v (ElectionSet word) f = f
  note-small v (RoundBegun word) f = f
  note-small v (RoundAnswered source term last) f = f
  note-small v RoundEnded f = f
  note-small v (Joined ids) f = f
  note-small v FollowersChecked f =
      let stay = fewer (λ (x : FollowerState). stays x v.moment) v.followers.watched in
      record { members = f.members; peers = f.peers; watched = rw (length-map (filter (λ (x : FollowerState). stays x v.moment) v.followers.watched) _) (omega (arith, f.watched, stay)); targets = f.targets; responders = f.responders }
  note-small v (FollowerAnswered from good applied) f = record { members = f.members; peers = f.peers; watched = rw (length-map v.followers.watched _) f.watched; targets = f.targets; responders = f.responders }
  note-small v LeaderChecked f = f
  note-small v (LeaderAnswered good) f = f
  note-small v (Queued conn request) f = f
  note-small v ExclusionsTimedOut f = f
  note-small v CommitAcked f = f
  note-small v AppliedAnswered f = f
  note-small v StateMade f = f
  note-small v HandedOver f = f
  note-small v LeaderLost f = record { members = f.members; peers = f.peers; watched = f.watched; targets = f.targets; responders = f.responders }
  note-small v (PeerLost id) f =
      let rest = fewer (λ (x : FollowerState). not (same x.id id)) v.followers.watched in
      record { members = f.members; peers = rw (length-map v.finder.peers _) f.peers; watched = omega (arith, f.watched, rest); targets = f.targets; responders = f.responders }

  item-small : (v : View) (i : Item) → is_mild i ≡ true → IsSmallView v → IsSmallView (moved s v i)
  item-small v (ChangesMode Candidate term) e f = record { members = f.members; peers = rw (length-map v.finder.peers _) f.peers; watched = omega arith; targets = omega arith; responders = omega arith }
  item-small v (ChangesMode Leader term) e f = f
  item-small v (ChangesMode (Follower leader) term) e f = f
  item-small v (Drops member cause) e f = f
  item-small v (Sends frame) e f = f
  item-small v (Replies answer) e f = f
  item-small v (Notes note) e f = note-small v note f
  item-small v (Opens found) e f = absurd (cc)
  item-small v (Begins event) e f = absurd (cc)
  item-small v (Acts act o) e f = absurd (cc)

  -- what an act may bring to a node
  abbrev SmallAct : Act → Type 0
  SmallAct (Value version config value) = length value.members ≤ most_ids
  SmallAct (Publish request) = length request.state.value.members ≤ most_ids
  SmallAct (Open found) = ⊥
  SmallAct act = Unit {0}

  act-small : (v : View) (act : Act) → IsSmallView v → SmallAct act → IsSmallView (doing.after_act s v act)
  act-small v (Bootstrap config) f e =
      record { members = few-state _ (initial_state config) v.node.accepted (omega arith) f.members; peers = f.peers; watched = f.watched; targets = f.targets; responders = f.responders }
  act-small v (StartJoin candidate term) f e = record { members = f.members; peers = f.peers; watched = f.watched; targets = f.targets; responders = f.responders }
  act-small v (TakeJoin join) f e = record { members = f.members; peers = f.peers; watched = f.watched; targets = f.targets; responders = f.responders }
  act-small v (Value version config value) f e = record {
    members = f.members;
    peers = f.peers;
    watched = watched-if _ (watched s.me v.followers value.members v.moment) v.followers (few-watched s.me v.followers value.members v.moment e) f.watched;
    targets = targets-if _ (Some (published_at (record { term = v.node.term; version = version }) value.members v.moment)) v.publication e f.targets;
    responders = responders-if _ (Some (published_at (record { term = v.node.term; version = version }) value.members v.moment)) v.publication (omega arith) f.responders;
  }
  act-small v (Publish request) f e =
      record { members = few-state _ request.state v.node.accepted e f.members; peers = f.peers; watched = f.watched; targets = f.targets; responders = f.responders }
  act-small v (Response response) f e = record {
    members = f.members;
    peers = f.peers;
    watched = f.watched;
    targets = targets-if _ (responded v.publication response.source _) v.publication (targets-responded v.publication response.source _ f.targets) f.targets;
    responders = responders-if _ (responded v.publication response.source _) v.publication (responders-responded v.publication response.source _ f.responders) f.responders;
  }
  act-small v (Commit commit) f e = record {
    members = f.members;
    peers = f.peers;
    watched = watched-if _ (state_finished v.publication v.followers _ v.moment) v.followers (watched-finished v.publication v.followers _ v.moment f.watched) f.watched;
    targets = targets-if _ (finished v.publication) v.publication (targets-finished v.publication f.targets) f.targets;
    responders = responders-if _ (finished v.publication) v.publication (responders-finished v.publication f.responders) f.responders;
  }
  act-small v (Open found) f e = absurd e

  -- ---- how items are put together

  -- at most so many frames, and a node that stays small
  record Few (n : ℕ) (v : View) (is : List Item) : Type 0 where
    pub sent : length (flat_map frames_in is) ≤ n
    pub after : IsSmallView (moved_all s v is)

  few-none : (v : View) → IsSmallView v → Few 0 v []
  few-none v f = record { sent = omega arith; after = f }

  few-more : (m n : ℕ) (v : View) (is : List Item) → m ≤ n → Few m v is → Few n v is
  few-more m n v is le h = record { sent = omega (arith, le, h.sent); after = h.after }

  few-item : (n : ℕ) (v : View) (i : Item) (is : List Item) → silent i ≡ true → IsSmallView v → (IsSmallView (moved s v i) → Few n (moved s v i) is) → Few n v (i ∷ is)
  few-item n v i is e f rest =
      let r = rest (item-small v i (mild-silent i e) f) in
      record { sent = rw (one-silent i is e) r.sent; after = r.after }

  few-act : (n : ℕ) (v : View) (act : Act) (is : List Item) → IsSmallView v → SmallAct act → (IsSmallView (doing.after_act s v act) → Few n (doing.after_act s v act) is) → Few n v (doing.act_now s v act ∷ is)
  few-act n v act is f e rest = let r = rest (act-small v act f e) in record { sent = r.sent; after = r.after }

  few-send : (n : ℕ) (v : View) (frame : Frame) (is : List Item) → IsSmallView v → (IsSmallView v → Few n v is) → Few (n + 1) v (Sends frame ∷ is)
  few-send n v frame is f rest = let r = rest f in record { sent = let sent = r.sent in omega (arith, sent); after = r.after }

  few-append : (m n : ℕ) (v : View) (xs ys : List Item) → Few m v xs → (IsSmallView (moved_all s v xs) → Few n (moved_all s v xs) ys) → Few (m + n) v (xs ++ ys)
  few-append m n v xs ys a b =
      let c = b a.after in
      let both : length (flat_map frames_in (xs ++ ys)) ≡ length (flat_map frames_in xs) + length (flat_map frames_in ys) =
      ap (λ (l : List Frame). length l) (frames-append xs ys) ∙ length-append (flat_map frames_in xs) (flat_map frames_in ys)
      in
      record { sent = omega (arith, a.sent, c.sent, both); after = rw (moved_all-append s v xs ys) c.after }

  few-then : (m n : ℕ) (v : View) (xs : List Item) (rule : View → List Item) → Few m v xs → ((u : View) → IsSmallView u → Few n u (rule u)) → Few (m + n) v (doing.then_rule s v xs rule)
  few-then m n v xs rule a b = few-append m n v xs (rule (moved_all s v xs)) a (b (moved_all s v xs))

  few-if : (n : ℕ) (v : View) (b : Bool) (xs ys : List Item) → Few n v xs → Few n v ys → Few n v (if b then xs else ys)
  few-if n v true xs ys q r = q
  few-if n v false xs ys q r = r

  none-within : (n : ℕ) (v : View) → IsSmallView v → Few n v []
  none-within n v f = few-more 0 n v [] (omega arith) (few-none v f)

  few-sends : (n : ℕ) (v : View) (ids : List Id) (m : WireMessage) → length ids ≤ n → IsSmallView v → Few n v (doing.send_all s ids m)
  few-sends n v ids m le f = record {
    sent = rw (frames-sends s ids m) (rw (length-map ids (λ to. let frame : Frame = record { from = s.me; to = to; message = m } in frame)) le);
    after = rw (moved_all-sends s v ids m) f;
  }

  few-replies : (v : View) (answers : List Outgoing) → IsSmallView v → Few 0 v (doing.reply_all s answers)
  few-replies v answers f = record { sent = rw (frames-replies s answers) (omega arith); after = rw (moved_all-replies s v answers) f }

  few-drops : (ids : List Id) (cause : DropCause) (v : View) → IsSmallView v → Few 0 v (checks.drop_all ids cause)
  few-drops [] cause v f = few-none v f
  few-drops (x ∷ xs) cause v f = few-item 0 v (Drops x cause) (checks.drop_all xs cause) refl f (λ g. few-drops xs cause (moved s v (Drops x cause)) g)

  -- ---- changes of mode

  few-becomes_candidate : (v : View) → IsSmallView v → Few 0 v (doing.becomes_candidate s v)
  few-becomes_candidate v f =
      few-append 0 0 v _ _ (few-if 0 v (doing.is_leader v.mode) _ _ (few-replies v _ f) (few-none v f)) (λ g. few-item 0 _ _ _ refl g (λ h. few-none _ h))

  few-becomes_candidate_once : (v : View) → IsSmallView v → Few 0 v (doing.becomes_candidate_once s v)
  few-becomes_candidate_once v f = few-if 0 v (doing.is_candidate v.mode) _ _ (few-none v f) (few-becomes_candidate v f)

  few-becomes_follower : (v : View) (p : Id) → IsSmallView v → Few 0 v (doing.becomes_follower s v p)
  few-becomes_follower v p f =
      few-if 0 v (doing.follows_node v.mode p) _ _ (few-none v f)
      (few-append 0 0 v _ _ (few-if 0 v (doing.is_leader v.mode) _ _ (few-becomes_candidate v f) (few-none v f)) (λ g. few-item 0 _ _ _ refl g (λ h. few-none _ h)))

  few-on_start_join : (v : View) (c : Id) (t : ℕ) → IsSmallView v → Few 1 v (doing.on_start_join s v c t)
  few-on_start_join v c t f =
      few-act 1 v (StartJoin c t) _ f tt (λ g.
      few-if 1 _ (doing.takes s v (StartJoin c t)) _ _ (few-send 0 _ _ _ g (λ h. few-becomes_candidate_once _ h)) (none-within 1 _ g))

  few-raises_term : (v : View) (c : Id) (t : ℕ) → IsSmallView v → Few 1 v (doing.raises_term s v c t)
  few-raises_term v c t f = few-if 1 v (nat_lt v.node.term t) _ _ (few-on_start_join v c t f) (none-within 1 v f)

  -- ---- the next state

  few-value : (v : View) → IsSmallView v → length (next.value_now s v).members ≤ most_ids
  few-value v f = few-next (master_now s v) v.tasks f.members

  few-publishes : (v made : View) → IsSmallView v → IsSmallView made → Few 64 made (next.publishes s v made)
  few-publishes v made f g =
      few-act 64 made (next.value_act s v) _ g (few-value v f) (λ h.
      few-if 64 _ (doing.takes s made (next.value_act s v)) _ _ (few-sends 64 _ _ _ (few-value v f) h) (few-more 0 64 _ _ (omega arith) (few-becomes_candidate _ h)))

  few-makes_state : (v : View) → IsSmallView v → Few 64 v (next.makes_state s v)
  few-makes_state v f =
      let answers = next_answers (master_now s v) v.tasks in
      few-append 0 64 v (doing.reply_all s answers) _ (few-replies v answers f)
      (rw (moved_all-replies s v answers) (λ g.
      few-item 64 v (Notes StateMade) _ refl f (λ h.
      few-if 64 _ (is_nothing_new (master_now s v) v.tasks) _ _ (none-within 64 _ h) (few-publishes v _ f h))))

  few-asks_successor : (u v : View) (o : Option Id) → IsSmallView u → IsSmallView v → Few 64 u (next.asks_successor s v o)
  few-asks_successor u v None g f = none-within 64 u g
  few-asks_successor u v (Some id) g f = few-if 64 u (nat_le (v.node.term + 1) last_number) _ _ (few-sends 64 u _ _ f.targets g) (none-within 64 u g)

  few-hands_over : (v : View) → IsSmallView v → Few 64 v (next.hands_over s v)
  few-hands_over v f =
      few-if 64 v (is_due v.handover_due v.moment) _ _ (few-item 64 v _ _ refl f (λ g. few-asks_successor _ v (next.successor_of s v) g f)) (none-within 64 v f)

  few-asks_votes : (v : View) → IsSmallView v → Few 64 v (next.asks_votes s v)
  few-asks_votes v f = few-item 64 v _ _ refl f (λ g. few-asks_successor _ v (Some s.me) g f)

  few-leads_on : (v : View) → IsSmallView v → Few 64 v (next.leads_on s v)
  few-leads_on v f = few-if 64 v (next.wants_votes s v) _ _ (few-asks_votes v f) (few-makes_state v f)

  few-goes_on : (v : View) → IsSmallView v → Few 64 v (next.goes_on s v)
  few-goes_on v f =
      few-if 64 v (doing.is_leader v.mode && not (next.is_in_flight v.publication)) _ _
      (few-if 64 v (doing.may_win s v) _ _ (few-leads_on v f) (few-hands_over v f)) (none-within 64 v f)

  -- ---- elections

  few-takes_config : (v : View) (o : Option (List Id)) → IsSmallView v → Few 0 v (elections.takes_config s v o)
  few-takes_config v None f = few-none v f
  few-takes_config v (Some config) f = few-act 0 v (Bootstrap config) [] f tt (λ g. few-none _ g)

  few-known : (v : View) → IsSmallView v → length (known_set v.finder) ≤ 63
  few-known v f =
      let set = length-set_of (ids_of v.finder.peers) in
      let ids = length-map v.finder.peers (λ (p : Peer). p.id) in
      omega (arith, f.peers, set, ids)

  few-free : (v : View) → IsSmallView v → length (free_set v.finder) ≤ 63
  few-free v f =
      let free = filter (λ (p : Peer). is_free p.answer) v.finder.peers in
      let set = length-set_of (ids_of free) in
      let ids = length-map free (λ (p : Peer). p.id) in
      let some = fewer (λ (p : Peer). is_free p.answer) v.finder.peers in
      omega (arith, f.peers, set, ids, some)

  few-stands : (u v : View) (term : ℕ) → IsSmallView u → IsSmallView v → Few 64 u (elections.stands_for_election s v term)
  few-stands u v term g f =
      let all = length-with_id-le s.me (known_set v.finder) in
      let known = few-known v f in
      let most : length (with_id s.me (known_set v.finder)) ≤ 64 = omega (arith, all, known) in
      few-item 64 u _ _ refl g (λ h. few-if 64 _ (nat_le term last_number) _ _ (few-sends 64 _ _ _ most h) (none-within 64 _ h))

  few-begins_round : (v : View) (word : ℕ) → IsSmallView v → Few 127 v (elections.begins_round s v word)
  few-begins_round v word f =
      let others = few-others s.me (free_set v.finder) in
      let free = few-free v f in
      let most : length (without_id s.me (elections.free_nodes s v)) ≤ 63 = omega (arith, others, free) in
      few-item 127 v _ _ refl f (λ g.
      few-append 63 64 _ _ _ (few-sends 63 _ _ message.PreVoteAsk most g)
      (λ h. few-if 64 _ _ _ _ (few-stands _ v (v.node.term + 1) h f) (none-within 64 _ h)))

  few-waits_until : (v : View) (word : ℕ) (o : Option ℕ) → IsSmallView v → Few 127 v (elections.waits_until s v word o)
  few-waits_until v word None f = few-item 127 v _ _ refl f (λ g. none-within 127 _ g)
  few-waits_until v word (Some deadline) f = few-if 127 v _ _ _ (few-begins_round v word f) (none-within 127 v f)

  few-waits : (v : View) (word : ℕ) → IsSmallView v → Few 127 v (elections.waits_for_election s v word)
  few-waits v word f = few-if 127 v _ _ _ (few-waits_until v word v.deadline f) (few-item 127 v _ _ refl f (λ g. none-within 127 _ g))

  few-pre_vote_reply : (v : View) (p : Id) (r : PreVoteReply) → IsSmallView v → Few 1 v (elections.pre_vote_reply s v p r)
  few-pre_vote_reply v p PreVoteAnswer f = few-send 0 v _ _ f (λ g. few-none v g)
  few-pre_vote_reply v p (PreVoteRefused leader) f = few-send 0 v _ _ f (λ g. few-none v g)

  few-goes_to_election : (u v : View) (a : RoundAdded) → IsSmallView u → IsSmallView v → Few 64 u (elections.goes_to_election s v a)
  few-goes_to_election u v Counted g f = none-within 64 u g
  few-goes_to_election u v Fresher g f = none-within 64 u g
  few-goes_to_election u v (Quorum term) g f = few-stands u v term g f

  few-on_pre_vote_answer : (v : View) (round : Option Round) (p : Id) (term : ℕ) (last : StateId) → IsSmallView v → Few 64 v (elections.on_pre_vote_answer s v round p term last)
  few-on_pre_vote_answer v None p term last f = none-within 64 v f
  few-on_pre_vote_answer v (Some r) p term last f = few-if 64 v _ _ _ (few-item 64 v _ _ refl f (λ g. few-goes_to_election _ v _ g f)) (none-within 64 v f)

  -- ---- discovery

  few-asks_peers : (v : View) → IsSmallView v → Few 63 v (discovery.asks_peers s v)
  few-asks_peers v f =
      few-if 63 v (is_due v.finder.due v.moment) _ _ (few-item 63 v _ _ refl f (λ g. few-sends 63 _ _ _ (few-known v f) g)) (none-within 63 v f)

  few-asked_for_peers : (v : View) (p : Id) (ids : List Id) → IsSmallView v → Few 1 v (discovery.on_peers_ask s v p ids)
  few-asked_for_peers v p ids f = few-item 1 v _ _ refl f (λ g. few-send 0 _ _ _ g (λ h. few-none _ h))

  few-seeks_master : (v : View) (p : Id) (master : Option Id) (term : ℕ) → IsSmallView v → Few 1 v (discovery.seeks_master s v p master term)
  few-seeks_master v p master term f =
      few-if 1 v (discovery.is_node master p) _ _
      (few-if 1 v (nat_lt v.node.term term) _ _ (few-on_start_join v p term f) (few-send 0 v _ _ f (λ g. few-none v g))) (none-within 1 v f)

  few-hears_peer : (v : View) (p : Id) (master : Option Id) (term : ℕ) → IsSmallView v → Few 1 v (discovery.hears_peer s v p master term)
  few-hears_peer v p master term f =
      few-if 1 v (doing.is_candidate v.mode) _ _ (few-item 1 v _ _ refl f (λ g. few-seeks_master _ p master term g)) (none-within 1 v f)

  few-told_peers : (v : View) (p : Id) (master : Option Id) (term : ℕ) (ids : List Id) → IsSmallView v → Few 1 v (discovery.on_peers_answer s v p master term ids)
  few-told_peers v p master term ids f = few-item 1 v _ _ refl f (λ g. few-hears_peer _ p master term g)

  -- ---- joins

  few-leads : (v : View) → IsSmallView v → Few 64 v (joins.leads s v)
  few-leads v f = few-item 64 v _ _ refl f (λ g. few-item 64 _ _ _ refl g (λ h. few-goes_on _ h))

  few-takes_member : (v : View) (p : Id) → IsSmallView v → Few 64 v (joins.takes_member s v p)
  few-takes_member v p f = few-item 64 v _ _ refl f (λ g. few-goes_on _ g)

  few-after_join : (v after : View) (act : Act) (p : Id) → IsSmallView after → Few 64 after (joins.after_join s v after act p)
  few-after_join v after act p f =
      few-if 64 after (joins.wins_now (doing.reply_now s v act)) _ _ (few-leads after f)
      (few-if 64 after (doing.takes s v act && doing.is_leader after.mode) _ _ (few-takes_member after p f) (none-within 64 after f))

  few-takes_join : (v : View) (p : Id) (term : ℕ) (last : StateId) → IsSmallView v → Few 64 v (joins.takes_join s v p term last)
  few-takes_join v p term last f =
      let act : Act = TakeJoin (joins.join_from p s.me term last) in
      few-if 64 v (has_room v.node.join_votes p) _ _ (few-act 64 v act _ f tt (λ g. few-after_join v (doing.after_act s v act) act p g)) (none-within 64 v f)

  few-on_join : (v : View) (p : Id) (term : ℕ) (last : StateId) → IsSmallView v → Few 65 v (joins.on_join s v p term last)
  few-on_join v p term last f =
      few-if 65 v (doing.is_voting_only s s.me) _ _ (none-within 65 v f)
      (few-then 1 64 v _ (λ u. joins.takes_join s u p term last) (few-raises_term v s.me term f) (λ u g. few-takes_join u p term last g))

  few-asked_to_join : (v : View) (p : Id) (term : ℕ) → IsSmallView v → Few 64 v (joins.on_join_ask s v p term)
  few-asked_to_join v p term f =
      few-if 64 v (not (doing.is_leader v.mode)) _ _ (none-within 64 v f)
      (few-if 64 v (nat_le term v.node.term) _ _ (few-takes_member v p f) (few-more 1 64 v _ (omega arith) (few-on_start_join v s.me term f)))

  -- ---- publications

  few-accepts : (v : View) (p : Id) (state : ClusterState) → IsSmallView v → length state.value.members ≤ most_ids → Few 1 v (publications.accepts s v p state)
  few-accepts v p state f few =
      let act : Act = Publish (record { source = p; state = state }) in
      few-act 1 v act _ f few (λ g.
      few-if 1 _ (doing.takes s v act) _ _
      (few-send 0 _ _ _ g (λ h. few-if 0 _ (same p s.me) _ _ (few-none _ h) (few-becomes_follower (doing.after_act s v act) p h))) (none-within 1 _ g))

  few-published_to : (v : View) (p : Id) (state : ClusterState) → IsSmallView v → length state.value.members ≤ most_ids → Few 2 v (publications.on_publish s v p state)
  few-published_to v p state f few = few-then 1 1 v _ (λ u. publications.accepts s u p state) (few-raises_term v p state.term f) (λ u g. few-accepts u p state g few)

  few-sends_commit : (v : View) (sent : Bool) (p : Id) (id : StateId) → IsSmallView v → Few 64 v (publications.sends_commit s v sent p id)
  few-sends_commit v sent p id f =
      let some = fewer (λ x. has x (next.targets_of v.publication)) (next.responders_of v.publication) in
      let most : length (among (next.responders_of v.publication) (next.targets_of v.publication)) ≤ 64 = omega (arith, f.responders, some) in
      few-if 64 v sent _ _ (few-more 1 64 v _ (omega arith) (few-send 0 v _ _ f (λ g. few-none v g)))
      (few-append 64 0 v _ _
      (few-append 64 0 v _ _
      (few-sends 64 v _ _ most f)
      (λ g. few-replies _ _ g)) (λ g. few-item 0 _ _ _ refl g (λ h. few-none _ h)))

  few-on_response : (v : View) (p : Id) (id : StateId) → IsSmallView v → Few 64 v (publications.on_response s v p id)
  few-on_response v p id f =
      let act : Act = Response (record { source = p; target = s.me; term = id.term; version = id.version }) in
      few-if 64 v (doing.is_leader v.mode && is_some v.publication && has_room v.node.publish_votes p) _ _
      (few-act 64 v act _ f tt (λ g.
      few-if 64 _ _ _ _ (few-sends_commit (doing.after_act s v act) (publications.is_commit_sent v.publication) p id g) (none-within 64 _ g))) (none-within 64 v f)

  few-answers_applied : (v : View) → IsSmallView v → Few 0 v (publications.answers_applied s v)
  few-answers_applied v f = few-append 0 0 v _ _ (few-replies v _ f) (λ g. few-item 0 _ (Notes AppliedAnswered) [] refl g (λ h. few-none _ h))

  few-told_commit : (v : View) (p : Id) (id : StateId) → IsSmallView v → Few 64 v (publications.on_commit s v p id)
  few-told_commit v p id f =
      let act : Act = Commit (record { source = p; term = id.term; version = id.version }) in
      let after : View = doing.after_act s v act in
      few-act 64 v act _ f tt (λ g.
      few-if 64 after (doing.takes s v act && doing.is_leader after.mode) _ _
      (few-then 0 64 after _ (next.goes_on s) (few-answers_applied after g) few-goes_on) (none-within 64 after g))

  -- ---- checks

  few-checks_followers : (v : View) → IsSmallView v → Few 64 v (checks.checks_followers s v)
  few-checks_followers v f =
      let asked = filter (λ (x : FollowerState). is_asked x v.moment) v.followers.watched in
      let some = fewer (λ (x : FollowerState). is_asked x v.moment) v.followers.watched in
      let ids = length-map asked (λ (x : FollowerState). x.id) in
      let most : length (to_ask v.followers.watched v.moment) ≤ 64 = omega (arith, f.watched, some, ids) in
      let failed : List Item = checks.drop_all (to_drop_for_checks v.followers.watched v.moment) Checks in
      let late : List Item = checks.drop_all (to_drop_for_lag v.followers.watched v.moment) Lag in
      few-append 0 64 v (failed ++ late) (Notes FollowersChecked ∷ doing.send_all s (to_ask v.followers.watched v.moment) (message.FollowerCheck v.node.term))
      (few-append 0 0 v failed late (few-drops _ Checks v f) (λ g. few-drops _ Lag _ g))
      (λ g. few-item 64 _ (Notes FollowersChecked) _ refl g (λ h. few-sends 64 _ _ (message.FollowerCheck v.node.term) most h))

  few-does_check : (u v : View) (leader : Id) (t : LeaderTick) → IsSmallView u → Few 1 u (checks.does_check s u leader t)
  few-does_check u v leader leader_tick_is.Quiet f = none-within 1 u f
  few-does_check u v leader leader_tick_is.Ask f = few-send 0 u _ _ f (λ g. few-none u g)
  few-does_check u v leader leader_tick_is.Lost f = few-more 0 1 u _ (omega arith) (few-becomes_candidate u f)

  few-checks_leader : (v : View) (leader : Id) (c : Option LeaderCheck) → IsSmallView v → Few 1 v (checks.checks_leader s v leader c)
  few-checks_leader v leader None f = none-within 1 v f
  few-checks_leader v leader (Some c) f = few-item 1 v _ _ refl f (λ g. few-does_check (moved s v (Notes LeaderChecked)) v leader (leader_tick c v.moment) g)

  few-answers_leader : (v : View) (p : Id) (good : Bool) → IsSmallView v → Few 1 v (checks.answers_leader s v p good)
  few-answers_leader v p good f = few-send 0 v _ _ f (λ g. few-none v g)

  few-follows_checker : (v : View) (p : Id) → IsSmallView v → Few 1 v (checks.follows_checker s v p)
  few-follows_checker v p f =
      few-if 1 v (doing.is_second s) _ _ (few-answers_leader v p (doing.follows_node v.mode p) f)
      (few-if 1 v (doing.is_leader v.mode) _ _ (few-answers_leader v p false f)
      (few-then 0 1 v _ (λ u. checks.answers_leader s u p true) (few-becomes_follower v p f) (λ u g. few-answers_leader u p true g)))

  few-checked_by_leader : (v : View) (p : Id) (term : ℕ) → IsSmallView v → Few 2 v (checks.on_follower_check s v p term)
  few-checked_by_leader v p term f =
      few-if 2 v (nat_lt term v.node.term) _ _ (few-more 1 2 v _ (omega arith) (few-answers_leader v p false f))
      (few-then 1 1 v _ (λ u. checks.follows_checker s u p) (few-raises_term v p term f) (λ u g. few-follows_checker u p g))

  few-note : (v : View) (b : Bool) (n : Note) → IsSmallView v → Few 0 v (if b then Notes n ∷ [] else [])
  few-note v b n f = few-if 0 v b _ _ (few-item 0 v _ _ refl f (λ g. few-none _ g)) (few-none v f)

  -- ---- requests

  few-reply : (n : ℕ) (v : View) (answer : Outgoing) → IsSmallView v → Few n v (Replies answer ∷ [])
  few-reply n v answer f = few-item n v _ _ refl f (λ g. none-within n _ g)

  few-times_out : (v : View) → IsSmallView v → Few 0 v (requests.times_out_exclusions s v)
  few-times_out v f = few-append 0 0 v _ _ (few-replies v _ f) (λ g. few-item 0 _ (Notes ExclusionsTimedOut) [] refl g (λ h. few-none _ h))

  few-queues : (v : View) (conn : ℕ) (request : Request) (bad : Option ℕ) → IsSmallView v → Few 64 v (requests.queues s v conn request bad)
  few-queues v conn request (Some size) f = few-reply 64 v _ f
  few-queues v conn request None f = few-if 64 v (is_full_of v.tasks) _ _ (few-reply 64 v _ f) (few-item 64 v _ _ refl f (λ g. few-goes_on _ g))

  few-line : (v : View) (conn : ℕ) (read : Result Request LineFault) → IsSmallView v → Few 64 v (requests.takes_line s v conn read)
  few-line v conn (Err fault) f = few-reply 64 v _ f
  few-line v conn (Ok request) f = few-if 64 v (doing.is_leader v.mode) _ _ (few-queues v conn request (bad_setting_of request.ask) f) (few-reply 64 v _ f)

  -- ---- events

  few-candidate : (v : View) (word : ℕ) → IsSmallView v → Few 190 v (rules.ticks_candidate s v word)
  few-candidate v word f =
      few-then 63 127 v _ (λ u. elections.waits_for_election s u word)
      (few-then 0 63 v _ (discovery.asks_peers s) (few-takes_config v (decision_of s.initial (answered_set v.finder) s.me (not (is_empty v.node.accepted.config))) f) few-asks_peers)
      (λ u g. few-waits u word g)

  few-leader : (v : View) → IsSmallView v → Few 128 v (rules.ticks_leader s v)
  few-leader v f =
      few-if 128 v (rules.gives_up s v) _ _ (few-more 0 128 v _ (omega arith) (few-becomes_candidate v f))
      (few-then 64 64 v _ (next.goes_on s) (few-then 0 64 v _ (checks.checks_followers s) (few-times_out v f) few-checks_followers) few-goes_on)

  few-ticks : (v : View) (word : ℕ) (m : Mode) → IsSmallView v → Few 190 v (rules.ticks s v word m)
  few-ticks v word Candidate f = few-candidate v word f
  few-ticks v word Leader f = few-more 128 190 v _ (omega arith) (few-leader v f)
  few-ticks v word (Follower leader) f = few-more 1 190 v _ (omega arith) (few-checks_leader v leader v.leader_check f)

  few-message : (v : View) (p : Id) (m : WireMessage) → IsSmallView v → HoldsSet m → Few 65 v (rules.takes_message s v p m)
  few-message v p (message.StartJoin candidate term) f h = few-more 1 65 v _ (omega arith) (few-on_start_join v candidate term f)
  few-message v p (message.Join term last) f h = few-on_join v p term last f
  few-message v p (message.Publish state) f h = few-more 2 65 v _ (omega arith) (few-published_to v p state f h)
  few-message v p (message.Response id) f h = few-more 64 65 v _ (omega arith) (few-on_response v p id f)
  few-message v p (message.Commit id) f h = few-more 64 65 v _ (omega arith) (few-told_commit v p id f)
  few-message v p (message.JoinAsk term) f h = few-more 64 65 v _ (omega arith) (few-asked_to_join v p term f)
  few-message v p (message.PeersAsk known) f h = few-more 1 65 v _ (omega arith) (few-asked_for_peers v p known f)
  few-message v p (message.PeersAnswer master term known) f h = few-more 1 65 v _ (omega arith) (few-told_peers v p master term known f)
  few-message v p message.PreVoteAsk f h = few-more 1 65 v _ (omega arith) (few-pre_vote_reply v p _ f)
  few-message v p (message.PreVoteAnswer term last) f h = few-more 64 65 v _ (omega arith) (few-on_pre_vote_answer v v.round p term last f)
  few-message v p (message.PreVoteRefuse leader) f h = few-item 65 v _ _ refl f (λ g. none-within 65 _ g)
  few-message v p (message.FollowerCheck term) f h = few-more 2 65 v _ (omega arith) (few-checked_by_leader v p term f)
  few-message v p (message.FollowerAnswer good term applied) f h = few-more 0 65 v _ (omega arith) (few-note v (doing.is_leader v.mode) (FollowerAnswered p good applied) f)
  few-message v p (message.LeaderCheck term) f h = few-more 1 65 v _ (omega arith) (few-send 0 v _ _ f (λ g. few-none v g))
  few-message v p (message.LeaderAnswer good) f h = few-more 0 65 v _ (omega arith) (few-note v (doing.follows_node v.mode p) (LeaderAnswered good) f)

  few-stands_anew : (v : View) → IsSmallView v → Few 64 v (disconnects.stands_anew s v)
  few-stands_anew v f =
      few-then 0 64 v _ (λ u. elections.stands_for_election s u (u.node.term + 1)) (few-becomes_candidate v f)
      (λ u g. few-stands u u (u.node.term + 1) g g)

  few-loses : (v : View) (p : Id) (m : Mode) → IsSmallView v → Few 64 v (disconnects.loses s v p m)
  few-loses v p Candidate f = few-more 0 64 v _ (omega arith) (few-note v _ (PeerLost p) f)
  few-loses v p Leader f =
      let after : View = moved_all s v (disconnects.drops_follower s p) in
      few-if 64 v _ _ _
      (few-item 64 v _ _ refl f (λ g. few-item 64 _ _ _ refl g
      (λ h. few-if 64 after (disconnects.keeps_quorum s after) _ _ (few-goes_on after h) (few-stands_anew after h))))
      (none-within 64 v f)
  few-loses v p (Follower leader) f = few-if 64 v (same leader p) _ _ (few-more 0 64 v _ (omega arith) (few-append 0 0 v _ _ (few-becomes_candidate v f) (λ g. few-item 0 _ _ _ refl g (λ h. few-none _ h)))) (none-within 64 v f)

  few-event : (v : View) (event : Event) → IsSmallView v → EventHoldsSet event → Few (most_frames event) v (rules.next_of s v event)
  few-event v Start f h = few-item 0 v _ _ refl f (λ g. few-item 0 _ _ _ refl g (λ k. few-none _ k))
  few-event v (Tick now word) f h = few-ticks v word v.mode f
  few-event v (FrameCame frame) f h = few-if 65 v (same frame.to s.me) _ _ (few-message v frame.from frame.message f h) (none-within 65 v f)
  few-event v (LineCame conn line) f h = few-line v conn (line_request line) f
  few-event v (PeerGone peer) f h = few-loses v peer v.mode f

-- ---- frames by receiver

length-put_frame : (f : Frame) (gs : List Frame) → length (put_frame f gs) ≡ suc (length gs)
length-put_frame f [] = refl
length-put_frame f (g ∷ gs) =
    elim (before g.to f.to) as (λ b. length (if b then g ∷ put_frame f gs else f ∷ g ∷ gs) ≡ suc (suc (length gs))) [
      | true ↦ ap suc (length-put_frame f gs)
      | false ↦ refl
    ]

length-by_receiver : (fs : List Frame) → length (by_receiver fs) ≡ length fs
length-by_receiver [] = refl
length-by_receiver (f ∷ fs) = length-put_frame f (by_receiver fs) ∙ ap suc (length-by_receiver fs)

-- at each event
pub sends_few : (s : Settings) (v : View) (event : Event) → IsSmallView v → EventHoldsSet event → SendsFew s v event (rules.next_of s v event)
sends_few s v event f h =
    let all = few-event s v event f h in
    record { frames = rw (length-by_receiver (flat_map frames_in (rules.next_of s v event))) all.sent; after = all.after }

pub opened_small : (s : Settings) (found : Kept) → length found.accepted.value.members ≤ most_ids → IsSmallView (opened s found)
opened_small s found few = record { members = few; peers = omega arith; watched = omega arith; targets = omega arith; responders = omega arith }
