-- No more are answered at an event than wait, but for a line that is answered as it comes.
use Rattle.std.proofs.Common.{◌≡◌, ◌∙◌, ℕ, ◌+◌, ◌≤◌, Bool, true, false, not, ◌&&◌, Option, None, Some, Result, Ok, Err, List, [], ◌∷◌, ◌++◌, length, refl, ap, arith}
use Rattle.std.specs.Prelude.{if◌then◌else◌, is_some, nat_le, nat_lt}
use Rattle.std.proofs.lemmas.Bool.Decides.{nat_tests}
use Rattle.std.proofs.lemmas.List.{append_assoc, length-append}
use Rattle.cluster_state.specs.Field.{last_number}
use Rattle.bootstrap.specs.Decisions.{decision_of}
use Rattle.election_clock.specs.Delays.{is_due}
use Rattle.peer_finder.specs.Peers.{answered_set}
use Rattle.voting_config.specs.Ids.{Id, same, among, has_room}
use Rattle.cluster_state.specs.JoinCheck.{is_empty}
use Rattle.cluster_state.specs.declared.reply.LineFault.{LineFault}
use Rattle.cluster_state.specs.declared.request.Request.{Request}
use Rattle.cluster_state.specs.declared.state.ClusterState.{ClusterState}
use Rattle.cluster_state.specs.declared.state.StateId.{StateId}
use Rattle.cluster_state.specs.Puts.{bad_setting_of}
use Rattle.wire_frames.specs.declared.frame.WireMessage.{WireMessage}
use Rattle.wire_frames.specs.declared.frame.WireMessage.TheVariants as message
use Rattle.client_lines.specs.Reading.{line_request}
use Rattle.pre_vote.specs.declared.rounds.Added.{Added}
use Rattle.pre_vote.specs.declared.rounds.Added.TheVariants.{Counted, Fresher, Quorum}
use Rattle.pre_vote.specs.declared.replies.Reply.{Reply as PreVoteReply}
use Rattle.pre_vote.specs.declared.replies.Reply.TheVariants.{Answer as PreVoteAnswer, Refused as PreVoteRefused}
use Rattle.pre_vote.specs.Rounds.{Round}
use Rattle.fault_checks.specs.declared.leader.LeaderTick.{LeaderTick}
use Rattle.fault_checks.specs.declared.leader.LeaderTick.TheVariants.{Quiet, Ask, Lost}
use Rattle.fault_checks.specs.Leaders.{LeaderCheck, leader_tick}
use Rattle.master_tasks.specs.declared.waiting.Outgoing.{Outgoing}
use Rattle.master_tasks.specs.NextState.{next_answers, is_nothing_new}
use Rattle.world_model.specs.declared.acts.Act.{Act}
use Rattle.world_model.specs.declared.acts.Act.TheVariants.{Bootstrap, StartJoin, TakeJoin, Value, Publish, Response, Commit, Open}
use Rattle.policy_model.specs.declared.settings.Settings.{Settings}
use Rattle.world_model.specs.declared.acts.Outcome.{Outcome}
use Rattle.cluster_state.specs.declared.reply.Answer.{Answer}
use Rattle.cluster_state.specs.declared.reply.Answer.TheVariants as answer
use Rattle.cluster_state.specs.declared.reply.Reply.TheVariants as reply
use Rattle.master_tasks.specs.declared.waiting.Waiting.{Waiting}
use Rattle.master_tasks.specs.Answering.{answers_by, left_by, failed, timed_out, committed_in, applied_in}
use Rattle.master_tasks.specs.Queue.{Tasks, most_open, is_full_of, arriving, to_be_added}
use Rattle.master_tasks.proofs.Counting.{counted, counted_next}
use Rattle.policy_model.specs.Events.{Mode, Candidate, Leader, Follower, Event, Start, Tick, FrameCame, LineCame, PeerGone, DropCause, Note, Met, Heard, PeersAsked, ElectionOff, ElectionSet, RoundBegun, RoundAnswered, RoundEnded, Joined, FollowersChecked, FollowerAnswered, LeaderChecked, LeaderAnswered, Queued, ExclusionsTimedOut, CommitAcked, AppliedAnswered, StateMade, HandedOver, PeerLost, LeaderLost, Item, Opens, Begins, Acts, ChangesMode, Drops, Sends, Replies, Notes}
use Rattle.policy_model.specs.Entries.{replies_of}
use Rattle.policy_model.specs.Parts.{all_to_be_added, published_id}
use Rattle.policy_model.specs.Views.{View, master_now}
use Rattle.policy_model.specs.Moves.{moved, moved_all}
use Rattle.policy_model.specs.Doing as doing
use Rattle.policy_model.specs.NextState as next
use Rattle.policy_model.specs.Elections as elections
use Rattle.policy_model.specs.Discovery as discovery
use Rattle.policy_model.specs.Joins as joins
use Rattle.policy_model.specs.Publications as publications
use Rattle.policy_model.specs.Checks as checks
use Rattle.policy_model.specs.Requests as requests
use Rattle.policy_model.specs.Rules as rules
use Rattle.policy_model.specs.Disconnects as disconnects
use Rattle.policy_model.specs.Bounds.{AnswersFew}
use Rattle.policy_model.proofs.Sweeps.{moved_all-append, moved_all-replies, moved_all-sends, replies-append, replies-replies}

-- how many wait
abbrev open_in : View → ℕ
open_in v = length v.tasks.waiting

-- ---- items that are no replies, and by which no more wait

abbrev is_calm_note : Note → Bool
is_calm_note (Queued conn request) = false
is_calm_note n = true

abbrev is_calm : Item → Bool
is_calm (Opens found) = false
is_calm (Begins event) = false
is_calm (Replies answer) = false
is_calm (Notes note) = is_calm_note note
is_calm i = true

data AreCalm : List Item → Type 0 where
  Silent : AreCalm []
  Also : (i : Item) (is : List Item) → is_calm i ≡ true → AreCalm is → AreCalm (i ∷ is)

calm-append : (xs ys : List Item) → AreCalm xs → AreCalm ys → AreCalm (xs ++ ys)
calm-append xs ys Silent r = r
calm-append xs ys (Also i is e q) r = Also i (is ++ ys) e (calm-append is ys q r)

calm-if : (b : Bool) (xs ys : List Item) → AreCalm xs → AreCalm ys → AreCalm (if b then xs else ys)
calm-if true xs ys q r = q
calm-if false xs ys q r = r

waiting-added : (t : Tasks) (ids : List Id) → length (all_to_be_added t ids).waiting ≤ length t.waiting
waiting-added t [] = omega arith
waiting-added t (id ∷ ids) = waiting-added (to_be_added t id) ids

fewer : (decide : Waiting → Option Answer) (ws : List Waiting) → length (left_by decide ws) ≤ length ws
fewer decide ws = let all = counted decide ws in omega (arith, all)

module _ (s : Settings) where
  note-calm : (v : View) (n : Note) → is_calm_note n ≡ true → open_in (moved s v (Notes n)) ≤ open_in v
  note-calm v (Met ids) e = omega arith
  note-calm v (Heard peer master) e = omega arith
  note-calm v PeersAsked e = omega arith
  note-calm v ElectionOff e = omega arith
  note-calm v (ElectionSet word) e = omega arith
  note-calm v (RoundBegun word) e = omega arith
  note-calm v (RoundAnswered source term last) e = omega arith
  note-calm v RoundEnded e = omega arith
  note-calm v (Joined ids) e = waiting-added v.tasks ids
  note-calm v FollowersChecked e = omega arith
  note-calm v (FollowerAnswered from good applied) e = omega arith
  note-calm v LeaderChecked e = omega arith
  note-calm v (LeaderAnswered good) e = omega arith
  note-calm v (Queued conn request) e = absurd (cc)
  note-calm v ExclusionsTimedOut e = fewer (timed_out v.node.committed v.moment) v.tasks.waiting
  note-calm v CommitAcked e = fewer (committed_in (published_id v.node)) v.tasks.waiting
  note-calm v AppliedAnswered e = fewer (applied_in v.node.committed v.node.accepted) v.tasks.waiting
  note-calm v StateMade e = let all = counted_next (master_now s v) v.tasks in omega (arith, all)
  note-calm v HandedOver e = omega arith
  note-calm v (PeerLost id) e = omega arith
  note-calm v LeaderLost e = omega arith

  act-calm : (v : View) (act : Act) (o : Outcome) → open_in (moved s v (Acts act o)) ≤ open_in v
  act-calm v (Bootstrap config) o = omega arith
  act-calm v (StartJoin candidate term) o = omega arith
  act-calm v (TakeJoin join) o = omega arith
  act-calm v (Value version config value) o = omega arith
  act-calm v (Publish request) o = omega arith
  act-calm v (Response response) o = omega arith
  act-calm v (Commit commit) o = omega arith
  act-calm v (Open found) o = omega arith

  item-calm : (v : View) (i : Item) → is_calm i ≡ true → open_in (moved s v i) ≤ open_in v
  item-calm v (Acts act o) e = act-calm v act o
  item-calm v (ChangesMode Candidate term) e = omega arith
  item-calm v (ChangesMode Leader term) e = omega arith
  item-calm v (ChangesMode (Follower leader) term) e = omega arith
  item-calm v (Drops member cause) e = omega arith
  item-calm v (Sends frame) e = omega arith
  item-calm v (Notes note) e = note-calm v note e
  item-calm v (Opens found) e = absurd (cc)
  item-calm v (Begins event) e = absurd (cc)
  item-calm v (Replies answer) e = absurd (cc)

-- ---- who is answered waits no more

-- replies of items, and who waits after them, by who waited before
record Spends (s : Settings) (v : View) (is : List Item) : Type 0 where
  pub all : length (replies_of is) + open_in (moved_all s v is) ≤ open_in v

no-reply : (i : Item) (is : List Item) → is_calm i ≡ true → replies_of (i ∷ is) ≡ replies_of is
no-reply (Acts act o) is e = refl
no-reply (ChangesMode mode term) is e = refl
no-reply (Drops member cause) is e = refl
no-reply (Sends frame) is e = refl
no-reply (Notes note) is e = refl
no-reply (Opens found) is e = absurd (cc)
no-reply (Begins event) is e = absurd (cc)
no-reply (Replies answer) is e = absurd (cc)

module _ (s : Settings) where
  spends-none : (v : View) → Spends s v []
  spends-none v = record { all = omega arith }

  spends-item : (v : View) (i : Item) (is : List Item) → is_calm i ≡ true → Spends s (moved s v i) is → Spends s v (i ∷ is)
  spends-item v i is e rest =
      let less = item-calm s v i e in
      let same : length (replies_of (i ∷ is)) ≡ length (replies_of is) = ap length (no-reply i is e) in
      record { all = omega (arith, less, same, rest.all) }

  spends-calm : (v : View) (is : List Item) → AreCalm is → Spends s v is
  spends-calm v xs Silent = spends-none v
  spends-calm v xs (Also i is e q) = spends-item v i is e (spends-calm (moved s v i) is q)

  spends-append : (v : View) (xs ys : List Item) → Spends s v xs → Spends s (moved_all s v xs) ys → Spends s v (xs ++ ys)
  spends-append v xs ys a b =
      let after : open_in (moved_all s v (xs ++ ys)) ≡ open_in (moved_all s (moved_all s v xs) ys) = ap open_in (moved_all-append s v xs ys) in
      let both : length (replies_of (xs ++ ys)) ≡ length (replies_of xs) + length (replies_of ys) = ap length (replies-append xs ys) ∙ length-append (replies_of xs) (replies_of ys) in
      record { all = omega (arith, after, both, a.all, b.all) }

  spends-then : (v : View) (xs : List Item) (rule : View → List Item) → Spends s v xs → ((u : View) → Spends s u (rule u)) → Spends s v (doing.then_rule s v xs rule)
  spends-then v xs rule a b = spends-append v xs (rule (moved_all s v xs)) a (b (moved_all s v xs))

  spends-if : (v : View) (b : Bool) (xs ys : List Item) → Spends s v xs → Spends s v ys → Spends s v (if b then xs else ys)
  spends-if v true xs ys a b = a
  spends-if v false xs ys a b = b

  -- some are answered, and then what follows says that they wait no more
  spends-replies : (v : View) (answers : List Outgoing) (is : List Item) → length answers + length (replies_of is) + open_in (moved_all s v is) ≤ open_in v → Spends s v (doing.reply_all s answers ++ is)
  spends-replies v answers is h =
      let after : open_in (moved_all s v (doing.reply_all s answers ++ is)) ≡ open_in (moved_all s v is) =
      ap open_in (moved_all-append s v (doing.reply_all s answers) is) ∙ ap (λ (u : View). open_in (moved_all s u is)) (moved_all-replies s v answers)
      in
      let both : length (replies_of (doing.reply_all s answers ++ is)) ≡ length answers + length (replies_of is) =
      ap length (replies-append (doing.reply_all s answers) is) ∙ length-append (replies_of (doing.reply_all s answers)) (replies_of is)
      ∙ ap (λ (xs : List Outgoing). length xs + length (replies_of is)) (replies-replies s answers)
      in
      record { all = omega (arith, h, after, both) }

  -- ---- changes of mode

  calm-sends : (ids : List Id) (m : WireMessage) → AreCalm (doing.send_all s ids m)
  calm-sends [] m = Silent
  calm-sends (x ∷ xs) m = Also _ _ refl (calm-sends xs m)

  calm-drops : (ids : List Id) (cause : DropCause) → AreCalm (checks.drop_all ids cause)
  calm-drops [] cause = Silent
  calm-drops (x ∷ xs) cause = Also _ _ refl (calm-drops xs cause)

  spends-becomes_candidate : (v : View) → Spends s v (doing.becomes_candidate s v)
  spends-becomes_candidate v =
      elim (doing.is_leader v.mode) as (λ b. Spends s v ((if b then doing.reply_all s (answers_by (failed v.leader_term) v.tasks.waiting) else []) ++ ChangesMode Candidate v.node.term ∷ [])) [
        | true ↦ spends-replies v (answers_by (failed v.leader_term) v.tasks.waiting) (ChangesMode Candidate v.node.term ∷ []) (let all = counted (failed v.leader_term) v.tasks.waiting in omega (arith, all))
        | false ↦ spends-calm v _ (Also _ _ refl Silent)
      ]

  spends-becomes_candidate_once : (v : View) → Spends s v (doing.becomes_candidate_once s v)
  spends-becomes_candidate_once v = spends-if v (doing.is_candidate v.mode) _ _ (spends-none v) (spends-becomes_candidate v)

  spends-becomes_follower : (v : View) (p : Id) → Spends s v (doing.becomes_follower s v p)
  spends-becomes_follower v p =
      spends-if v (doing.follows_node v.mode p) _ _ (spends-none v)
      (spends-append v _ _ (spends-if v (doing.is_leader v.mode) _ _ (spends-becomes_candidate v) (spends-none v)) (spends-calm _ _ (Also _ _ refl Silent)))

  spends-on_start_join : (v : View) (c : Id) (t : ℕ) → Spends s v (doing.on_start_join s v c t)
  spends-on_start_join v c t =
      spends-item v (doing.act_now s v (StartJoin c t)) _ refl
      (spends-if _ (doing.takes s v (StartJoin c t)) _ _
      (spends-item _ _ _ refl (spends-becomes_candidate_once (doing.after_act s v (StartJoin c t)))) (spends-none _))

  spends-raises_term : (v : View) (c : Id) (t : ℕ) → Spends s v (doing.raises_term s v c t)
  spends-raises_term v c t = spends-if v (nat_lt v.node.term t) _ _ (spends-on_start_join v c t) (spends-none v)

  -- ---- the next state

  spends-publishes : (v made : View) → Spends s made (next.publishes s v made)
  spends-publishes v made =
      spends-item made (doing.act_now s made (next.value_act s v)) _ refl
      (spends-if _ (doing.takes s made (next.value_act s v)) _ _ (spends-calm _ _ (calm-sends _ _)) (spends-becomes_candidate (doing.after_act s made (next.value_act s v))))

  spends-makes_state : (v : View) → Spends s v (next.makes_state s v)
  spends-makes_state v =
      let made : View = moved s v (Notes StateMade) in
      let all = counted_next (master_now s v) v.tasks in
      let rest : Spends s made (if is_nothing_new (master_now s v) v.tasks then [] else next.publishes s v made) =
      spends-if made (is_nothing_new (master_now s v) v.tasks) _ _ (spends-none made) (spends-publishes v made)
      in
      spends-replies v (next_answers (master_now s v) v.tasks) _ (omega (arith, all, rest.all))

  calm-asks_successor : (v : View) (o : Option Id) → AreCalm (next.asks_successor s v o)
  calm-asks_successor v None = Silent
  calm-asks_successor v (Some id) = calm-if (nat_le (v.node.term + 1) last_number) _ _ (calm-sends _ _) Silent

  calm-hands_over : (v : View) → AreCalm (next.hands_over s v)
  calm-hands_over v = calm-if (is_due v.handover_due v.moment) _ _ (Also _ _ refl (calm-asks_successor v (next.successor_of s v))) Silent

  calm-asks_votes : (v : View) → AreCalm (next.asks_votes s v)
  calm-asks_votes v = Also _ _ refl (calm-asks_successor v (Some s.me))

  spends-leads_on : (v : View) → Spends s v (next.leads_on s v)
  spends-leads_on v = spends-if v (next.wants_votes s v) _ _ (spends-calm v _ (calm-asks_votes v)) (spends-makes_state v)

  spends-goes_on : (v : View) → Spends s v (next.goes_on s v)
  spends-goes_on v =
      spends-if v (doing.is_leader v.mode && not (next.is_in_flight v.publication)) _ _
      (spends-if v (doing.may_win s v) _ _ (spends-leads_on v) (spends-calm v _ (calm-hands_over v))) (spends-none v)

  -- ---- elections and discovery

  calm-takes_config : (v : View) (o : Option (List Id)) → AreCalm (elections.takes_config s v o)
  calm-takes_config v None = Silent
  calm-takes_config v (Some config) = Also _ _ refl Silent

  calm-stands : (v : View) (term : ℕ) → AreCalm (elections.stands_for_election s v term)
  calm-stands v term = Also _ _ refl (calm-if (nat_le term last_number) _ _ (calm-sends _ _) Silent)

  calm-begins_round : (v : View) (word : ℕ) → AreCalm (elections.begins_round s v word)
  calm-begins_round v word = Also _ _ refl (calm-append _ _ (calm-sends _ message.PreVoteAsk) (calm-if _ _ _ (calm-stands v (v.node.term + 1)) Silent))

  calm-waits_until : (v : View) (word : ℕ) (o : Option ℕ) → AreCalm (elections.waits_until s v word o)
  calm-waits_until v word None = Also _ _ refl Silent
  calm-waits_until v word (Some deadline) = calm-if _ _ _ (calm-begins_round v word) Silent

  calm-waits : (v : View) (word : ℕ) → AreCalm (elections.waits_for_election s v word)
  calm-waits v word = calm-if _ _ _ (calm-waits_until v word v.deadline) (Also _ _ refl Silent)

  calm-pre_vote_reply : (v : View) (p : Id) (r : PreVoteReply) → AreCalm (elections.pre_vote_reply s v p r)
  calm-pre_vote_reply v p PreVoteAnswer = Also _ _ refl Silent
  calm-pre_vote_reply v p (PreVoteRefused leader) = Also _ _ refl Silent

  calm-goes_to_election : (v : View) (a : Added) → AreCalm (elections.goes_to_election s v a)
  calm-goes_to_election v Counted = Silent
  calm-goes_to_election v Fresher = Silent
  calm-goes_to_election v (Quorum term) = calm-stands v term

  calm-on_pre_vote_answer : (v : View) (round : Option Round) (p : Id) (term : ℕ) (last : StateId) → AreCalm (elections.on_pre_vote_answer s v round p term last)
  calm-on_pre_vote_answer v None p term last = Silent
  calm-on_pre_vote_answer v (Some r) p term last = calm-if _ _ _ (Also _ _ refl (calm-goes_to_election v _)) Silent

  calm-asks_peers : (v : View) → AreCalm (discovery.asks_peers s v)
  calm-asks_peers v = calm-if (is_due v.finder.due v.moment) _ _ (Also _ _ refl (calm-sends _ _)) Silent

  spends-seeks_master : (v : View) (p : Id) (master : Option Id) (term : ℕ) → Spends s v (discovery.seeks_master s v p master term)
  spends-seeks_master v p master term =
      spends-if v (discovery.is_node master p) _ _
      (spends-if v (nat_lt v.node.term term) _ _ (spends-on_start_join v p term) (spends-calm v _ (Also _ _ refl Silent))) (spends-none v)

  spends-hears_peer : (v : View) (p : Id) (master : Option Id) (term : ℕ) → Spends s v (discovery.hears_peer s v p master term)
  spends-hears_peer v p master term =
      spends-if v (doing.is_candidate v.mode) _ _ (spends-item v (Notes (Heard p master)) _ refl (spends-seeks_master (moved s v (Notes (Heard p master))) p master term)) (spends-none v)

  spends-told_peers : (v : View) (p : Id) (master : Option Id) (term : ℕ) (ids : List Id) → Spends s v (discovery.on_peers_answer s v p master term ids)
  spends-told_peers v p master term ids = spends-item v (Notes (Met (p ∷ ids))) _ refl (spends-hears_peer (moved s v (Notes (Met (p ∷ ids)))) p master term)

  -- ---- joins

  spends-leads : (v : View) → Spends s v (joins.leads s v)
  spends-leads v =
      spends-item v (ChangesMode Leader v.node.term) _ refl
      (spends-item _ (Notes (Joined (s.me ∷ v.node.join_votes))) _ refl (spends-goes_on (moved_all s v (ChangesMode Leader v.node.term ∷ Notes (Joined (s.me ∷ v.node.join_votes)) ∷ []))))

  spends-takes_member : (v : View) (p : Id) → Spends s v (joins.takes_member s v p)
  spends-takes_member v p = spends-item v (Notes (Joined (p ∷ []))) _ refl (spends-goes_on (moved s v (Notes (Joined (p ∷ [])))))

  spends-after_join : (v after : View) (act : Act) (p : Id) → Spends s after (joins.after_join s v after act p)
  spends-after_join v after act p =
      spends-if after (joins.wins_now (doing.reply_now s v act)) _ _ (spends-leads after)
      (spends-if after (doing.takes s v act && doing.is_leader after.mode) _ _ (spends-takes_member after p) (spends-none after))

  spends-takes_join : (v : View) (p : Id) (term : ℕ) (last : StateId) → Spends s v (joins.takes_join s v p term last)
  spends-takes_join v p term last =
      let act : Act = TakeJoin (joins.join_from p s.me term last) in
      spends-if v (has_room v.node.join_votes p) _ _ (spends-item v (doing.act_now s v act) _ refl (spends-after_join v (doing.after_act s v act) act p)) (spends-none v)

  spends-joined : (v : View) (p : Id) (term : ℕ) (last : StateId) → Spends s v (joins.on_join s v p term last)
  spends-joined v p term last =
      spends-if v (doing.is_voting_only s s.me) _ _ (spends-none v)
      (spends-then v _ (λ u. joins.takes_join s u p term last) (spends-raises_term v s.me term) (λ u. spends-takes_join u p term last))

  spends-asked_to_join : (v : View) (p : Id) (term : ℕ) → Spends s v (joins.on_join_ask s v p term)
  spends-asked_to_join v p term =
      spends-if v (not (doing.is_leader v.mode)) _ _ (spends-none v)
      (spends-if v (nat_le term v.node.term) _ _ (spends-takes_member v p) (spends-on_start_join v s.me term))

  -- ---- publications

  spends-accepts : (v : View) (p : Id) (state : ClusterState) → Spends s v (publications.accepts s v p state)
  spends-accepts v p state =
      let act : Act = Publish (record { source = p; state = state }) in
      spends-item v (doing.act_now s v act) _ refl
      (spends-if _ (doing.takes s v act) _ _
      (spends-item _ _ _ refl (spends-if _ (same p s.me) _ _ (spends-none _) (spends-becomes_follower (doing.after_act s v act) p))) (spends-none _))

  spends-published_to : (v : View) (p : Id) (state : ClusterState) → Spends s v (publications.on_publish s v p state)
  spends-published_to v p state = spends-then v _ (λ u. publications.accepts s u p state) (spends-raises_term v p state.term) (λ u. spends-accepts u p state)

  spends-first_commit : (v : View) (id : StateId) → Spends s v (publications.sends_first_commit s v id)
  spends-first_commit v id =
      let to : List Id = among (next.responders_of v.publication) (next.targets_of v.publication) in
      let answers : List Outgoing = answers_by (committed_in (published_id v.node)) v.tasks.waiting in
      let sent : List Item = doing.send_all s to (message.Commit id) in
      let rest : Spends s v (doing.reply_all s answers ++ Notes CommitAcked ∷ []) =
      spends-replies v answers (Notes CommitAcked ∷ []) (let all = counted (committed_in (published_id v.node)) v.tasks.waiting in omega (arith, all))
      in
      rw (append_assoc sent (doing.reply_all s answers) (Notes CommitAcked ∷ []))
      (spends-append v sent (doing.reply_all s answers ++ Notes CommitAcked ∷ []) (spends-calm v sent (calm-sends to (message.Commit id))) (rw (moved_all-sends s v to (message.Commit id)) rest))

  spends-on_response : (v : View) (p : Id) (id : StateId) → Spends s v (publications.on_response s v p id)
  spends-on_response v p id =
      let act : Act = Response (record { source = p; target = s.me; term = id.term; version = id.version }) in
      let after : View = doing.after_act s v act in
      spends-if v (doing.is_leader v.mode && is_some v.publication && has_room v.node.publish_votes p) _ _
      (spends-item v (doing.act_now s v act) _ refl
      (spends-if after (publications.commits_now (doing.reply_now s v act)) _ _
      (spends-if after (publications.is_commit_sent v.publication) _ _ (spends-calm after _ (Also _ _ refl Silent)) (spends-first_commit after id)) (spends-none after)))
      (spends-none v)

  spends-answers_applied : (v : View) → Spends s v (publications.answers_applied s v)
  spends-answers_applied v =
      let decide : Waiting → Option Answer = applied_in v.node.committed v.node.accepted in
      spends-replies v (answers_by decide v.tasks.waiting) (Notes AppliedAnswered ∷ []) (let all = counted decide v.tasks.waiting in omega (arith, all))

  spends-told_commit : (v : View) (p : Id) (id : StateId) → Spends s v (publications.on_commit s v p id)
  spends-told_commit v p id =
      let act : Act = Commit (record { source = p; term = id.term; version = id.version }) in
      let after : View = doing.after_act s v act in
      spends-item v (doing.act_now s v act) _ refl
      (spends-if after (doing.takes s v act && doing.is_leader after.mode) _ _
      (spends-then after _ (next.goes_on s) (spends-answers_applied after) spends-goes_on) (spends-none after))

  -- ---- checks

  calm-checks_followers : (v : View) → AreCalm (checks.checks_followers s v)
  calm-checks_followers v = calm-append _ _ (calm-append _ _ (calm-drops _ _) (calm-drops _ _)) (Also _ _ refl (calm-sends _ _))

  spends-does_check : (v : View) (leader : Id) (t : LeaderTick) → Spends s v (checks.does_check s v leader t)
  spends-does_check v leader Quiet = spends-none v
  spends-does_check v leader Ask = spends-calm v _ (Also _ _ refl Silent)
  spends-does_check v leader Lost = spends-becomes_candidate v

  spends-checks_leader : (v : View) (leader : Id) (c : Option LeaderCheck) → Spends s v (checks.checks_leader s v leader c)
  spends-checks_leader v leader None = spends-none v
  spends-checks_leader v leader (Some c) = spends-item v (Notes LeaderChecked) _ refl (spends-does_check (moved s v (Notes LeaderChecked)) leader (leader_tick c v.moment))

  spends-answers_leader : (v : View) (p : Id) (good : Bool) → Spends s v (checks.answers_leader s v p good)
  spends-answers_leader v p good = spends-calm v _ (Also _ _ refl Silent)

  spends-follows_checker : (v : View) (p : Id) → Spends s v (checks.follows_checker s v p)
  spends-follows_checker v p =
      spends-if v (doing.is_second s) _ _ (spends-answers_leader v p (doing.follows_node v.mode p))
      (spends-if v (doing.is_leader v.mode) _ _ (spends-answers_leader v p false)
      (spends-then v _ (λ u. checks.answers_leader s u p true) (spends-becomes_follower v p) (λ u. spends-answers_leader u p true)))

  spends-checked_by_leader : (v : View) (p : Id) (term : ℕ) → Spends s v (checks.on_follower_check s v p term)
  spends-checked_by_leader v p term =
      spends-if v (nat_lt term v.node.term) _ _ (spends-answers_leader v p false)
      (spends-then v _ (λ u. checks.follows_checker s u p) (spends-raises_term v p term) (λ u. spends-follows_checker u p))

  -- ---- ticks and frames

  spends-times_out : (v : View) → Spends s v (requests.times_out_exclusions s v)
  spends-times_out v =
      let decide : Waiting → Option Answer = timed_out v.node.committed v.moment in
      spends-replies v (answers_by decide v.tasks.waiting) (Notes ExclusionsTimedOut ∷ []) (let all = counted decide v.tasks.waiting in omega (arith, all))

  spends-candidate : (v : View) (word : ℕ) → Spends s v (rules.ticks_candidate s v word)
  spends-candidate v word =
      spends-then v _ (λ u. elections.waits_for_election s u word)
      (spends-then v _ (discovery.asks_peers s)
      (spends-calm v _ (calm-takes_config v (decision_of s.initial (answered_set v.finder) s.me (not (is_empty v.node.accepted.config))))) (λ u. spends-calm u _ (calm-asks_peers u)))
      (λ u. spends-calm u _ (calm-waits u word))

  spends-leader : (v : View) → Spends s v (rules.ticks_leader s v)
  spends-leader v =
      spends-if v (rules.gives_up s v) _ _ (spends-becomes_candidate v)
      (spends-then v _ (next.goes_on s)
      (spends-then v _ (checks.checks_followers s) (spends-times_out v) (λ u. spends-calm u _ (calm-checks_followers u))) spends-goes_on)

  spends-ticks : (v : View) (word : ℕ) (m : Mode) → Spends s v (rules.ticks s v word m)
  spends-ticks v word Candidate = spends-candidate v word
  spends-ticks v word Leader = spends-leader v
  spends-ticks v word (Follower leader) = spends-checks_leader v leader v.leader_check

  spends-message : (v : View) (p : Id) (m : WireMessage) → Spends s v (rules.takes_message s v p m)
  spends-message v p (message.StartJoin candidate term) = spends-on_start_join v candidate term
  spends-message v p (message.Join term last) = spends-joined v p term last
  spends-message v p (message.Publish state) = spends-published_to v p state
  spends-message v p (message.Response id) = spends-on_response v p id
  spends-message v p (message.Commit id) = spends-told_commit v p id
  spends-message v p (message.JoinAsk term) = spends-asked_to_join v p term
  spends-message v p (message.PeersAsk known) = spends-calm v _ (Also _ _ refl (Also _ _ refl Silent))
  spends-message v p (message.PeersAnswer master term known) = spends-told_peers v p master term known
  spends-message v p message.PreVoteAsk = spends-calm v _ (calm-pre_vote_reply v p _)
  spends-message v p (message.PreVoteAnswer term last) = spends-calm v _ (calm-on_pre_vote_answer v v.round p term last)
  spends-message v p (message.PreVoteRefuse leader) = spends-calm v _ (Also _ _ refl Silent)
  spends-message v p (message.FollowerCheck term) = spends-checked_by_leader v p term
  spends-message v p (message.FollowerAnswer good term applied) = spends-calm v _ (calm-if (doing.is_leader v.mode) _ _ (Also _ _ refl Silent) Silent)
  spends-message v p (message.LeaderCheck term) = spends-calm v _ (Also _ _ refl Silent)
  spends-message v p (message.LeaderAnswer good) = spends-calm v _ (calm-if (doing.follows_node v.mode p) _ _ (Also _ _ refl Silent) Silent)

  spends-stands_anew : (v : View) → Spends s v (disconnects.stands_anew s v)
  spends-stands_anew v =
      spends-then v _ (λ u. elections.stands_for_election s u (u.node.term + 1)) (spends-becomes_candidate v)
      (λ u. spends-calm u _ (calm-stands u (u.node.term + 1)))

  spends-loses : (v : View) (p : Id) (m : Mode) → Spends s v (disconnects.loses s v p m)
  spends-loses v p Candidate = spends-calm v _ (calm-if _ _ _ (Also _ _ refl Silent) Silent)
  spends-loses v p Leader =
      spends-if v _ _ _
      (spends-then v _ (disconnects.goes_on_with_rest s) (spends-calm v _ (Also _ _ refl (Also _ _ refl Silent)))
      (λ u. spends-if u (disconnects.keeps_quorum s u) _ _ (spends-goes_on u) (spends-stands_anew u)))
      (spends-none v)
  spends-loses v p (Follower leader) = spends-if v (same leader p) _ _ (spends-append v _ _ (spends-becomes_candidate v) (spends-calm _ _ (Also _ _ refl Silent))) (spends-none v)

  -- ---- events

  few-spent : (v : View) (is : List Item) → open_in v ≤ most_open → Spends s v is → AnswersFew s v is
  few-spent v is h a = record { replies = omega (arith, h, a.all); waiting = omega (arith, h, a.all) }

  -- one reply to who does not wait
  few-one : (v : View) (answer : Outgoing) → open_in v ≤ most_open → AnswersFew s v (Replies answer ∷ [])
  few-one v answer h = record { replies = omega arith; waiting = h }

  few-queued : (v : View) (conn : ℕ) (request : Request) → is_full_of v.tasks ≡ false → AnswersFew s v (doing.then_rule s v (Notes (Queued conn request) ∷ []) (next.goes_on s))
  few-queued v conn request room =
      let after : View = moved s v (Notes (Queued conn request)) in
      let rest = spends-goes_on after in
      let longer = length-append v.tasks.waiting (arriving conn v.moment request ∷ []) in
      let less : open_in v + 1 ≤ most_open = grind (arith, nat_tests) in
      record { replies = omega (arith, rest.all, longer, less); waiting = omega (arith, rest.all, longer, less) }

  few-queues : (v : View) (conn : ℕ) (request : Request) (bad : Option ℕ) → open_in v ≤ most_open → AnswersFew s v (requests.queues s v conn request bad)
  few-queues v conn request (Some length) h = few-one v _ h
  few-queues v conn request None h =
      elim (is_full_of v.tasks) as (λ b. is_full_of v.tasks ≡ b → AnswersFew s v (if b then requests.replies conn (reply.To request.id (answer.QueueFull most_open)) else doing.then_rule s v (Notes (Queued conn request) ∷ []) (next.goes_on s))) [
        | true ↦ λ e. few-one v _ h
        | false ↦ λ e. few-queued v conn request e
      ] refl

  few-line : (v : View) (conn : ℕ) (read : Result Request LineFault) → open_in v ≤ most_open → AnswersFew s v (requests.takes_line s v conn read)
  few-line v conn (Err fault) h = few-one v _ h
  few-line v conn (Ok request) h =
      elim (doing.is_leader v.mode) as (λ b. AnswersFew s v (if b then requests.queues s v conn request (bad_setting_of request.ask) else requests.replies conn (reply.To request.id (answer.NotMaster (doing.leader_of s.me v.mode))))) [
        | true ↦ few-queues v conn request (bad_setting_of request.ask) h
        | false ↦ few-one v _ h
      ]

  pub answers_few : (v : View) (event : Event) → open_in v ≤ most_open → AnswersFew s v (rules.next_of s v event)
  answers_few v Start h = few-spent v _ h (spends-calm v _ (Also _ _ refl (Also _ _ refl Silent)))
  answers_few v (Tick now word) h = few-spent v _ h (spends-ticks v word v.mode)
  answers_few v (FrameCame frame) h = few-spent v _ h (spends-if v (same frame.to s.me) _ _ (spends-message v frame.from frame.message) (spends-none v))
  answers_few v (LineCame conn line) h = few-line v conn (line_request line) h
  answers_few v (PeerGone peer) h = few-spent v _ h (spends-loses v peer v.mode)
