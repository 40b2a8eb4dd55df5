-- An event has three acts and six deeds at most.
use Rattle.std.proofs.Common.{◌≡◌, ℕ, ◌+◌, ◌≤◌, Bool, true, false, not, ◌&&◌, Option, None, Some, Result, Ok, Err, List, [], ◌∷◌, ◌++◌, length, refl, arith}
use Rattle.std.specs.Prelude.{if◌then◌else◌, is_some, nat_le, nat_lt}
use Rattle.std.proofs.lemmas.List.{length-append}
use Rattle.cluster_state.specs.Field.{last_number}
use Rattle.bootstrap.specs.Decisions.{decision_of}
use Rattle.election_clock.specs.Delays.{is_due}
use Rattle.peer_finder.specs.Peers.{answered_set}
use Rattle.voting_config.specs.Ids.{Id, same, has_room}
use Rattle.cluster_state.specs.JoinCheck.{is_empty}
use Rattle.cluster_state.specs.declared.reply.LineFault.{LineFault}
use Rattle.cluster_state.specs.declared.request.Request.{Request}
use Rattle.cluster_state.specs.declared.state.ClusterState.{ClusterState}
use Rattle.cluster_state.specs.declared.state.StateId.{StateId}
use Rattle.wire_frames.specs.declared.frame.WireMessage.{WireMessage}
use Rattle.wire_frames.specs.declared.frame.WireMessage.TheVariants as message
use Rattle.client_lines.specs.Reading.{line_request}
use Rattle.pre_vote.specs.declared.rounds.Added.{Added}
use Rattle.pre_vote.specs.declared.rounds.Added.TheVariants.{Counted, Fresher, Quorum}
use Rattle.pre_vote.specs.declared.replies.Reply.{Reply as PreVoteReply}
use Rattle.pre_vote.specs.declared.replies.Reply.TheVariants.{Answer as PreVoteAnswer, Refused as PreVoteRefused}
use Rattle.pre_vote.specs.Rounds.{Round}
use Rattle.fault_checks.specs.declared.leader.LeaderTick.{LeaderTick}
use Rattle.fault_checks.specs.declared.leader.LeaderTick.TheVariants.{Quiet, Ask, Lost}
use Rattle.fault_checks.specs.Leaders.{LeaderCheck, leader_tick}
use Rattle.master_tasks.specs.declared.waiting.Outgoing.{Outgoing}
use Rattle.master_tasks.specs.NextState.{next_answers, is_nothing_new}
use Rattle.world_model.specs.declared.acts.Act.{Act}
use Rattle.world_model.specs.declared.acts.Act.TheVariants.{Bootstrap, StartJoin, TakeJoin, Publish, Response, Commit}
use Rattle.world_model.specs.declared.acts.Outcome.{Outcome}
use Rattle.policy_model.specs.declared.settings.Settings.{Settings}
use Rattle.policy_model.specs.Events.{Mode, Candidate, Leader, Follower, Event, Start, Tick, FrameCame, LineCame, PeerGone, DropCause, Met, Heard, Joined, LeaderChecked, Queued, StateMade, Item, Opens, Begins, Acts, ChangesMode, Drops, Sends, Replies, Notes}
use Rattle.policy_model.specs.Entries.{deeds_of}
use Rattle.policy_model.specs.Views.{View, master_now}
use Rattle.policy_model.specs.Moves.{moved, moved_all}
use Rattle.policy_model.specs.Follows.{IsStruck, Here, Later, without_output}
use Rattle.policy_model.specs.Doing as doing
use Rattle.policy_model.specs.NextState as next
use Rattle.policy_model.specs.Elections as elections
use Rattle.policy_model.specs.Discovery as discovery
use Rattle.policy_model.specs.Joins as joins
use Rattle.policy_model.specs.Publications as publications
use Rattle.policy_model.specs.Checks as checks
use Rattle.policy_model.specs.Requests as requests
use Rattle.policy_model.specs.Rules as rules
use Rattle.policy_model.specs.Disconnects as disconnects
use Rattle.policy_model.specs.Bounds.{count_acts, IsShort}
use Rattle.policy_model.proofs.Sweeps.{deeds-append}

-- ---- items that show no step

abbrev is_silent : Item → Bool
is_silent (Acts act o) = false
is_silent (ChangesMode mode term) = false
is_silent i = true

data AreSilent : List Item → Type 0 where
  Silent : AreSilent []
  Also : (i : Item) (is : List Item) → is_silent i ≡ true → AreSilent is → AreSilent (i ∷ is)

silent-append : (xs ys : List Item) → AreSilent xs → AreSilent ys → AreSilent (xs ++ ys)
silent-append xs ys Silent r = r
silent-append xs ys (Also i is e q) r = Also i (is ++ ys) e (silent-append is ys q r)

silent-if : (b : Bool) (xs ys : List Item) → AreSilent xs → AreSilent ys → AreSilent (if b then xs else ys)
silent-if true xs ys q r = q
silent-if false xs ys q r = r

-- ---- how many acts and deeds

record AtMost (acts deeds : ℕ) (is : List Item) : Type 0 where
  pub of_acts : count_acts is ≤ acts
  pub of_steps : length (deeds_of is) ≤ deeds

most-none : (a m : ℕ) → AtMost a m []
most-none a m = record { of_acts = omega arith; of_steps = omega arith }

most-more : (a m b n : ℕ) (is : List Item) → AtMost a m is → a ≤ b → m ≤ n → AtMost b n is
most-more a m b n is h k l = record { of_acts = omega (arith, h.of_acts, k); of_steps = omega (arith, h.of_steps, l) }

most-act : (a m : ℕ) (act : Act) (o : Outcome) (is : List Item) → AtMost a m is → AtMost (a + 1) (m + 1) (Acts act o ∷ is)
most-act a m act o is h = record { of_acts = omega (arith, h.of_acts); of_steps = omega (arith, h.of_steps) }

most-turn : (a m : ℕ) (mode : Mode) (term : ℕ) (is : List Item) → AtMost a m is → AtMost a (m + 1) (ChangesMode mode term ∷ is)
most-turn a m mode term is h = record { of_acts = h.of_acts; of_steps = omega (arith, h.of_steps) }

most-silent : (a m : ℕ) (i : Item) (is : List Item) → is_silent i ≡ true → AtMost a m is → AtMost a m (i ∷ is)
most-silent a m (Opens found) is e h = record { of_acts = h.of_acts; of_steps = h.of_steps }
most-silent a m (Begins event) is e h = record { of_acts = h.of_acts; of_steps = h.of_steps }
most-silent a m (Drops member cause) is e h = record { of_acts = h.of_acts; of_steps = h.of_steps }
most-silent a m (Sends frame) is e h = record { of_acts = h.of_acts; of_steps = h.of_steps }
most-silent a m (Replies answer) is e h = record { of_acts = h.of_acts; of_steps = h.of_steps }
most-silent a m (Notes note) is e h = record { of_acts = h.of_acts; of_steps = h.of_steps }
most-silent a m (Acts act o) is e h = absurd (cc)
most-silent a m (ChangesMode mode term) is e h = absurd (cc)

most-quiet : (a m : ℕ) (is : List Item) → AreSilent is → AtMost a m is
most-quiet a m xs Silent = most-none a m
most-quiet a m xs (Also i is e q) = most-silent a m i is e (most-quiet a m is q)

acts-append : (xs ys : List Item) → count_acts (xs ++ ys) ≡ count_acts xs + count_acts ys
acts-append [] ys = omega arith
acts-append (Acts act o ∷ xs) ys = let rest = acts-append xs ys in omega (arith, rest)
acts-append (Opens found ∷ xs) ys = acts-append xs ys
acts-append (Begins event ∷ xs) ys = acts-append xs ys
acts-append (ChangesMode mode term ∷ xs) ys = acts-append xs ys
acts-append (Drops member cause ∷ xs) ys = acts-append xs ys
acts-append (Sends frame ∷ xs) ys = acts-append xs ys
acts-append (Replies answer ∷ xs) ys = acts-append xs ys
acts-append (Notes note ∷ xs) ys = acts-append xs ys

most-append : (a m b n : ℕ) (xs ys : List Item) → AtMost a m xs → AtMost b n ys → AtMost (a + b) (m + n) (xs ++ ys)
most-append a m b n xs ys h k =
    let acts = acts-append xs ys in
    let deeds : length (deeds_of (xs ++ ys)) ≡ length (deeds_of xs) + length (deeds_of ys) = rw (deeds-append xs ys) (length-append (deeds_of xs) (deeds_of ys)) in
    record { of_acts = omega (arith, h.of_acts, k.of_acts, acts); of_steps = omega (arith, h.of_steps, k.of_steps, deeds) }

most-if : (a m : ℕ) (b : Bool) (xs ys : List Item) → AtMost a m xs → AtMost a m ys → AtMost a m (if b then xs else ys)
most-if a m true xs ys h k = h
most-if a m false xs ys h k = k

module _ (s : Settings) where
  -- by a number, and then by another of whatever the node is
  most-then : (a m b n : ℕ) (v : View) (xs : List Item) (rule : View → List Item) → AtMost a m xs → ((u : View) → AtMost b n (rule u)) → AtMost (a + b) (m + n) (doing.then_rule s v xs rule)
  most-then a m b n v xs rule h k = most-append a m b n xs (rule (moved_all s v xs)) h (k (moved_all s v xs))

  -- ---- changes of mode

  silent-sends : (ids : List Id) (m : WireMessage) → AreSilent (doing.send_all s ids m)
  silent-sends [] m = Silent
  silent-sends (x ∷ xs) m = Also _ _ refl (silent-sends xs m)

  silent-replies : (answers : List Outgoing) → AreSilent (doing.reply_all s answers)
  silent-replies [] = Silent
  silent-replies (x ∷ xs) = Also _ _ refl (silent-replies xs)

  silent-drops : (ids : List Id) (cause : DropCause) → AreSilent (checks.drop_all ids cause)
  silent-drops [] cause = Silent
  silent-drops (x ∷ xs) cause = Also _ _ refl (silent-drops xs cause)

  most-becomes_candidate : (v : View) → AtMost 0 1 (doing.becomes_candidate s v)
  most-becomes_candidate v =
      most-append 0 0 0 1 _ _ (most-if 0 0 (doing.is_leader v.mode) _ _ (most-quiet 0 0 _ (silent-replies _)) (most-none 0 0))
      (most-turn 0 0 Candidate v.node.term [] (most-none 0 0))

  most-becomes_candidate_once : (v : View) → AtMost 0 1 (doing.becomes_candidate_once s v)
  most-becomes_candidate_once v = most-if 0 1 (doing.is_candidate v.mode) _ _ (most-none 0 1) (most-becomes_candidate v)

  most-becomes_follower : (v : View) (p : Id) → AtMost 0 2 (doing.becomes_follower s v p)
  most-becomes_follower v p =
      most-if 0 2 (doing.follows_node v.mode p) _ _ (most-none 0 2)
      (most-append 0 1 0 1 _ _ (most-if 0 1 (doing.is_leader v.mode) _ _ (most-becomes_candidate v) (most-none 0 1)) (most-turn 0 0 (Follower p) v.node.term [] (most-none 0 0)))

  most-on_start_join : (v : View) (c : Id) (t : ℕ) → AtMost 1 2 (doing.on_start_join s v c t)
  most-on_start_join v c t =
      most-act 0 1 (StartJoin c t) _ _
      (most-if 0 1 (doing.takes s v (StartJoin c t)) _ _ (most-silent 0 1 _ _ refl (most-becomes_candidate_once (doing.after_act s v (StartJoin c t)))) (most-none 0 1))

  most-raises_term : (v : View) (c : Id) (t : ℕ) → AtMost 1 2 (doing.raises_term s v c t)
  most-raises_term v c t = most-if 1 2 (nat_lt v.node.term t) _ _ (most-on_start_join v c t) (most-none 1 2)

  -- ---- the next state

  most-publishes : (v made : View) → AtMost 1 2 (next.publishes s v made)
  most-publishes v made =
      most-act 0 1 (next.value_act s v) _ _
      (most-if 0 1 (doing.takes s made (next.value_act s v)) _ _ (most-quiet 0 1 _ (silent-sends _ _)) (most-becomes_candidate (doing.after_act s made (next.value_act s v))))

  most-makes_state : (v : View) → AtMost 1 2 (next.makes_state s v)
  most-makes_state v =
      most-append 0 0 1 2 (doing.reply_all s (next_answers (master_now s v) v.tasks)) _ (most-quiet 0 0 _ (silent-replies _))
      (most-silent 1 2 _ _ refl (most-if 1 2 (is_nothing_new (master_now s v) v.tasks) _ _ (most-none 1 2) (most-publishes v (moved s v (Notes StateMade)))))

  silent-asks_successor : (v : View) (o : Option Id) → AreSilent (next.asks_successor s v o)
  silent-asks_successor v None = Silent
  silent-asks_successor v (Some id) = silent-if (nat_le (v.node.term + 1) last_number) _ _ (silent-sends _ _) Silent

  silent-hands_over : (v : View) → AreSilent (next.hands_over s v)
  silent-hands_over v = silent-if (is_due v.handover_due v.moment) _ _ (Also _ _ refl (silent-asks_successor v (next.successor_of s v))) Silent

  silent-asks_votes : (v : View) → AreSilent (next.asks_votes s v)
  silent-asks_votes v = Also _ _ refl (silent-asks_successor v (Some s.me))

  most-leads_on : (v : View) → AtMost 1 2 (next.leads_on s v)
  most-leads_on v = most-if 1 2 (next.wants_votes s v) _ _ (most-quiet 1 2 _ (silent-asks_votes v)) (most-makes_state v)

  most-goes_on : (v : View) → AtMost 1 2 (next.goes_on s v)
  most-goes_on v =
      most-if 1 2 (doing.is_leader v.mode && not (next.is_in_flight v.publication)) _ _
      (most-if 1 2 (doing.may_win s v) _ _ (most-leads_on v) (most-quiet 1 2 _ (silent-hands_over v))) (most-none 1 2)

  -- ---- elections

  most-takes_config : (v : View) (o : Option (List Id)) → AtMost 1 1 (elections.takes_config s v o)
  most-takes_config v None = most-none 1 1
  most-takes_config v (Some config) = most-act 0 0 (Bootstrap config) _ [] (most-none 0 0)

  silent-stands : (v : View) (term : ℕ) → AreSilent (elections.stands_for_election s v term)
  silent-stands v term = Also _ _ refl (silent-if (nat_le term last_number) _ _ (silent-sends _ _) Silent)

  silent-begins_round : (v : View) (word : ℕ) → AreSilent (elections.begins_round s v word)
  silent-begins_round v word =
      Also _ _ refl (silent-append _ _ (silent-sends _ message.PreVoteAsk) (silent-if _ _ _ (silent-stands v (v.node.term + 1)) Silent))

  silent-waits_until : (v : View) (word : ℕ) (o : Option ℕ) → AreSilent (elections.waits_until s v word o)
  silent-waits_until v word None = Also _ _ refl Silent
  silent-waits_until v word (Some deadline) = silent-if _ _ _ (silent-begins_round v word) Silent

  silent-waits : (v : View) (word : ℕ) → AreSilent (elections.waits_for_election s v word)
  silent-waits v word = silent-if _ _ _ (silent-waits_until v word v.deadline) (Also _ _ refl Silent)

  silent-pre_vote_reply : (v : View) (p : Id) (r : PreVoteReply) → AreSilent (elections.pre_vote_reply s v p r)
  silent-pre_vote_reply v p PreVoteAnswer = Also _ _ refl Silent
  silent-pre_vote_reply v p (PreVoteRefused leader) = Also _ _ refl Silent

  silent-goes_to_election : (v : View) (a : Added) → AreSilent (elections.goes_to_election s v a)
  silent-goes_to_election v Counted = Silent
  silent-goes_to_election v Fresher = Silent
  silent-goes_to_election v (Quorum term) = silent-stands v term

  silent-on_pre_vote_answer : (v : View) (round : Option Round) (p : Id) (term : ℕ) (last : StateId) → AreSilent (elections.on_pre_vote_answer s v round p term last)
  silent-on_pre_vote_answer v None p term last = Silent
  silent-on_pre_vote_answer v (Some r) p term last = silent-if _ _ _ (Also _ _ refl (silent-goes_to_election v _)) Silent

  -- ---- discovery

  silent-asks_peers : (v : View) → AreSilent (discovery.asks_peers s v)
  silent-asks_peers v = silent-if (is_due v.finder.due v.moment) _ _ (Also _ _ refl (silent-sends _ _)) Silent

  most-seeks_master : (v : View) (p : Id) (master : Option Id) (term : ℕ) → AtMost 1 2 (discovery.seeks_master s v p master term)
  most-seeks_master v p master term =
      most-if 1 2 (discovery.is_node master p) _ _
      (most-if 1 2 (nat_lt v.node.term term) _ _ (most-on_start_join v p term) (most-quiet 1 2 _ (Also _ _ refl Silent))) (most-none 1 2)

  most-hears_peer : (v : View) (p : Id) (master : Option Id) (term : ℕ) → AtMost 1 2 (discovery.hears_peer s v p master term)
  most-hears_peer v p master term =
      most-if 1 2 (doing.is_candidate v.mode) _ _ (most-silent 1 2 _ _ refl (most-seeks_master (moved s v (Notes (Heard p master))) p master term)) (most-none 1 2)

  most-told_peers : (v : View) (p : Id) (master : Option Id) (term : ℕ) (ids : List Id) → AtMost 1 2 (discovery.on_peers_answer s v p master term ids)
  most-told_peers v p master term ids = most-silent 1 2 _ _ refl (most-hears_peer (moved s v (Notes (Met (p ∷ ids)))) p master term)

  -- ---- joins

  most-leads : (v : View) → AtMost 1 3 (joins.leads s v)
  most-leads v =
      most-turn 1 2 Leader v.node.term _
      (most-silent 1 2 _ _ refl (most-goes_on (moved_all s v (ChangesMode Leader v.node.term ∷ Notes (Joined (s.me ∷ v.node.join_votes)) ∷ []))))

  most-takes_member : (v : View) (p : Id) → AtMost 1 2 (joins.takes_member s v p)
  most-takes_member v p = most-silent 1 2 _ _ refl (most-goes_on (moved s v (Notes (Joined (p ∷ [])))))

  most-after_join : (v after : View) (act : Act) (p : Id) → AtMost 1 3 (joins.after_join s v after act p)
  most-after_join v after act p =
      most-if 1 3 (joins.wins_now (doing.reply_now s v act)) _ _ (most-leads after)
      (most-if 1 3 (doing.takes s v act && doing.is_leader after.mode) _ _ (most-more 1 2 1 3 _ (most-takes_member after p) (omega arith) (omega arith)) (most-none 1 3))

  most-takes_join : (v : View) (p : Id) (term : ℕ) (last : StateId) → AtMost 2 4 (joins.takes_join s v p term last)
  most-takes_join v p term last =
      let act : Act = TakeJoin (joins.join_from p s.me term last) in
      most-if 2 4 (has_room v.node.join_votes p) _ _ (most-act 1 3 act _ _ (most-after_join v (doing.after_act s v act) act p)) (most-none 2 4)

  most-joined : (v : View) (p : Id) (term : ℕ) (last : StateId) → AtMost 3 6 (joins.on_join s v p term last)
  most-joined v p term last =
      most-if 3 6 (doing.is_voting_only s s.me) _ _ (most-none 3 6)
      (most-then 1 2 2 4 v _ (λ u. joins.takes_join s u p term last) (most-raises_term v s.me term) (λ u. most-takes_join u p term last))

  most-asked_to_join : (v : View) (p : Id) (term : ℕ) → AtMost 1 2 (joins.on_join_ask s v p term)
  most-asked_to_join v p term =
      most-if 1 2 (not (doing.is_leader v.mode)) _ _ (most-none 1 2)
      (most-if 1 2 (nat_le term v.node.term) _ _ (most-takes_member v p) (most-on_start_join v s.me term))

  -- ---- publications

  most-accepts : (v : View) (p : Id) (state : ClusterState) → AtMost 1 3 (publications.accepts s v p state)
  most-accepts v p state =
      let act : Act = Publish (record { source = p; state = state }) in
      most-act 0 2 act _ _
      (most-if 0 2 (doing.takes s v act) _ _
      (most-silent 0 2 _ _ refl (most-if 0 2 (same p s.me) _ _ (most-none 0 2) (most-becomes_follower (doing.after_act s v act) p))) (most-none 0 2))

  most-published_to : (v : View) (p : Id) (state : ClusterState) → AtMost 2 5 (publications.on_publish s v p state)
  most-published_to v p state = most-then 1 2 1 3 v _ (λ u. publications.accepts s u p state) (most-raises_term v p state.term) (λ u. most-accepts u p state)

  silent-sends_commit : (v : View) (sent : Bool) (p : Id) (id : StateId) → AreSilent (publications.sends_commit s v sent p id)
  silent-sends_commit v sent p id =
      silent-if sent _ _ (Also _ _ refl Silent) (silent-append _ _ (silent-append _ _ (silent-sends _ _) (silent-replies _)) (Also _ _ refl Silent))

  most-on_response : (v : View) (p : Id) (id : StateId) → AtMost 1 1 (publications.on_response s v p id)
  most-on_response v p id =
      let act : Act = Response (record { source = p; target = s.me; term = id.term; version = id.version }) in
      most-if 1 1 (doing.is_leader v.mode && is_some v.publication && has_room v.node.publish_votes p) _ _
      (most-act 0 0 act _ _ (most-quiet 0 0 _ (silent-if _ _ _ (silent-sends_commit (doing.after_act s v act) (publications.is_commit_sent v.publication) p id) Silent)))
      (most-none 1 1)

  silent-answers_applied : (v : View) → AreSilent (publications.answers_applied s v)
  silent-answers_applied v = silent-append _ _ (silent-replies _) (Also _ _ refl Silent)

  most-told_commit : (v : View) (p : Id) (id : StateId) → AtMost 2 3 (publications.on_commit s v p id)
  most-told_commit v p id =
      let act : Act = Commit (record { source = p; term = id.term; version = id.version }) in
      let after : View = doing.after_act s v act in
      most-act 1 2 act _ _
      (most-if 1 2 (doing.takes s v act && doing.is_leader after.mode) _ _
      (most-then 0 0 1 2 after _ (next.goes_on s) (most-quiet 0 0 _ (silent-answers_applied after)) most-goes_on) (most-none 1 2))

  -- ---- checks

  silent-checks_followers : (v : View) → AreSilent (checks.checks_followers s v)
  silent-checks_followers v = silent-append _ _ (silent-append _ _ (silent-drops _ _) (silent-drops _ _)) (Also _ _ refl (silent-sends _ _))

  most-does_check : (v : View) (leader : Id) (t : LeaderTick) → AtMost 0 1 (checks.does_check s v leader t)
  most-does_check v leader Quiet = most-none 0 1
  most-does_check v leader Ask = most-quiet 0 1 _ (Also _ _ refl Silent)
  most-does_check v leader Lost = most-becomes_candidate v

  most-checks_leader : (v : View) (leader : Id) (c : Option LeaderCheck) → AtMost 0 1 (checks.checks_leader s v leader c)
  most-checks_leader v leader None = most-none 0 1
  most-checks_leader v leader (Some c) = most-silent 0 1 _ _ refl (most-does_check (moved s v (Notes LeaderChecked)) leader (leader_tick c v.moment))

  silent-answers_leader : (v : View) (p : Id) (good : Bool) → AreSilent (checks.answers_leader s v p good)
  silent-answers_leader v p good = Also _ _ refl Silent

  most-follows_checker : (v : View) (p : Id) → AtMost 0 2 (checks.follows_checker s v p)
  most-follows_checker v p =
      most-if 0 2 (doing.is_second s) _ _ (most-quiet 0 2 _ (silent-answers_leader v p (doing.follows_node v.mode p)))
      (most-if 0 2 (doing.is_leader v.mode) _ _ (most-quiet 0 2 _ (silent-answers_leader v p false))
      (most-then 0 2 0 0 v _ (λ u. checks.answers_leader s u p true) (most-becomes_follower v p) (λ u. most-quiet 0 0 _ (silent-answers_leader u p true))))

  most-checked_by_leader : (v : View) (p : Id) (term : ℕ) → AtMost 1 4 (checks.on_follower_check s v p term)
  most-checked_by_leader v p term =
      most-if 1 4 (nat_lt term v.node.term) _ _ (most-quiet 1 4 _ (silent-answers_leader v p false))
      (most-then 1 2 0 2 v _ (λ u. checks.follows_checker s u p) (most-raises_term v p term) (λ u. most-follows_checker u p))

  -- ---- requests

  silent-times_out : (v : View) → AreSilent (requests.times_out_exclusions s v)
  silent-times_out v = silent-append _ _ (silent-replies _) (Also _ _ refl Silent)

  most-queues : (v : View) (conn : ℕ) (request : Request) (bad : Option ℕ) → AtMost 1 2 (requests.queues s v conn request bad)
  most-queues v conn request (Some length) = most-quiet 1 2 _ (Also _ _ refl Silent)
  most-queues v conn request None = most-if 1 2 _ _ _ (most-quiet 1 2 _ (Also _ _ refl Silent)) (most-silent 1 2 _ _ refl (most-goes_on (moved s v (Notes (Queued conn request)))))

  most-line : (v : View) (conn : ℕ) (read : Result Request LineFault) → AtMost 1 2 (requests.takes_line s v conn read)
  most-line v conn (Err fault) = most-quiet 1 2 _ (Also _ _ refl Silent)
  most-line v conn (Ok request) = most-if 1 2 (doing.is_leader v.mode) _ _ (most-queues v conn request _) (most-quiet 1 2 _ (Also _ _ refl Silent))

  -- ---- events

  most-candidate : (v : View) (word : ℕ) → AtMost 1 1 (rules.ticks_candidate s v word)
  most-candidate v word =
      most-then 1 1 0 0 v _ (λ u. elections.waits_for_election s u word)
      (most-then 1 1 0 0 v _ (discovery.asks_peers s)
      (most-takes_config v (decision_of s.initial (answered_set v.finder) s.me (not (is_empty v.node.accepted.config)))) (λ u. most-quiet 0 0 _ (silent-asks_peers u)))
      (λ u. most-quiet 0 0 _ (silent-waits u word))

  most-leader : (v : View) → AtMost 1 2 (rules.ticks_leader s v)
  most-leader v =
      most-if 1 2 (rules.gives_up s v) _ _ (most-more 0 1 1 2 _ (most-becomes_candidate v) (omega arith) (omega arith))
      (most-then 0 0 1 2 v _ (next.goes_on s)
      (most-then 0 0 0 0 v _ (checks.checks_followers s) (most-quiet 0 0 _ (silent-times_out v)) (λ u. most-quiet 0 0 _ (silent-checks_followers u)))
      most-goes_on)

  most-ticks : (v : View) (word : ℕ) (m : Mode) → AtMost 3 6 (rules.ticks s v word m)
  most-ticks v word Candidate = most-more 1 1 3 6 _ (most-candidate v word) (omega arith) (omega arith)
  most-ticks v word Leader = most-more 1 2 3 6 _ (most-leader v) (omega arith) (omega arith)
  most-ticks v word (Follower leader) = most-more 0 1 3 6 _ (most-checks_leader v leader v.leader_check) (omega arith) (omega arith)

  most-message : (v : View) (p : Id) (m : WireMessage) → AtMost 3 6 (rules.takes_message s v p m)
  most-message v p (message.StartJoin candidate term) = most-more 1 2 3 6 _ (most-on_start_join v candidate term) (omega arith) (omega arith)
  most-message v p (message.Join term last) = most-joined v p term last
  most-message v p (message.Publish state) = most-more 2 5 3 6 _ (most-published_to v p state) (omega arith) (omega arith)
  most-message v p (message.Response id) = most-more 1 1 3 6 _ (most-on_response v p id) (omega arith) (omega arith)
  most-message v p (message.Commit id) = most-more 2 3 3 6 _ (most-told_commit v p id) (omega arith) (omega arith)
  most-message v p (message.JoinAsk term) = most-more 1 2 3 6 _ (most-asked_to_join v p term) (omega arith) (omega arith)
  most-message v p (message.PeersAsk known) = most-quiet 3 6 _ (Also _ _ refl (Also _ _ refl Silent))
  most-message v p (message.PeersAnswer master term known) = most-more 1 2 3 6 _ (most-told_peers v p master term known) (omega arith) (omega arith)
  most-message v p message.PreVoteAsk = most-quiet 3 6 _ (silent-pre_vote_reply v p _)
  most-message v p (message.PreVoteAnswer term last) = most-quiet 3 6 _ (silent-on_pre_vote_answer v v.round p term last)
  most-message v p (message.PreVoteRefuse leader) = most-quiet 3 6 _ (Also _ _ refl Silent)
  most-message v p (message.FollowerCheck term) = most-more 1 4 3 6 _ (most-checked_by_leader v p term) (omega arith) (omega arith)
  most-message v p (message.FollowerAnswer good term applied) = most-quiet 3 6 _ (silent-if (doing.is_leader v.mode) _ _ (Also _ _ refl Silent) Silent)
  most-message v p (message.LeaderCheck term) = most-quiet 3 6 _ (Also _ _ refl Silent)
  most-message v p (message.LeaderAnswer good) = most-quiet 3 6 _ (silent-if (doing.follows_node v.mode p) _ _ (Also _ _ refl Silent) Silent)

  most-stands_anew : (v : View) → AtMost 0 1 (disconnects.stands_anew s v)
  most-stands_anew v =
      most-then 0 1 0 0 v _ (λ u. elections.stands_for_election s u (u.node.term + 1)) (most-becomes_candidate v)
      (λ u. most-quiet 0 0 _ (silent-stands u (u.node.term + 1)))

  most-loses : (v : View) (p : Id) (m : Mode) → AtMost 1 2 (disconnects.loses s v p m)
  most-loses v p Candidate = most-quiet 1 2 _ (silent-if _ _ _ (Also _ _ refl Silent) Silent)
  most-loses v p Leader =
      most-if 1 2 _ _ _
      (most-then 0 0 1 2 v _ (disconnects.goes_on_with_rest s) (most-quiet 0 0 _ (Also _ _ refl (Also _ _ refl Silent)))
      (λ u. most-if 1 2 (disconnects.keeps_quorum s u) _ _ (most-goes_on u) (most-more 0 1 1 2 _ (most-stands_anew u) (omega arith) (omega arith))))
      (most-none 1 2)
  most-loses v p (Follower leader) = most-if 1 2 (same leader p) _ _ (most-more 0 1 1 2 _ (most-append 0 1 0 0 _ _ (most-becomes_candidate v) (most-quiet 0 0 _ (Also _ _ refl Silent))) (omega arith) (omega arith)) (most-none 1 2)

  most-next : (v : View) (event : Event) → AtMost 3 6 (rules.next_of s v event)
  most-next v Start = most-quiet 3 6 _ (Also _ _ refl (Also _ _ refl Silent))
  most-next v (Tick now word) = most-ticks v word v.mode
  most-next v (FrameCame frame) = most-if 3 6 (same frame.to s.me) _ _ (most-message v frame.from frame.message) (most-none 3 6)
  most-next v (LineCame conn line) = most-more 1 2 3 6 _ (most-line v conn (line_request line)) (omega arith) (omega arith)
  most-next v (PeerGone peer) = most-more 1 2 3 6 _ (most-loses v peer v.mode) (omega arith) (omega arith)

-- ---- events that do not come to their end

one-more : (a m : ℕ) (i : Item) (rest left : List Item) → count_acts left ≤ count_acts rest → length (deeds_of left) ≤ length (deeds_of rest) → AtMost a m (i ∷ rest) → AtMost a m (without_output i ++ left)
one-more a m (Opens found) rest left h k f = record { of_acts = omega (arith, h, f.of_acts); of_steps = omega (arith, k, f.of_steps) }
one-more a m (Begins event) rest left h k f = record { of_acts = omega (arith, h, f.of_acts); of_steps = omega (arith, k, f.of_steps) }
one-more a m (Acts act o) rest left h k f = record { of_acts = omega (arith, h, f.of_acts); of_steps = omega (arith, k, f.of_steps) }
one-more a m (ChangesMode mode term) rest left h k f = record { of_acts = omega (arith, h, f.of_acts); of_steps = omega (arith, k, f.of_steps) }
one-more a m (Drops member cause) rest left h k f = record { of_acts = omega (arith, h, f.of_acts); of_steps = omega (arith, k, f.of_steps) }
one-more a m (Sends frame) rest left h k f = record { of_acts = omega (arith, h, f.of_acts); of_steps = omega (arith, k, f.of_steps) }
one-more a m (Replies answer) rest left h k f = record { of_acts = omega (arith, h, f.of_acts); of_steps = omega (arith, k, f.of_steps) }
one-more a m (Notes note) rest left h k f = record { of_acts = omega (arith, h, f.of_acts); of_steps = omega (arith, k, f.of_steps) }

-- of what is left no more than of all
most-left : (is left : List Item) → IsStruck is left → AtMost (count_acts is) (length (deeds_of is)) left
most-left is left (Here act sends wins rest o w e) = record { of_acts = omega arith; of_steps = omega arith }
most-left is left (Later i rest left' q) =
    let h = most-left rest left' q in
    one-more (count_acts (i ∷ rest)) (length (deeds_of (i ∷ rest))) i rest left' h.of_acts h.of_steps (record { of_acts = omega arith; of_steps = omega arith })

pub event_short : (s : Settings) (v : View) (event : Event) → IsShort (rules.next_of s v event)
event_short s v event = let h = most-next s v event in record { acts = h.of_acts; deeds = h.of_steps }

pub struck_short : (s : Settings) (v : View) (event : Event) (left : List Item) → IsStruck (rules.next_of s v event) left → IsShort left
struck_short s v event left q =
    let h = most-next s v event in
    let k = most-left (rules.next_of s v event) left q in
    record { acts = omega (arith, h.of_acts, k.of_acts); deeds = omega (arith, h.of_steps, k.of_steps) }
