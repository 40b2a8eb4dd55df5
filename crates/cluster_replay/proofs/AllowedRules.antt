-- Each item of each rule is allowed.
use Rattle.std.proofs.Common.{arith, ◌+◌, ◌≤◌, ◌≡◌, ◌≢◌, ℕ, Bool, true, false, not, ◌&&◌, Option, None, Some, Result, Ok, Err, List, [], ◌∷◌, ◌++◌, refl, sym, subst, length}
use Rattle.std.specs.Prelude.{if◌then◌else◌, cond, find, is_some, nat_le, nat_lt, IfSome}
use Rattle.std.specs.List.{list_all, Contains}
use Rattle.std.proofs.lemmas.Bool.{and_parts, and_from}
use Rattle.std.proofs.lemmas.Bool.Decides.{nat_tests}
use Rattle.voting_config.proofs.Kept.{list_all-filter}
use Rattle.voting_config.proofs.Sorted.{list_all-without_id}
use Rattle.election_clock.specs.Delays.{is_due}
use Rattle.cluster_state.specs.Field.{last_number}
use Rattle.publication.specs.Publications.{Publication}
use Rattle.pre_vote.specs.Replies.{reply_to}
use Rattle.voting_config.specs.Ids.{Id, is_id, has, same, with_id, is_quorum_of, most_ids, IsIdSet, among, has_room}
use Rattle.bootstrap.specs.Decisions.{decision_of}
use Rattle.fault_checks.specs.Followers.{ids_of as follower_ids}
use Rattle.peer_finder.specs.Peers.{answered_set, free_set, known_set}
use Rattle.cluster_state.specs.Fields.{ids as ids_field}
use Rattle.cluster_state.specs.JoinCheck.{is_empty}
use Rattle.cluster_state.specs.States.{id_of, state as state_field}
use Rattle.cluster_state.proofs.Fitting.{fits_ids}
use Rattle.cluster_state.specs.declared.state.ClusterState.{ClusterState}
use Rattle.cluster_state.specs.declared.state.StateId.{StateId}
use Rattle.wire_frames.specs.declared.frame.Frame.{Frame}
use Rattle.wire_frames.specs.declared.frame.WireMessage.{WireMessage as FrameMessage}
use Rattle.wire_frames.specs.declared.frame.WireMessage.TheVariants as message
use Rattle.cluster_state.specs.declared.reply.LineFault.{LineFault}
use Rattle.cluster_state.specs.declared.request.Request.{Request}
use Rattle.client_lines.specs.Reading.{line_request}
use Rattle.cluster_state.specs.Puts.{bad_setting_of}
use Rattle.pre_vote.specs.declared.rounds.Added.{Added}
use Rattle.pre_vote.specs.declared.rounds.Added.TheVariants.{Counted, Fresher, Quorum}
use Rattle.pre_vote.specs.declared.replies.Reply.{Reply as PreVoteReply}
use Rattle.pre_vote.specs.declared.replies.Reply.TheVariants.{Answer as PreVoteAnswer, Refused as PreVoteRefused}
use Rattle.pre_vote.specs.Rounds.{Round}
use Rattle.fault_checks.specs.declared.leader.LeaderTick.{LeaderTick}
use Rattle.fault_checks.specs.declared.leader.LeaderTick.TheVariants.{Quiet, Ask, Lost}
use Rattle.fault_checks.specs.Leaders.{LeaderCheck, leader_tick}
use Rattle.master_tasks.specs.declared.waiting.Outgoing.{Outgoing}
use Rattle.master_tasks.specs.Queue.{is_full_of}
use Rattle.master_tasks.specs.NextState.{next_answers, is_nothing_new}
use Rattle.world_model.specs.declared.acts.Act.{Act}
use Rattle.world_model.specs.declared.acts.Act.TheVariants.{Bootstrap, StartJoin, TakeJoin, Publish, Response, Commit}
use Rattle.world_model.specs.declared.acts.Message.{Message}
use Rattle.world_model.specs.declared.acts.Message.TheVariants.{Join as JoinMessage, Publish as PublishMessage, Response as ResponseMessage, Commit as CommitMessage}
use Rattle.world_model.specs.declared.acts.Outcome.TheVariants.{Answered}
use Rattle.voting_config.proofs.Sets.{same_is}
use Rattle.policy_model.specs.declared.settings.Settings.{Settings}
use Rattle.policy_model.specs.declared.events.Mode.{Mode}
use Rattle.policy_model.specs.declared.events.Mode.TheVariants.{Candidate, Leader, Follower}
use Rattle.policy_model.specs.declared.events.Event.{Event}
use Rattle.policy_model.specs.declared.events.Event.TheVariants.{Start, Tick, Frame as FrameCame, Client as LineCame, Disconnected as PeerGone}
use Rattle.policy_model.specs.declared.events.DropCause.{DropCause}
use Rattle.policy_model.specs.declared.events.DropCause.TheVariants.{Checks, Lag, Disconnect}
use Rattle.policy_model.specs.Events.{Note, Met, Heard, HandedOver, PeerLost, RoundEnded, RoundBegun, RoundAnswered, ElectionSet, ElectionOff, PeersAsked, AppliedAnswered, FollowersChecked, ExclusionsTimedOut, Joined, Queued, LeaderChecked, StateMade, CommitAcked, Item, ChangesMode, Drops, Sends, Replies, Notes}
use Rattle.policy_model.specs.Views.{View, master_now}
use Rattle.policy_model.specs.Moves.{moved, moved_all, noted, mode_changed}
use Rattle.policy_model.specs.Doing as doing
use Rattle.policy_model.specs.NextState as next
use Rattle.policy_model.specs.Elections as elections
use Rattle.policy_model.specs.Discovery as discovery
use Rattle.policy_model.specs.Joins as joins
use Rattle.policy_model.specs.Publications as publications
use Rattle.policy_model.specs.Checks as checks
use Rattle.policy_model.specs.Requests as requests
use Rattle.policy_model.specs.Rules as rules
use Rattle.policy_model.specs.Disconnects as disconnects
use Rattle.cluster_replay.proofs.NextFits.{IsGoodAsk, IsGoodRequest, next-value-fits, next-config-fits}
use Rattle.system_laws.proofs.Meant.{Covers, sent_after, covers-after}
use Rattle.system_laws.proofs.Sending.{known, start-sends, value-sends, publish-sends, response-sends}
use Rattle.cluster_replay.proofs.Fits.{each-with_id}
use Rattle.cluster_replay.proofs.Naming.{AllIds, NamedView, NamesMaster, NamesMessage, NamesMode, NamesPublication, all-free, all-known, id-among, peers-met, some-followers}
use Rattle.cluster_replay.proofs.Allowing.{members-fit, FitView, FitNote, IsGoodFrame, IsSentBy, IsAllowed, Ended, ByAct, BySend, ByReply, ByTurn, ByDrop, ByNote, fit-acted, fit-mode_changed, fit-noted, fit-moved, allowed-append}

-- ---- items that neither act nor change what may be sent or kept

abbrev is_plain : FrameMessage → Bool
is_plain (message.Join term last) = false
is_plain (message.Publish state) = false
is_plain (message.Response id) = false
is_plain (message.Commit id) = false
is_plain m = true

abbrev is_plain_note : Note → Bool
is_plain_note (Met ids) = false
is_plain_note (Joined ids) = false
is_plain_note (Queued conn request) = false
is_plain_note n = true

data IsCalm (s : Settings) : List Item → Type 0 where
  Silent : IsCalm s []
  Saying : (to : Id) (m : FrameMessage) (is : List Item) → is_plain m ≡ true → is_id to ≡ true → NamesMessage m → IsCalm s is → IsCalm s (Sends (record { from = s.me; to = to; message = m }) ∷ is)
  Replying : (answer : Outgoing) (is : List Item) → IsCalm s is → IsCalm s (Replies answer ∷ is)
  Turning : (mode : Mode) (term : ℕ) (is : List Item) → NamesMode mode → IsCalm s is → IsCalm s (ChangesMode mode term ∷ is)
  Dropping : (member : Id) (cause : DropCause) (is : List Item) → is_id member ≡ true → IsCalm s is → IsCalm s (Drops member cause ∷ is)
  Meeting : (ids : List Id) (is : List Item) → AllIds ids → IsCalm s is → IsCalm s (Notes (Met ids) ∷ is)
  Noting : (note : Note) (is : List Item) → is_plain_note note ≡ true → IsCalm s is → IsCalm s (Notes note ∷ is)

plain-sent : (ms : List Message) (from to : Id) (m : FrameMessage) → is_plain m ≡ true → IsSentBy ms from to m
plain-sent ms from to (message.Join term last) e = absurd (cc)
plain-sent ms from to (message.Publish state) e = absurd (cc)
plain-sent ms from to (message.Response id) e = absurd (cc)
plain-sent ms from to (message.Commit id) e = absurd (cc)
plain-sent ms from to m e = tt

plain-fits : (n : Note) → is_plain_note n ≡ true → FitNote n
plain-fits (Met ids) e = absurd (cc)
plain-fits (Joined ids) e = absurd (cc)
plain-fits (Queued conn request) e = absurd (cc)
plain-fits n e = tt

calm-append : (s : Settings) (xs ys : List Item) → IsCalm s xs → IsCalm s ys → IsCalm s (xs ++ ys)
calm-append s xs ys Silent r = r
calm-append s xs ys (Saying to m is e h n q) r = Saying to m (is ++ ys) e h n (calm-append s is ys q r)
calm-append s xs ys (Replying answer is q) r = Replying answer (is ++ ys) (calm-append s is ys q r)
calm-append s xs ys (Turning mode term is n q) r = Turning mode term (is ++ ys) n (calm-append s is ys q r)
calm-append s xs ys (Dropping member cause is n q) r = Dropping member cause (is ++ ys) n (calm-append s is ys q r)
calm-append s xs ys (Meeting ids is n q) r = Meeting ids (is ++ ys) n (calm-append s is ys q r)
calm-append s xs ys (Noting note is e q) r = Noting note (is ++ ys) e (calm-append s is ys q r)

calm-if : (s : Settings) (b : Bool) (xs ys : List Item) → IsCalm s xs → IsCalm s ys → IsCalm s (if b then xs else ys)
calm-if s true xs ys q r = q
calm-if s false xs ys q r = r

allowed-calm : (s : Settings) (ms : List Message) (v : View) (is : List Item) → IsCalm s is → IsAllowed s ms v is
allowed-calm s ms v xs Silent = Ended ms v
allowed-calm s ms v xs (Saying to m is e h n q) = BySend ms v to m is h n (plain-sent ms s.me to m e) (allowed-calm s ms v is q)
allowed-calm s ms v xs (Replying answer is q) = ByReply ms v answer is (allowed-calm s ms v is q)
allowed-calm s ms v xs (Turning mode term is n q) = ByTurn ms v mode term is n (allowed-calm s ms (mode_changed v mode term) is q)
allowed-calm s ms v xs (Meeting ids is n q) = ByNote ms v (Met ids) is n (allowed-calm s ms (noted s v (Met ids)) is q)
allowed-calm s ms v xs (Dropping member cause is n q) = ByDrop ms v member cause is n (allowed-calm s ms (moved s v (Drops member cause)) is q)
allowed-calm s ms v xs (Noting note is e q) = ByNote ms v note is (plain-fits note e) (allowed-calm s ms (noted s v note) is q)

module _ (s : Settings) where
  calm-sends : (ids : List Id) (m : FrameMessage) → is_plain m ≡ true → AllIds ids → NamesMessage m → IsCalm s (doing.send_all s ids m)
  calm-sends [] m e h n = Silent
  calm-sends (x ∷ xs) m e h n = let parts = and_parts (is_id x) (list_all is_id xs) h in Saying x m _ e parts.0 n (calm-sends xs m e parts.1 n)

  calm-replies : (answers : List Outgoing) → IsCalm s (doing.reply_all s answers)
  calm-replies [] = Silent
  calm-replies (x ∷ xs) = Replying x _ (calm-replies xs)

  calm-drops : (ids : List Id) (cause : DropCause) → AllIds ids → IsCalm s (checks.drop_all ids cause)
  calm-drops [] cause h = Silent
  calm-drops (x ∷ xs) cause h = let parts = and_parts (is_id x) (list_all is_id xs) h in Dropping x cause _ parts.0 (calm-drops xs cause parts.1)

  calm-when : (b : Bool) (xs ys : List Item) → (b ≡ true → IsCalm s xs) → IsCalm s ys → IsCalm s (if b then xs else ys)
  calm-when true xs ys f r = f refl
  calm-when false xs ys f r = r

  -- changes of mode
  calm-becomes_candidate : (v : View) → IsCalm s (doing.becomes_candidate s v)
  calm-becomes_candidate v = calm-append s _ _ (calm-if s (doing.is_leader v.mode) _ [] (calm-replies _) Silent) (Turning Candidate v.node.term [] tt Silent)

  calm-becomes_candidate_once : (v : View) → IsCalm s (doing.becomes_candidate_once s v)
  calm-becomes_candidate_once v = calm-if s (doing.is_candidate v.mode) [] _ Silent (calm-becomes_candidate v)

  calm-becomes_follower : (v : View) (p : Id) → is_id p ≡ true → IsCalm s (doing.becomes_follower s v p)
  calm-becomes_follower v p h =
      calm-if s (doing.follows_node v.mode p) [] _ Silent
      (calm-append s _ _ (calm-if s (doing.is_leader v.mode) _ [] (calm-becomes_candidate v) Silent) (Turning (Follower p) v.node.term [] h Silent))

  -- a term after this one, where it is within the limits
  within : (term : ℕ) → nat_le term last_number ≡ true → term ≤ last_number
  within term e = grind (arith, nat_tests)

  -- hand-over
  calm-asks_successor : (v : View) (o : Option Id) → AllIds (next.targets_of v.publication) → IfSome o (λ (id : Id). is_id id ≡ true) → IsCalm s (next.asks_successor s v o)
  calm-asks_successor v None h n = Silent
  calm-asks_successor v (Some id) h n = calm-when (nat_le (v.node.term + 1) last_number) _ [] (λ e. calm-sends _ (message.StartJoin id (v.node.term + 1)) refl h (n, within (v.node.term + 1) e)) Silent

  targets-named : (o : Option Publication) → NamesPublication o → AllIds (next.targets_of o)
  targets-named None n = refl
  targets-named (Some p) n = n.0

  responders-named : (o : Option Publication) → NamesPublication o → AllIds (next.responders_of o)
  responders-named None n = refl
  responders-named (Some p) n = n.1

  found-named : (q : Id → Bool) (xs : List Id) → AllIds xs → IfSome (find q xs) (λ (id : Id). is_id id ≡ true)
  found-named q [] h = tt
  found-named q (x ∷ xs) h =
      let parts = and_parts (is_id x) (list_all is_id xs) h in
      elim (q x) as (λ b. IfSome (cond b (Some x) (find q xs)) (λ (id : Id). is_id id ≡ true)) [ true ↦ parts.0 | false ↦ found-named q xs parts.1 ]

  calm-hands_over : (v : View) → NamedView v → IsCalm s (next.hands_over s v)
  calm-hands_over v n =
      calm-if s (is_due v.handover_due v.moment) _ []
      (Noting HandedOver _ refl (calm-asks_successor v _ (targets-named v.publication n.publication) (found-named _ (next.responders_of v.publication) (responders-named v.publication n.publication)))) Silent

  -- elections
  module _ (mine : is_id s.me ≡ true) where
    calm-asks_votes : (v : View) → NamedView v → IsCalm s (next.asks_votes s v)
    calm-asks_votes v n = Noting HandedOver _ refl (calm-asks_successor v (Some s.me) (targets-named v.publication n.publication) mine)

    all-peers : (v : View) → NamedView v → AllIds (with_id s.me (known_set v.finder))
    all-peers v n = each-with_id is_id s.me (known_set v.finder) mine (all-known v.finder n.peers)

    calm-stands_for_election : (v : View) (term : ℕ) → NamedView v → IsCalm s (elections.stands_for_election s v term)
    calm-stands_for_election v term n =
        Noting RoundEnded _ refl (calm-when (nat_le term last_number) _ [] (λ e. calm-sends _ (message.StartJoin s.me term) refl (all-peers v n) (mine, within term e)) Silent)

    calm-begins_round : (v : View) (word : ℕ) → NamedView v → IsCalm s (elections.begins_round s v word)
    calm-begins_round v word n =
        Noting (RoundBegun word) _ refl
        (calm-append s _ _ (calm-sends _ message.PreVoteAsk refl (list_all-without_id is_id s.me (elections.free_nodes s v) (each-with_id is_id s.me (free_set v.finder) mine (all-free v.finder n.peers))) tt)
        (calm-if s _ _ [] (calm-stands_for_election v (v.node.term + 1) n) Silent))

    calm-waits_until : (v : View) (word : ℕ) (o : Option ℕ) → NamedView v → IsCalm s (elections.waits_until s v word o)
    calm-waits_until v word None n = Noting (ElectionSet word) [] refl Silent
    calm-waits_until v word (Some deadline) n = calm-if s _ _ [] (calm-begins_round v word n) Silent

    calm-waits_for_election : (v : View) (word : ℕ) → NamedView v → IsCalm s (elections.waits_for_election s v word)
    calm-waits_for_election v word n = calm-if s _ _ _ (calm-waits_until v word v.deadline n) (Noting ElectionOff [] refl Silent)

    leader-named : (m : Mode) → NamesMode m → NamesMaster (doing.leader_of s.me m)
    leader-named Candidate n = tt
    leader-named Leader n = mine
    leader-named (Follower leader) n = n

    abbrev NamesReply : PreVoteReply → Type 0
    NamesReply PreVoteAnswer = Unit {0}
    NamesReply (PreVoteRefused leader) = is_id leader ≡ true

    reply-named : (p : Id) (o : Option Id) → NamesMaster o → NamesReply (reply_to p o)
    reply-named p None n = tt
    reply-named p (Some leader) n = elim (same leader p) as (λ b. NamesReply (if b then PreVoteAnswer else PreVoteRefused leader)) [ true ↦ tt | false ↦ n ]

    calm-pre_vote_reply : (v : View) (p : Id) (r : PreVoteReply) → is_id p ≡ true → NamesReply r → IsCalm s (elections.pre_vote_reply s v p r)
    calm-pre_vote_reply v p PreVoteAnswer h n = Saying p _ [] refl h tt Silent
    calm-pre_vote_reply v p (PreVoteRefused leader) h n = Saying p _ [] refl h n Silent

    calm-goes_to_election : (v : View) (a : Added) → NamedView v → IsCalm s (elections.goes_to_election s v a)
    calm-goes_to_election v Counted n = Silent
    calm-goes_to_election v Fresher n = Silent
    calm-goes_to_election v (Quorum term) n = calm-stands_for_election v term n

    calm-on_pre_vote_answer : (v : View) (round : Option Round) (p : Id) (term : ℕ) (last : StateId) → NamedView v → IsCalm s (elections.on_pre_vote_answer s v round p term last)
    calm-on_pre_vote_answer v None p term last n = Silent
    calm-on_pre_vote_answer v (Some r) p term last n = calm-if s _ _ [] (Noting (RoundAnswered p term last) _ refl (calm-goes_to_election v _ n)) Silent

    -- discovery
    calm-asks_peers : (v : View) → NamedView v → IsCalm s (discovery.asks_peers s v)
    calm-asks_peers v n =
        let known = all-known v.finder n.peers in
        calm-if s (is_due v.finder.due v.moment) _ [] (Noting PeersAsked _ refl (calm-sends (known_set v.finder) (message.PeersAsk (known_set v.finder)) refl known known)) Silent

    calm-asked_for_peers : (v : View) (p : Id) (ids : List Id) → NamedView v → is_id p ≡ true → AllIds ids → IsCalm s (discovery.on_peers_ask s v p ids)
    calm-asked_for_peers v p ids n h all =
        let met : AllIds (p ∷ ids) = and_from (is_id p) (list_all is_id ids) h all in
        let u : View = noted s v (Met (p ∷ ids)) in
        Meeting (p ∷ ids) _ met (Saying p _ [] refl h (leader-named v.mode n.mode, n.term, each-with_id is_id s.me (known_set u.finder) mine (all-known u.finder (peers-met v.finder (p ∷ ids) n.peers met))) Silent)

  -- publications
  calm-answers_applied : (v : View) → IsCalm s (publications.answers_applied s v)
  calm-answers_applied v = calm-append s _ _ (calm-replies _) (Noting AppliedAnswered [] refl Silent)

  -- checks
  calm-checks_followers : (v : View) → NamedView v → IsCalm s (checks.checks_followers s v)
  calm-checks_followers v n =
      calm-append s _ _ (calm-append s _ _ (calm-drops _ Checks (some-followers _ v.followers.watched n.watched)) (calm-drops _ Lag (some-followers _ v.followers.watched n.watched)))
      (Noting FollowersChecked _ refl (calm-sends _ (message.FollowerCheck v.node.term) refl (some-followers _ v.followers.watched n.watched) n.term))

  calm-does_check : (v : View) (leader : Id) (t : LeaderTick) → is_id leader ≡ true → IsCalm s (checks.does_check s v leader t)
  calm-does_check v leader Quiet h = Silent
  calm-does_check v leader Ask h = Saying leader _ [] refl h tt Silent
  calm-does_check v leader Lost h = calm-becomes_candidate v

  calm-checks_leader : (v : View) (leader : Id) (c : Option LeaderCheck) → is_id leader ≡ true → IsCalm s (checks.checks_leader s v leader c)
  calm-checks_leader v leader None h = Silent
  calm-checks_leader v leader (Some c) h = Noting LeaderChecked _ refl (calm-does_check (moved s v (Notes LeaderChecked)) leader (leader_tick c v.moment) h)

  calm-answers_leader : (v : View) (p : Id) (good : Bool) → is_id p ≡ true → IsCalm s (checks.answers_leader s v p good)
  calm-answers_leader v p good h = Saying p _ [] refl h tt Silent

  calm-follows_checker : (v : View) (p : Id) → is_id p ≡ true → IsCalm s (checks.follows_checker s v p)
  calm-follows_checker v p h =
      calm-if s (doing.is_second s) _ _ (calm-answers_leader v p (doing.follows_node v.mode p) h)
      (calm-if s (doing.is_leader v.mode) _ _ (calm-answers_leader v p false h)
      (calm-append s (doing.becomes_follower s v p) _ (calm-becomes_follower v p h) (calm-answers_leader (moved_all s v (doing.becomes_follower s v p)) p true h)))

  -- requests
  calm-times_out : (v : View) → IsCalm s (requests.times_out_exclusions s v)
  calm-times_out v = calm-append s _ _ (calm-replies _) (Noting ExclusionsTimedOut [] refl Silent)

-- the first configuration is the initial names, among which the node is

decided : (t : Bool) (names config : List Id) → (if t then Some names else None) ≡ Some config → (t ≡ true) × (names ≡ config)
decided true names config e = let same_names : names ≡ config = cc in (refl, same_names)
decided false names config e = absurd (cc)

named : (me : Id) (names : List Id) → has me names ≡ true → names ≢ []
named me [] h e = absurd (cc)
named me (x ∷ xs) h e = cc

-- ---- the rules

module _ (s : Settings) (mine : is_id s.me ≡ true) (initial : IsIdSet s.initial) where
  allowed-when : (ms : List Message) (v : View) (b : Bool) (xs ys : List Item) → (b ≡ true → IsAllowed s ms v xs) → IsAllowed s ms v ys → IsAllowed s ms v (if b then xs else ys)
  allowed-when ms v true xs ys f g = f refl
  allowed-when ms v false xs ys f g = g

  allowed-then : (ms : List Message) (v : View) (xs : List Item) (rule : View → List Item) → FitView v → IsAllowed s ms v xs
      → ((u : View) (ns : List Message) → FitView u → Covers ms ns → IsAllowed s ns u (rule u)) → IsAllowed s ms v (doing.then_rule s v xs rule)
  allowed-then ms v xs rule f a b = allowed-append s ms v xs (rule (moved_all s v xs)) a (b (moved_all s v xs) (sent_after ms xs) (fit-moved s ms v xs a f) (covers-after ms xs))

  allowed-replies : (ms : List Message) (v : View) (answers : List Outgoing) (ys : List Item) → IsAllowed s ms v ys → IsAllowed s ms v (doing.reply_all s answers ++ ys)
  allowed-replies ms v [] ys a = a
  allowed-replies ms v (x ∷ xs) ys a = ByReply ms v x _ (allowed-replies ms v xs ys a)

  allowed-sends : (ms : List Message) (v : View) (ids : List Id) (m : FrameMessage) → AllIds ids → NamesMessage m → ((to : Id) → IsSentBy ms s.me to m) → IsAllowed s ms v (doing.send_all s ids m)
  allowed-sends ms v [] m h n k = Ended ms v
  allowed-sends ms v (x ∷ xs) m h n k = let parts = and_parts (is_id x) (list_all is_id xs) h in BySend ms v x m _ parts.0 n (k x) (allowed-sends ms v xs m parts.1 n k)

  allowed-on_start_join : (ms : List Message) (v : View) (c : Id) (t : ℕ) → is_id c ≡ true → t ≤ last_number → IsAllowed s ms v (doing.on_start_join s v c t)
  allowed-on_start_join ms v c t h few =
      ByAct ms v (StartJoin c t) _ refl tt (h, few)
      (allowed-when _ _ (doing.takes s v (StartJoin c t)) _ []
      (λ e. BySend _ _ c (message.Join t (id_of v.node.accepted)) _ h few (known ms _ _ (start-sends s.me v.node c t e)) (allowed-calm s _ _ _ (calm-becomes_candidate_once s (doing.after_act s v (StartJoin c t)))))
      (Ended _ _))

  allowed-raises_term : (ms : List Message) (v : View) (c : Id) (t : ℕ) → is_id c ≡ true → t ≤ last_number → IsAllowed s ms v (doing.raises_term s v c t)
  allowed-raises_term ms v c t h few = allowed-when ms v (nat_lt v.node.term t) _ [] (λ e. allowed-on_start_join ms v c t h few) (Ended ms v)

  -- the next state
  allowed-publishes : (ms : List Message) (v : View) → FitView v → IsAllowed s ms (moved s v (Notes StateMade)) (next.publishes s v (moved s v (Notes StateMade)))
  allowed-publishes ms v f =
      ByAct ms (moved s v (Notes StateMade)) (next.value_act s v) _ refl tt
      (next-config-fits (master_now s v) v.tasks mine f.node.accepted f.tasks, next-value-fits (master_now s v) v.tasks mine f.node.accepted f.tasks, omega (arith, f.names.version))
      (allowed-when _ _ (doing.takes s (moved s v (Notes StateMade)) (next.value_act s v)) _ _
      (λ e. allowed-sends _ _ (next.value_now s v).members (message.Publish (next.state_now s v)) (members-fit (next.value_now s v) (next-value-fits (master_now s v) v.tasks mine f.node.accepted f.tasks)) tt (λ to. known ms _ _ (value-sends s.me v.node _ _ _ e)))
      (allowed-calm s _ _ _ (calm-becomes_candidate s (doing.after_act s (moved s v (Notes StateMade)) (next.value_act s v)))))

  allowed-makes_state : (ms : List Message) (v : View) → FitView v → IsAllowed s ms v (next.makes_state s v)
  allowed-makes_state ms v f =
      allowed-replies ms v (next_answers (master_now s v) v.tasks) _
      (ByNote ms v StateMade _ tt
      (allowed-when ms (moved s v (Notes StateMade)) (is_nothing_new (master_now s v) v.tasks) [] _ (λ e. Ended _ _) (allowed-publishes ms v f)))

  allowed-leads_on : (ms : List Message) (v : View) → FitView v → IsAllowed s ms v (next.leads_on s v)
  allowed-leads_on ms v f = allowed-when ms v (next.wants_votes s v) _ _ (λ e. allowed-calm s ms v _ (calm-asks_votes s mine v f.names)) (allowed-makes_state ms v f)

  allowed-goes_on : (ms : List Message) (v : View) → FitView v → IsAllowed s ms v (next.goes_on s v)
  allowed-goes_on ms v f =
      allowed-when ms v _ _ [] (λ e. allowed-when ms v (doing.may_win s v) _ _ (λ d. allowed-leads_on ms v f) (allowed-calm s ms v _ (calm-hands_over s v f.names))) (Ended ms v)

  -- elections
  allowed-takes_config : (ms : List Message) (v : View) (o : Option (List Id)) → ((config : List Id) → o ≡ Some config → (has s.me s.initial ≡ true) × (s.initial ≡ config)) → IsAllowed s ms v (elections.takes_config s v o)
  allowed-takes_config ms v None d = Ended ms v
  allowed-takes_config ms v (Some config) d =
      let is = d config refl in
      ByAct ms v (Bootstrap config) _ refl (sym is.1, named s.me s.initial is.0) (subst (λ (c : List Id). (ids_field most_ids).Fits c) is.1 (fits_ids most_ids s.initial initial initial.fits)) (Ended _ _)

  allowed-bootstraps : (ms : List Message) (v : View) → IsAllowed s ms v (elections.bootstraps s v)
  allowed-bootstraps ms v =
      allowed-takes_config ms v (decision_of s.initial (answered_set v.finder) s.me (not (is_empty v.node.accepted.config)))
      (λ config e.
      let d = decided (not (not (is_empty v.node.accepted.config)) && has s.me s.initial && is_quorum_of s.initial (with_id s.me (answered_set v.finder))) s.initial config e in
      let a = and_parts (not (not (is_empty v.node.accepted.config)) && has s.me s.initial) (is_quorum_of s.initial (with_id s.me (answered_set v.finder))) d.0 in
      let b = and_parts (not (not (is_empty v.node.accepted.config))) (has s.me s.initial) a.0 in
      (b.1, d.1))

  -- discovery
  allowed-seeks_master : (ms : List Message) (v : View) (p : Id) (master : Option Id) (term : ℕ) → FitView v → is_id p ≡ true → term ≤ last_number → IsAllowed s ms v (discovery.seeks_master s v p master term)
  allowed-seeks_master ms v p master term f h few =
      allowed-when ms v (discovery.is_node master p) _ []
      (λ e. allowed-when ms v (nat_lt v.node.term term) _ _ (λ d. allowed-on_start_join ms v p term h few) (BySend ms v p _ _ h f.names.term tt (Ended ms v))) (Ended ms v)

  allowed-hears_peer : (ms : List Message) (v : View) (p : Id) (master : Option Id) (term : ℕ) → FitView v → is_id p ≡ true → term ≤ last_number → IsAllowed s ms v (discovery.hears_peer s v p master term)
  allowed-hears_peer ms v p master term f h few =
      allowed-when ms v (doing.is_candidate v.mode) _ [] (λ e. ByNote ms v (Heard p master) _ tt (allowed-seeks_master ms _ p master term (fit-noted s v (Heard p master) f tt) h few)) (Ended ms v)

  allowed-told_peers : (ms : List Message) (v : View) (p : Id) (master : Option Id) (term : ℕ) (ids : List Id) → FitView v → is_id p ≡ true → term ≤ last_number → AllIds ids → IsAllowed s ms v (discovery.on_peers_answer s v p master term ids)
  allowed-told_peers ms v p master term ids f h few all =
      let met : AllIds (p ∷ ids) = and_from (is_id p) (list_all is_id ids) h all in
      ByNote ms v (Met (p ∷ ids)) _ met (allowed-hears_peer ms _ p master term (fit-noted s v (Met (p ∷ ids)) f met) h few)

  -- joins
  allowed-leads : (ms : List Message) (v : View) → FitView v → IsAllowed s ms v (joins.leads s v)
  allowed-leads ms v f =
      let all : list_all is_id (s.me ∷ v.node.join_votes) ≡ true = and_from (is_id s.me) (list_all is_id v.node.join_votes) mine f.node.votes.each in
      let g : FitView (mode_changed v Leader v.node.term) = fit-mode_changed v Leader v.node.term f tt in
      ByTurn ms v Leader v.node.term _ tt (ByNote ms _ (Joined (s.me ∷ v.node.join_votes)) _ all (allowed-goes_on ms _ (fit-noted s (mode_changed v Leader v.node.term) (Joined (s.me ∷ v.node.join_votes)) g all)))

  allowed-takes_member : (ms : List Message) (v : View) (p : Id) → FitView v → is_id p ≡ true → IsAllowed s ms v (joins.takes_member s v p)
  allowed-takes_member ms v p f h =
      let all : list_all is_id (p ∷ []) ≡ true = and_from (is_id p) true h refl in
      ByNote ms v (Joined (p ∷ [])) _ all (allowed-goes_on ms _ (fit-noted s v (Joined (p ∷ [])) f all))

  allowed-after_join : (ms : List Message) (v after : View) (act : Act) (p : Id) → FitView after → is_id p ≡ true → IsAllowed s ms after (joins.after_join s v after act p)
  allowed-after_join ms v after act p f h =
      allowed-when ms after _ _ _ (λ e. allowed-leads ms after f) (allowed-when ms after _ _ [] (λ e. allowed-takes_member ms after p f h) (Ended ms after))

  allowed-takes_join : (ms : List Message) (v : View) (p : Id) (term : ℕ) (last : StateId) → FitView v → is_id p ≡ true → Contains ms (JoinMessage (joins.join_from p s.me term last)) → IsAllowed s ms v (joins.takes_join s v p term last)
  allowed-takes_join ms v p term last f h sent =
      let act : Act = TakeJoin (joins.join_from p s.me term last) in
      allowed-when ms v (has_room v.node.join_votes p) _ []
      (λ e. ByAct ms v act _ refl sent (h, e) (allowed-after_join _ v (doing.after_act s v act) act p (fit-acted s v act (Answered (doing.reply_now s v act)) f (h, e)) h)) (Ended ms v)

  allowed-joined : (ms : List Message) (v : View) (p : Id) (term : ℕ) (last : StateId) → FitView v → is_id p ≡ true → term ≤ last_number → Contains ms (JoinMessage (joins.join_from p s.me term last)) → IsAllowed s ms v (joins.on_join s v p term last)
  allowed-joined ms v p term last f h few sent =
      allowed-when ms v (doing.is_voting_only s s.me) [] _ (λ e. Ended ms v)
      (allowed-then ms v _ (λ u. joins.takes_join s u p term last) f (allowed-raises_term ms v s.me term mine few) (λ u ns g c. allowed-takes_join ns u p term last g h (c _ sent)))

  allowed-asked_to_join : (ms : List Message) (v : View) (p : Id) (term : ℕ) → FitView v → is_id p ≡ true → term ≤ last_number → IsAllowed s ms v (joins.on_join_ask s v p term)
  allowed-asked_to_join ms v p term f h few =
      allowed-when ms v _ [] _ (λ e. Ended ms v) (allowed-when ms v _ _ _ (λ e. allowed-takes_member ms v p f h) (allowed-on_start_join ms v s.me term mine few))

  -- publications
  allowed-accepts : (ms : List Message) (v : View) (p : Id) (state : ClusterState) → FitView v → is_id p ≡ true → state_field.Fits state → Contains ms (PublishMessage (record { source = p; state = state })) → IsAllowed s ms v (publications.accepts s v p state)
  allowed-accepts ms v p state f h fit sent =
      let act : Act = Publish (record { source = p; state = state }) in
      ByAct ms v act _ refl sent fit
      (allowed-when _ _ (doing.takes s v act) _ []
      (λ e. BySend _ _ p (message.Response (id_of state)) _ h tt (known ms _ _ (publish-sends s.me v.node p state e))
      (allowed-calm s _ _ _ (calm-if s (same p s.me) [] _ Silent (calm-becomes_follower s (doing.after_act s v act) p h))))
      (Ended _ _))

  allowed-published_to : (ms : List Message) (v : View) (p : Id) (state : ClusterState) → FitView v → is_id p ≡ true → state_field.Fits state → Contains ms (PublishMessage (record { source = p; state = state })) → IsAllowed s ms v (publications.on_publish s v p state)
  allowed-published_to ms v p state f h fit sent =
      allowed-then ms v _ (λ u. publications.accepts s u p state) f (allowed-raises_term ms v p state.term h fit.0.0.0.0) (λ u ns g c. allowed-accepts ns u p state g h fit (c _ sent))

  allowed-first_commit : (ms : List Message) (v : View) (id : StateId) → FitView v → Contains ms (CommitMessage (record { source = s.me; term = id.term; version = id.version })) → IsAllowed s ms v (publications.sends_first_commit s v id)
  allowed-first_commit ms v id f sent =
      allowed-append s ms v _ (Notes CommitAcked ∷ [])
      (allowed-append s ms v _ _ (allowed-sends ms v (among (next.responders_of v.publication) (next.targets_of v.publication)) (message.Commit id) (list_all-filter is_id _ (next.responders_of v.publication) (responders-named s v.publication f.names.publication)) tt (λ to. sent)) (allowed-calm s _ _ _ (calm-replies s _)))
      (allowed-calm s _ _ _ (Noting CommitAcked [] refl Silent))

  allowed-sends_commit : (ms : List Message) (v : View) (before : Bool) (p : Id) (id : StateId) → FitView v → is_id p ≡ true → Contains ms (CommitMessage (record { source = s.me; term = id.term; version = id.version })) → IsAllowed s ms v (publications.sends_commit s v before p id)
  allowed-sends_commit ms v before p id f h sent = allowed-when ms v before _ _ (λ e. BySend ms v p (message.Commit id) _ h tt sent (Ended ms v)) (allowed-first_commit ms v id f sent)

  allowed-on_response : (ms : List Message) (v : View) (p : Id) (id : StateId) → FitView v → is_id p ≡ true → Contains ms (ResponseMessage (record { source = p; target = s.me; term = id.term; version = id.version })) → IsAllowed s ms v (publications.on_response s v p id)
  allowed-on_response ms v p id f there sent =
      let act : Act = Response (record { source = p; target = s.me; term = id.term; version = id.version }) in
      allowed-when ms v (doing.is_leader v.mode && is_some v.publication && has_room v.node.publish_votes p) _ []
      (λ h. ByAct ms v act _ refl sent there
      (allowed-when _ _ (publications.commits_now (doing.reply_now s v act)) _ []
      (λ e. allowed-sends_commit _ (doing.after_act s v act) (publications.is_commit_sent v.publication) p id (fit-acted s v act (Answered (doing.reply_now s v act)) f there) there (known ms _ _ (response-sends s.me v.node p id e)))
      (Ended _ _)))
      (Ended ms v)

  allowed-told_commit : (ms : List Message) (v : View) (p : Id) (id : StateId) → FitView v → Contains ms (CommitMessage (record { source = p; term = id.term; version = id.version })) → IsAllowed s ms v (publications.on_commit s v p id)
  allowed-told_commit ms v p id f sent =
      let act : Act = Commit (record { source = p; term = id.term; version = id.version }) in
      let after = doing.after_act s v act in
      ByAct ms v act _ refl sent tt
      (allowed-when _ after _ _ []
      (λ e. allowed-then _ after _ (next.goes_on s) (fit-acted s v act (Answered (doing.reply_now s v act)) f tt) (allowed-calm s _ after _ (calm-answers_applied s after)) (λ u ns g c. allowed-goes_on ns u g))
      (Ended _ _))

  -- checks
  allowed-checked_by_leader : (ms : List Message) (v : View) (p : Id) (term : ℕ) → FitView v → is_id p ≡ true → term ≤ last_number → IsAllowed s ms v (checks.on_follower_check s v p term)
  allowed-checked_by_leader ms v p term f h few =
      allowed-when ms v (nat_lt term v.node.term) _ _ (λ e. allowed-calm s ms v _ (calm-answers_leader s v p false h))
      (allowed-then ms v _ (λ u. checks.follows_checker s u p) f (allowed-raises_term ms v p term h few) (λ u ns g c. allowed-calm s ns u _ (calm-follows_checker s u p h)))

  -- requests
  allowed-queues : (ms : List Message) (v : View) (conn : ℕ) (r : Request) (o : Option ℕ) → FitView v → IsGoodAsk r.ask → bad_setting_of r.ask ≡ o → IsAllowed s ms v (requests.queues s v conn r o)
  allowed-queues ms v conn r (Some length) f good e = ByReply ms v _ _ (Ended ms v)
  allowed-queues ms v conn r None f good e =
      let fit : IsGoodRequest r = record { good = good; short = e } in
      allowed-when ms v (is_full_of v.tasks) _ _ (λ e. ByReply ms v _ _ (Ended ms v)) (ByNote ms v (Queued conn r) _ fit (allowed-goes_on ms _ (fit-noted s v (Queued conn r) f fit)))

  allowed-takes_line : (ms : List Message) (v : View) (conn : ℕ) (r : Result Request LineFault) → FitView v → ((request : Request) → r ≡ Ok request → IsGoodAsk request.ask) → IsAllowed s ms v (requests.takes_line s v conn r)
  allowed-takes_line ms v conn (Err e) f good = ByReply ms v _ _ (Ended ms v)
  allowed-takes_line ms v conn (Ok r) f good =
      allowed-when ms v (doing.is_leader v.mode) _ _ (λ e. allowed-queues ms v conn r (bad_setting_of r.ask) f (good r refl) refl) (ByReply ms v _ _ (Ended ms v))

  -- ticks
  allowed-ticks_candidate : (ms : List Message) (v : View) (word : ℕ) → FitView v → IsAllowed s ms v (rules.ticks_candidate s v word)
  allowed-ticks_candidate ms v word f =
      allowed-then ms v _ (λ u. elections.waits_for_election s u word) f
      (allowed-then ms v _ (discovery.asks_peers s) f (allowed-bootstraps ms v) (λ u ns g c. allowed-calm s ns u _ (calm-asks_peers s mine u g.names)))
      (λ u ns g c. allowed-calm s ns u _ (calm-waits_for_election s mine u word g.names))

  allowed-ticks_leader : (ms : List Message) (v : View) → FitView v → IsAllowed s ms v (rules.ticks_leader s v)
  allowed-ticks_leader ms v f =
      allowed-when ms v (rules.gives_up s v) _ _
      (λ e. allowed-calm s ms v _ (calm-becomes_candidate s v))
      (allowed-then ms v _ (next.goes_on s) f
      (allowed-then ms v _ (checks.checks_followers s) f (allowed-calm s ms v _ (calm-times_out s v)) (λ u ns g c. allowed-calm s ns u _ (calm-checks_followers s u g.names)))
      (λ u ns g c. allowed-goes_on ns u g))

  allowed-ticks : (ms : List Message) (v : View) (word : ℕ) (m : Mode) → FitView v → NamesMode m → IsAllowed s ms v (rules.ticks s v word m)
  allowed-ticks ms v word Candidate f n = allowed-ticks_candidate ms v word f
  allowed-ticks ms v word Leader f n = allowed-ticks_leader ms v f
  allowed-ticks ms v word (Follower leader) f n = allowed-calm s ms v _ (calm-checks_leader s v leader v.leader_check n)

  -- a frame from a node, by its message
  record MayTake (ms : List Message) (p : Id) (m : FrameMessage) : Type 0 where
    pub from : is_id p ≡ true
    pub names : NamesMessage m
    pub sent : IsSentBy ms p s.me m
    pub fit : (state : ClusterState) → m ≡ message.Publish state → state_field.Fits state

  allowed-message : (ms : List Message) (v : View) (p : Id) (m : FrameMessage) → FitView v → MayTake ms p m → IsAllowed s ms v (rules.takes_message s v p m)
  allowed-message ms v p (message.StartJoin candidate term) f t = allowed-on_start_join ms v candidate term t.names.0 t.names.1
  allowed-message ms v p (message.Join term last) f t = allowed-joined ms v p term last f t.from t.names t.sent
  allowed-message ms v p (message.Publish state) f t = allowed-published_to ms v p state f t.from (t.fit state refl) t.sent
  allowed-message ms v p (message.Response id) f t = allowed-on_response ms v p id f t.from t.sent
  allowed-message ms v p (message.Commit id) f t = allowed-told_commit ms v p id f t.sent
  allowed-message ms v p (message.JoinAsk term) f t = allowed-asked_to_join ms v p term f t.from t.names
  allowed-message ms v p (message.PeersAsk known) f t = allowed-calm s ms v _ (calm-asked_for_peers s mine v p known f.names t.from t.names)
  allowed-message ms v p (message.PeersAnswer master term known) f t = allowed-told_peers ms v p master term known f t.from t.names.1 t.names.2
  allowed-message ms v p message.PreVoteAsk f t = allowed-calm s ms v _ (calm-pre_vote_reply s mine v p _ t.from (reply-named s mine p (doing.leader_of s.me v.mode) (leader-named s mine v.mode f.names.mode)))
  allowed-message ms v p (message.PreVoteAnswer term last) f t = allowed-calm s ms v _ (calm-on_pre_vote_answer s mine v v.round p term last f.names)
  allowed-message ms v p (message.PreVoteRefuse leader) f t = ByNote ms v (Met (leader ∷ [])) _ (and_from (is_id leader) true t.names refl) (Ended ms _)
  allowed-message ms v p (message.FollowerCheck term) f t = allowed-checked_by_leader ms v p term f t.from t.names
  allowed-message ms v p (message.FollowerAnswer good term applied) f t = allowed-when ms v (doing.is_leader v.mode) _ [] (λ e. ByNote ms v _ _ tt (Ended ms _)) (Ended ms v)
  allowed-message ms v p (message.LeaderCheck term) f t = BySend ms v p _ _ t.from tt tt (Ended ms v)
  allowed-message ms v p (message.LeaderAnswer good) f t = allowed-when ms v (doing.follows_node v.mode p) _ [] (λ e. ByNote ms v _ _ tt (Ended ms _)) (Ended ms v)

  -- connections that have ended
  allowed-stands_anew : (ms : List Message) (v : View) → FitView v → IsAllowed s ms v (disconnects.stands_anew s v)
  allowed-stands_anew ms v f =
      allowed-then ms v _ (λ u. elections.stands_for_election s u (u.node.term + 1)) f (allowed-calm s ms v _ (calm-becomes_candidate s v))
      (λ u ns g c. allowed-calm s ns u _ (calm-stands_for_election s mine u (u.node.term + 1) g.names))

  allowed-loses : (ms : List Message) (v : View) (p : Id) (m : Mode) → FitView v → IsAllowed s ms v (disconnects.loses s v p m)
  allowed-loses ms v p Candidate f = allowed-calm s ms v _ (calm-if s _ _ [] (Noting (PeerLost p) [] refl Silent) Silent)
  allowed-loses ms v p Leader f =
      allowed-when ms v (has p (follower_ids v.followers.watched)) _ []
      (λ e. allowed-then ms v (disconnects.drops_follower s p) (disconnects.goes_on_with_rest s) f
      (allowed-calm s ms v _ (Dropping p Disconnect _ (id-among p (follower_ids v.followers.watched) f.names.watched e) (Noting (PeerLost p) [] refl Silent)))
      (λ u ns g c. allowed-when ns u (disconnects.keeps_quorum s u) _ _ (λ d. allowed-goes_on ns u g) (allowed-stands_anew ns u g)))
      (Ended ms v)
  allowed-loses ms v p (Follower leader) f =
      allowed-calm s ms v _ (calm-if s (same leader p) _ [] (calm-append s _ _ (calm-becomes_candidate s v) (Noting _ [] refl Silent)) Silent)

-- what a node may be handed, when these messages were sent
abbrev pub MayCome : List Message → Event → Type 0
MayCome ms Start = Unit {0}
MayCome ms (Tick now word) = Unit {0}
MayCome ms (FrameCame frame) = IsGoodFrame ms frame × ((state : ClusterState) → frame.message ≡ message.Publish state → state_field.Fits state)
MayCome ms (PeerGone peer) = Unit {0}
MayCome ms (LineCame conn line) = (request : Request) → line_request line ≡ Ok request → IsGoodAsk request.ask

module _ (s : Settings) (mine : is_id s.me ≡ true) (peers : AllIds s.peers) (initial : IsIdSet s.initial) where
  allowed-frame : (ms : List Message) (v : View) (frame : Frame) → FitView v → MayCome ms (FrameCame frame) → IsAllowed s ms v (rules.takes_frame s v frame)
  allowed-frame ms v frame f t =
      allowed-when s mine initial ms v (same frame.to s.me) _ []
      (λ e. allowed-message s mine initial ms v frame.from frame.message f
      (record { from = t.0.from; names = t.0.names; sent = subst (λ (to : Id). IsSentBy ms frame.from to frame.message) (same_is frame.to s.me e) t.0.sent; fit = t.1 }))
      (Ended ms v)

  -- an event
  pub allowed-next : (ms : List Message) (v : View) (e : Event) → FitView v → MayCome ms e → IsAllowed s ms v (rules.next_of s v e)
  allowed-next ms v Start f t = ByNote ms v (Met s.peers) _ peers (ByNote ms _ (Met v.node.accepted.value.members) _ (members-fit v.node.accepted.value f.node.accepted.value) (Ended ms _))
  allowed-next ms v (Tick now word) f t = allowed-ticks s mine initial ms v word v.mode f f.names.mode
  allowed-next ms v (FrameCame frame) f t = allowed-frame ms v frame f t
  allowed-next ms v (PeerGone peer) f t = allowed-loses s mine initial ms v peer v.mode f
  allowed-next ms v (LineCame conn line) f t = allowed-takes_line s mine initial ms v conn (line_request line) f t
