-- An event notes at most once that a state is made; where a value follows it is the next item, and no other value is made: in each rule.
use Rattle.std.proofs.Common.{◌≡◌, ℕ, ◌+◌, Bool, true, false, not, Option, None, Some, Result, Ok, Err, List, [], ◌∷◌, ◌++◌, refl, sym, subst}
use Rattle.std.specs.Prelude.{◌&&◌, nat_le, if◌then◌else◌}
use Rattle.voting_config.specs.Ids.{Id, same, has_room}
use Rattle.bootstrap.specs.Decisions.{decision_of}
use Rattle.cluster_state.specs.JoinCheck.{is_empty}
use Rattle.cluster_state.specs.declared.state.ClusterState.{ClusterState}
use Rattle.cluster_state.specs.declared.state.StateId.{StateId}
use Rattle.cluster_state.specs.declared.reply.LineFault.{LineFault}
use Rattle.cluster_state.specs.declared.request.Request.{Request}
use Rattle.cluster_state.specs.Puts.{bad_setting_of}
use Rattle.client_lines.specs.Reading.{line_request}
use Rattle.wire_frames.specs.declared.frame.WireMessage.{WireMessage}
use Rattle.wire_frames.specs.declared.frame.WireMessage.TheVariants as message
use Rattle.fault_checks.specs.declared.leader.LeaderTick.{LeaderTick}
use Rattle.fault_checks.specs.declared.leader.LeaderTick.TheVariants.{Quiet, Ask, Lost}
use Rattle.fault_checks.specs.Leaders.{LeaderCheck, leader_tick}
use Rattle.pre_vote.specs.Replies.{reply_to}
use Rattle.pre_vote.specs.Rounds.{Round}
use Rattle.pre_vote.specs.declared.rounds.Added.{Added}
use Rattle.pre_vote.specs.declared.rounds.Added.TheVariants.{Counted, Fresher, Quorum}
use Rattle.pre_vote.specs.declared.replies.Reply.{Reply as PreVoteReply}
use Rattle.pre_vote.specs.declared.replies.Reply.TheVariants.{Answer as PreVoteAnswer, Refused as PreVoteRefused}
use Rattle.peer_finder.specs.Peers.{answered_set}
use Rattle.master_tasks.specs.Queue.{is_full_of}
use Rattle.master_tasks.specs.NextState.{next_answers, is_nothing_new}
use Rattle.master_tasks.specs.declared.waiting.Outgoing.{Outgoing}
use Rattle.world_model.specs.declared.acts.Act.{Act}
use Rattle.world_model.specs.declared.acts.Act.TheVariants.{TakeJoin, Value, Commit}
use Rattle.world_model.specs.declared.acts.Outcome.{Outcome}
use Rattle.world_model.specs.declared.acts.Outcome.TheVariants.{Answered}
use Rattle.policy_model.specs.declared.settings.Settings.{Settings}
use Rattle.policy_model.specs.declared.events.Mode.{Mode}
use Rattle.policy_model.specs.declared.events.Mode.TheVariants.{Candidate, Leader, Follower}
use Rattle.policy_model.specs.declared.events.Event.{Event}
use Rattle.policy_model.specs.declared.events.Event.TheVariants.{Start, Tick, Frame as FrameCame, Client as LineCame, Disconnected as PeerGone}
use Rattle.policy_model.specs.declared.events.DropCause.{DropCause}
use Rattle.policy_model.specs.Events.{StateMade, Item, Acts, Notes}
use Rattle.policy_model.specs.declared.events.Mode.TheVariants.{Candidate, Leader, Follower}
use Rattle.policy_model.specs.Views.{View, master_now}
use Rattle.policy_model.specs.Moves.{moved, moved_all}
use Rattle.policy_model.specs.Doing as doing
use Rattle.policy_model.specs.NextState as next
use Rattle.policy_model.specs.Elections as elections
use Rattle.policy_model.specs.Discovery as discovery
use Rattle.policy_model.specs.Joins as joins
use Rattle.policy_model.specs.Publications as publications
use Rattle.policy_model.specs.Checks as checks
use Rattle.policy_model.specs.Requests as requests
use Rattle.policy_model.specs.Rules as rules
use Rattle.policy_model.specs.Disconnects as disconnects

abbrev pub is_noting : Item → Bool
is_noting (Acts (Value version config value) o) = true
is_noting (Notes StateMade) = true
is_noting i = false

-- items that make no value, and don't say that a state is made
pub data IsPlain : List Item → Type 0 where
  Ends : IsPlain []
  Other : (i : Item) (is : List Item) → is_noting i ≡ false → IsPlain is → IsPlain (i ∷ is)

-- of a node that is v at their beginning: at most once a state is made of what the node is; then nothing is new, or its value is made at once
pub data Noting (s : Settings) : View → List Item → Type 0 where
  Ended : (v : View) → Noting s v []
  Passed : (v : View) (i : Item) (is : List Item) → is_noting i ≡ false → Noting s (moved s v i) is → Noting s v (i ∷ is)
  Same : (v : View) (is : List Item) → IsPlain is → Noting s v (Notes StateMade ∷ is)
  Made : (v : View) (o : Outcome) (is : List Item) → IsPlain is → Noting s v (Notes StateMade ∷ Acts (next.value_act s v) o ∷ is)

p-append : (xs ys : List Item) → IsPlain xs → IsPlain ys → IsPlain (xs ++ ys)
p-append xs ys Ends r = r
p-append xs ys (Other i is e q) r = Other i (is ++ ys) e (p-append is ys q r)

p-if : (b : Bool) (xs ys : List Item) → IsPlain xs → IsPlain ys → IsPlain (if b then xs else ys)
p-if true xs ys q r = q
p-if false xs ys q r = r

p-then : (s : Settings) (v : View) (xs : List Item) (rule : View → List Item) → IsPlain xs → ((u : View) → IsPlain (rule u)) → IsPlain (doing.then_rule s v xs rule)
p-then s v xs rule q f = p-append xs _ q (f _)

p-sends : (s : Settings) (ids : List Id) (m : WireMessage) → IsPlain (doing.send_all s ids m)
p-sends s [] m = Ends
p-sends s (x ∷ xs) m = Other _ _ refl (p-sends s xs m)

p-replies : (s : Settings) (answers : List Outgoing) → IsPlain (doing.reply_all s answers)
p-replies s [] = Ends
p-replies s (x ∷ xs) = Other _ _ refl (p-replies s xs)

p-drops : (ids : List Id) (cause : DropCause) → IsPlain (checks.drop_all ids cause)
p-drops [] cause = Ends
p-drops (x ∷ xs) cause = Other _ _ refl (p-drops xs cause)

module _ (s : Settings) where
  p-becomes_candidate : (v : View) → IsPlain (doing.becomes_candidate s v)
  p-becomes_candidate v = search (p-append, p-if, p-replies, Ends, Other)

  p-becomes_candidate_once : (v : View) → IsPlain (doing.becomes_candidate_once s v)
  p-becomes_candidate_once v = search (p-if, p-becomes_candidate, Ends)

  p-on_start_join : (v : View) (c : Id) (t : ℕ) → IsPlain (doing.on_start_join s v c t)
  p-on_start_join v c t = search (p-if, p-becomes_candidate_once, Ends, Other)

  p-raises_term : (v : View) (c : Id) (t : ℕ) → IsPlain (doing.raises_term s v c t)
  p-raises_term v c t = search (p-if, p-on_start_join, Ends)

  p-becomes_follower : (v : View) (p : Id) → IsPlain (doing.becomes_follower s v p)
  p-becomes_follower v p = search (p-append, p-if, p-becomes_candidate, Ends, Other)

  p-asks_successor : (v : View) (o : Option Id) → IsPlain (next.asks_successor s v o)
  p-asks_successor v None = Ends
  p-asks_successor v (Some id) = search (p-if, p-sends, Ends)

  p-hands_over : (v : View) → IsPlain (next.hands_over s v)
  p-hands_over v = search (p-if, p-asks_successor, Ends, Other)

  p-asks_votes : (v : View) → IsPlain (next.asks_votes s v)
  p-asks_votes v = search (p-asks_successor, Other)

  -- publications
  p-accepts : (v : View) (p : Id) (state : ClusterState) → IsPlain (publications.accepts s v p state)
  p-accepts v p state = search (p-if, p-becomes_follower, Ends, Other)

  p-published_to : (v : View) (p : Id) (state : ClusterState) → IsPlain (publications.on_publish s v p state)
  p-published_to v p state = p-then s v _ (λ u. publications.accepts s u p state) (p-raises_term v p state.term) (λ u. p-accepts u p state)

  p-first_commit : (v : View) (id : StateId) → IsPlain (publications.sends_first_commit s v id)
  p-first_commit v id = p-append _ _ (p-append _ _ (p-sends s _ _) (p-replies s _)) (Other _ _ refl Ends)

  p-sends_commit : (v : View) (sent : Bool) (p : Id) (id : StateId) → IsPlain (publications.sends_commit s v sent p id)
  p-sends_commit v sent p id = search (p-if, p-first_commit, Ends, Other)

  p-on_response : (v : View) (p : Id) (id : StateId) → IsPlain (publications.on_response s v p id)
  p-on_response v p id = search (p-if, p-sends_commit, Ends, Other)

  p-answers_applied : (v : View) → IsPlain (publications.answers_applied s v)
  p-answers_applied v = p-append _ _ (p-replies s _) (Other _ _ refl Ends)

  -- discovery
  p-seeks_master : (v : View) (p : Id) (master : Option Id) (t : ℕ) → IsPlain (discovery.seeks_master s v p master t)
  p-seeks_master v p master t = search (p-if, p-on_start_join, Ends, Other)

  p-hears_peer : (v : View) (p : Id) (master : Option Id) (t : ℕ) → IsPlain (discovery.hears_peer s v p master t)
  p-hears_peer v p master t = search (p-if, p-seeks_master, Ends, Other)

  p-asks_peers : (v : View) → IsPlain (discovery.asks_peers s v)
  p-asks_peers v = search (p-if, p-sends, Ends, Other)

  -- checks
  p-checks_followers : (v : View) → IsPlain (checks.checks_followers s v)
  p-checks_followers v = search (p-append, p-drops, p-sends, Other)

  p-does_check : (v : View) (leader : Id) (t : LeaderTick) → IsPlain (checks.does_check s v leader t)
  p-does_check v leader Quiet = Ends
  p-does_check v leader Ask = Other _ _ refl Ends
  p-does_check v leader Lost = p-becomes_candidate v

  p-checks_leader : (v : View) (leader : Id) (o : Option LeaderCheck) → IsPlain (checks.checks_leader s v leader o)
  p-checks_leader v leader None = Ends
  p-checks_leader v leader (Some c) = p-then s v _ (λ u. checks.does_check s u leader (leader_tick c v.moment)) (Other _ _ refl Ends) (λ u. p-does_check u leader (leader_tick c v.moment))

  p-follows_checker : (v : View) (p : Id) → IsPlain (checks.follows_checker s v p)
  p-follows_checker v p = search (p-append, p-if, p-becomes_follower, Ends, Other)

  p-checked_by_leader : (v : View) (p : Id) (t : ℕ) → IsPlain (checks.on_follower_check s v p t)
  p-checked_by_leader v p t = search (p-append, p-if, p-raises_term, p-follows_checker, Ends, Other)

  -- elections
  p-stands_for_election : (v : View) (t : ℕ) → IsPlain (elections.stands_for_election s v t)
  p-stands_for_election v t = search (p-if, p-sends, Ends, Other)

  p-begins_round : (v : View) (word : ℕ) → IsPlain (elections.begins_round s v word)
  p-begins_round v word = search (p-append, p-if, p-sends, p-stands_for_election, Ends, Other)

  p-waits_until : (v : View) (word : ℕ) (o : Option ℕ) → IsPlain (elections.waits_until s v word o)
  p-waits_until v word None = Other _ _ refl Ends
  p-waits_until v word (Some d) = search (p-if, p-begins_round, Ends)

  p-waits_for_election : (v : View) (word : ℕ) → IsPlain (elections.waits_for_election s v word)
  p-waits_for_election v word = search (p-if, p-waits_until, Ends, Other)

  p-pre_vote_reply : (v : View) (p : Id) (r : PreVoteReply) → IsPlain (elections.pre_vote_reply s v p r)
  p-pre_vote_reply v p PreVoteAnswer = Other _ _ refl Ends
  p-pre_vote_reply v p (PreVoteRefused leader) = Other _ _ refl Ends

  p-goes_to_election : (v : View) (a : Added) → IsPlain (elections.goes_to_election s v a)
  p-goes_to_election v Counted = Ends
  p-goes_to_election v Fresher = Ends
  p-goes_to_election v (Quorum t) = p-stands_for_election v t

  p-on_pre_vote_answer : (v : View) (round : Option Round) (p : Id) (t : ℕ) (last : StateId) → IsPlain (elections.on_pre_vote_answer s v round p t last)
  p-on_pre_vote_answer v None p t last = Ends
  p-on_pre_vote_answer v (Some r) p t last = search (p-if, p-goes_to_election, Ends, Other)

  p-takes_config : (v : View) (o : Option (List Id)) → IsPlain (elections.takes_config s v o)
  p-takes_config v None = Ends
  p-takes_config v (Some config) = Other _ _ refl Ends

  -- connections that have ended
  p-stands_anew : (v : View) → IsPlain (disconnects.stands_anew s v)
  p-stands_anew v =
      p-then s v _ (λ u. elections.stands_for_election s u (u.node.term + 1)) (p-becomes_candidate v)
      (λ u. p-stands_for_election u (u.node.term + 1))

  -- ticks
  p-times_out : (v : View) → IsPlain (requests.times_out_exclusions s v)
  p-times_out v = p-append _ _ (p-replies s _) (Other _ _ refl Ends)

  p-ticks_candidate : (v : View) (word : ℕ) → IsPlain (rules.ticks_candidate s v word)
  p-ticks_candidate v word =
      p-then s v _ (λ u. elections.waits_for_election s u word)
      (p-then s v _ (discovery.asks_peers s) (p-takes_config v (decision_of s.initial (answered_set v.finder) s.me (not (is_empty v.node.accepted.config)))) p-asks_peers)
      (λ u. p-waits_for_election u word)

-- ---- the rules by which a leader goes on

plainly : (s : Settings) (v : View) (is : List Item) → IsPlain is → Noting s v is
plainly s v xs Ends = Ended v
plainly s v xs (Other i is e q) = Passed v i is e (plainly s (moved s v i) is q)

noting-append : (s : Settings) (v : View) (xs ys : List Item) → IsPlain xs → Noting s (moved_all s v xs) ys → Noting s v (xs ++ ys)
noting-append s v xs ys Ends m = m
noting-append s v xs ys (Other i is e q) m = Passed v i (is ++ ys) e (noting-append s (moved s v i) is ys q m)

noting-if : (s : Settings) (v : View) (b : Bool) (xs ys : List Item) → Noting s v xs → Noting s v ys → Noting s v (if b then xs else ys)
noting-if s v true xs ys a m = a
noting-if s v false xs ys a m = m

noting-then : (s : Settings) (v : View) (xs : List Item) (rule : View → List Item) → IsPlain xs → ((u : View) → Noting s u (rule u)) → Noting s v (doing.then_rule s v xs rule)
noting-then s v xs rule q f = noting-append s v xs (rule (moved_all s v xs)) q (f (moved_all s v xs))

past-replies : (s : Settings) (v : View) (answers : List Outgoing) → moved_all s v (doing.reply_all s answers) ≡ v
past-replies s v [] = refl
past-replies s v (x ∷ xs) = past-replies s v xs

module _ (s : Settings) where
  m-publishes : (v : View) → Noting s v (Notes StateMade ∷ next.publishes s v (moved s v (Notes StateMade)))
  m-publishes v =
      let act = next.value_act s v in
      let made = moved s v (Notes StateMade) in
      Made v (Answered (doing.reply_now s made act)) _ (p-if (doing.takes s made act) _ _ (p-sends s (next.value_now s v).members (message.Publish (next.state_now s v))) (p-becomes_candidate s (doing.after_act s made act)))

  m-made : (v : View) (b : Bool) → Noting s v (Notes StateMade ∷ (if b then [] else next.publishes s v (moved s v (Notes StateMade))))
  m-made v true = Same v [] Ends
  m-made v false = m-publishes v

  m-makes_state : (v : View) → Noting s v (next.makes_state s v)
  m-makes_state v =
      let answers = next_answers (master_now s v) v.tasks in
      noting-append s v (doing.reply_all s answers) _ (p-replies s answers)
      (subst (λ (u : View). Noting s u (Notes StateMade ∷ (if is_nothing_new (master_now s v) v.tasks then [] else next.publishes s v (moved s v (Notes StateMade))))) (sym (past-replies s v answers))
      (m-made v (is_nothing_new (master_now s v) v.tasks)))

  m-leads_on : (v : View) → Noting s v (next.leads_on s v)
  m-leads_on v = noting-if s v (next.wants_votes s v) _ _ (plainly s v _ (p-asks_votes s v)) (m-makes_state v)

  m-goes_on : (v : View) → Noting s v (next.goes_on s v)
  m-goes_on v =
      noting-if s v (doing.is_leader v.mode && not (next.is_in_flight v.publication)) _ []
      (noting-if s v (doing.may_win s v) _ _ (m-leads_on v) (plainly s v _ (p-hands_over s v))) (Ended v)

  m-leads : (v : View) → Noting s v (joins.leads s v)
  m-leads v = noting-then s v _ (next.goes_on s) (Other _ _ refl (Other _ _ refl Ends)) m-goes_on

  m-takes_member : (v : View) (p : Id) → Noting s v (joins.takes_member s v p)
  m-takes_member v p = noting-then s v _ (next.goes_on s) (Other _ _ refl Ends) m-goes_on

  m-takes_join : (v : View) (p : Id) (t : ℕ) (last : StateId) → Noting s v (joins.takes_join s v p t last)
  m-takes_join v p t last =
      let act : Act = TakeJoin (joins.join_from p s.me t last) in
      let after = doing.after_act s v act in
      noting-if s v (has_room v.node.join_votes p) _ []
      (Passed v (doing.act_now s v act) _ refl
      (noting-if s after (joins.wins_now (doing.reply_now s v act)) _ _ (m-leads after)
      (noting-if s after (doing.takes s v act && doing.is_leader after.mode) _ [] (m-takes_member after p) (Ended after))))
      (Ended v)

  m-joined : (v : View) (p : Id) (t : ℕ) (last : StateId) → Noting s v (joins.on_join s v p t last)
  m-joined v p t last =
      noting-if s v (doing.is_voting_only s s.me) [] _ (Ended v)
      (noting-then s v _ (λ u. joins.takes_join s u p t last) (p-raises_term s v s.me t) (λ u. m-takes_join u p t last))

  m-asked_to_join : (v : View) (p : Id) (t : ℕ) → Noting s v (joins.on_join_ask s v p t)
  m-asked_to_join v p t =
      noting-if s v (not (doing.is_leader v.mode)) [] _ (Ended v)
      (noting-if s v (nat_le t v.node.term) _ _ (m-takes_member v p) (plainly s v _ (p-on_start_join s v s.me t)))

  m-told_commit : (v : View) (p : Id) (id : StateId) → Noting s v (publications.on_commit s v p id)
  m-told_commit v p id =
      let act : Act = Commit (record { source = p; term = id.term; version = id.version }) in
      let after = doing.after_act s v act in
      Passed v (doing.act_now s v act) _ refl
      (noting-if s after (doing.takes s v act && doing.is_leader after.mode) _ [] (noting-then s after _ (next.goes_on s) (p-answers_applied s after) m-goes_on) (Ended after))

  m-ticks_leader : (v : View) → Noting s v (rules.ticks_leader s v)
  m-ticks_leader v =
      noting-if s v (rules.gives_up s v) _ _ (plainly s v _ (p-becomes_candidate s v))
      (noting-then s v _ (next.goes_on s) (p-then s v _ (checks.checks_followers s) (p-times_out s v) (p-checks_followers s)) m-goes_on)

  m-ticks : (v : View) (word : ℕ) (m : Mode) → Noting s v (rules.ticks s v word m)
  m-ticks v word Candidate = plainly s v _ (p-ticks_candidate s v word)
  m-ticks v word Leader = m-ticks_leader v
  m-ticks v word (Follower leader) = plainly s v _ (p-checks_leader s v leader v.leader_check)

  m-loses : (v : View) (p : Id) (m : Mode) → Noting s v (disconnects.loses s v p m)
  m-loses v p Candidate = plainly s v _ (p-if _ _ [] (Other _ _ refl Ends) Ends)
  m-loses v p Leader =
      noting-if s v _ _ []
      (noting-then s v _ (disconnects.goes_on_with_rest s) (Other _ _ refl (Other _ _ refl Ends))
      (λ u. noting-if s u (disconnects.keeps_quorum s u) _ _ (m-goes_on u) (plainly s u _ (p-stands_anew s u))))
      (Ended v)
  m-loses v p (Follower leader) = plainly s v _ (p-if (same leader p) _ [] (p-append _ _ (p-becomes_candidate s v) (Other _ _ refl Ends)) Ends)

  m-message : (v : View) (p : Id) (m : WireMessage) → Noting s v (rules.takes_message s v p m)
  m-message v p (message.StartJoin candidate t) = plainly s v _ (p-on_start_join s v candidate t)
  m-message v p (message.Join t last) = m-joined v p t last
  m-message v p (message.Publish state) = plainly s v _ (p-published_to s v p state)
  m-message v p (message.Response id) = plainly s v _ (p-on_response s v p id)
  m-message v p (message.Commit id) = m-told_commit v p id
  m-message v p (message.JoinAsk t) = m-asked_to_join v p t
  m-message v p (message.PeersAsk known) = plainly s v _ (Other _ _ refl (Other _ _ refl Ends))
  m-message v p (message.PeersAnswer master t known) =
      plainly s v _ (p-then s v _ (λ u. discovery.hears_peer s u p master t) (Other _ _ refl Ends) (λ u. p-hears_peer s u p master t))
  m-message v p message.PreVoteAsk = plainly s v _ (p-pre_vote_reply s v p (reply_to p (doing.leader_of s.me v.mode)))
  m-message v p (message.PreVoteAnswer t last) = plainly s v _ (p-on_pre_vote_answer s v v.round p t last)
  m-message v p (message.PreVoteRefuse leader) = plainly s v _ (Other _ _ refl Ends)
  m-message v p (message.FollowerCheck t) = plainly s v _ (p-checked_by_leader s v p t)
  m-message v p (message.FollowerAnswer good t applied) = plainly s v _ (p-if (doing.is_leader v.mode) _ [] (Other _ _ refl Ends) Ends)
  m-message v p (message.LeaderCheck t) = plainly s v _ (Other _ _ refl Ends)
  m-message v p (message.LeaderAnswer good) = plainly s v _ (p-if (doing.follows_node v.mode p) _ [] (Other _ _ refl Ends) Ends)

  m-queues : (v : View) (conn : ℕ) (r : Request) (o : Option ℕ) → Noting s v (requests.queues s v conn r o)
  m-queues v conn r (Some length) = plainly s v _ (Other _ _ refl Ends)
  m-queues v conn r None =
      noting-if s v (is_full_of v.tasks) _ _ (plainly s v _ (Other _ _ refl Ends)) (noting-then s v _ (next.goes_on s) (Other _ _ refl Ends) m-goes_on)

  m-line : (v : View) (conn : ℕ) (r : Result Request LineFault) → Noting s v (requests.takes_line s v conn r)
  m-line v conn (Err e) = plainly s v _ (Other _ _ refl Ends)
  m-line v conn (Ok a) = noting-if s v (doing.is_leader v.mode) _ _ (m-queues v conn a (bad_setting_of a.ask)) (plainly s v _ (Other _ _ refl Ends))

  pub noting_next : (v : View) (e : Event) → Noting s v (rules.next_of s v e)
  noting_next v Start = plainly s v _ (Other _ _ refl (Other _ _ refl Ends))
  noting_next v (Tick now word) = m-ticks v word v.mode
  noting_next v (FrameCame frame) = noting-if s v (same frame.to s.me) _ [] (m-message v frame.from frame.message) (Ended v)
  noting_next v (PeerGone peer) = m-loses v peer v.mode
  noting_next v (LineCame conn line) = m-line v conn (line_request line)
