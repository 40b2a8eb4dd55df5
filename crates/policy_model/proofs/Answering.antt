-- Each act of a rule is answered as the node's acts so far say.
use Rattle.std.proofs.Common.{ℕ, ◌+◌, Bool, true, false, not, ◌&&◌, Option, None, Some, Result, Ok, Err, List, [], ◌∷◌, ◌++◌, refl}
use Rattle.std.specs.Prelude.{if◌then◌else◌, is_some, nat_lt}
use Rattle.voting_config.specs.Ids.{Id, same, has_room}
use Rattle.bootstrap.specs.Decisions.{decision_of}
use Rattle.peer_finder.specs.Peers.{answered_set}
use Rattle.cluster_state.specs.JoinCheck.{is_empty}
use Rattle.cluster_state.specs.declared.state.ClusterState.{ClusterState}
use Rattle.cluster_state.specs.declared.state.StateId.{StateId}
use Rattle.wire_frames.specs.declared.frame.Frame.{Frame}
use Rattle.wire_frames.specs.declared.frame.WireMessage.{WireMessage}
use Rattle.wire_frames.specs.declared.frame.WireMessage.TheVariants as message
use Rattle.cluster_state.specs.declared.reply.LineFault.{LineFault}
use Rattle.cluster_state.specs.declared.request.Request.{Request}
use Rattle.client_lines.specs.Reading.{line_request}
use Rattle.pre_vote.specs.declared.rounds.Added.{Added}
use Rattle.pre_vote.specs.declared.rounds.Added.TheVariants.{Counted, Fresher, Quorum}
use Rattle.pre_vote.specs.declared.replies.Reply.{Reply as PreVoteReply}
use Rattle.pre_vote.specs.declared.replies.Reply.TheVariants.{Answer as PreVoteAnswer, Refused as PreVoteRefused}
use Rattle.pre_vote.specs.Rounds.{Round}
use Rattle.fault_checks.specs.declared.leader.LeaderTick.{LeaderTick}
use Rattle.fault_checks.specs.declared.leader.LeaderTick.TheVariants.{Quiet, Ask, Lost}
use Rattle.fault_checks.specs.Leaders.{LeaderCheck, leader_tick}
use Rattle.master_tasks.specs.declared.waiting.Outgoing.{Outgoing}
use Rattle.master_tasks.specs.Queue.{is_full_of}
use Rattle.master_tasks.specs.NextState.{next_answers, is_nothing_new}
use Rattle.world_model.specs.declared.acts.Act.{Act}
use Rattle.world_model.specs.declared.acts.Act.TheVariants.{Bootstrap, StartJoin, TakeJoin, Publish, Response, Commit}
use Rattle.policy_model.specs.declared.settings.Settings.{Settings}
use Rattle.policy_model.specs.Events.{Mode, Candidate, Leader, Follower, Event, Start, Tick, FrameCame, LineCame, PeerGone, DropCause, Item, Notes, LeaderChecked, StateMade}
use Rattle.policy_model.specs.Views.{View, master_now}
use Rattle.policy_model.specs.Moves.{moved, moved_all}
use Rattle.policy_model.specs.Doing as doing
use Rattle.policy_model.specs.NextState as next
use Rattle.policy_model.specs.Elections as elections
use Rattle.policy_model.specs.Discovery as discovery
use Rattle.policy_model.specs.Joins as joins
use Rattle.policy_model.specs.Publications as publications
use Rattle.policy_model.specs.Checks as checks
use Rattle.policy_model.specs.Requests as requests
use Rattle.policy_model.specs.Rules as rules
use Rattle.policy_model.specs.Disconnects as disconnects
use Rattle.policy_model.specs.Local.{IsAnswered, IsQuiet, Silent, Also, Ended, ByAct, ByQuiet}
use Rattle.policy_model.proofs.Sweeps.{moved_all-replies}

-- what is quiet
pub quiet-append : (xs ys : List Item) → IsQuiet xs → IsQuiet ys → IsQuiet (xs ++ ys)
quiet-append xs ys Silent r = r
quiet-append xs ys (Also i is e q) r = Also i (is ++ ys) e (quiet-append is ys q r)

pub quiet-if : (b : Bool) (xs ys : List Item) → IsQuiet xs → IsQuiet ys → IsQuiet (if b then xs else ys)
quiet-if true xs ys q r = q
quiet-if false xs ys q r = r

module _ (s : Settings) where
  pub quiet-sends : (ids : List Id) (m : WireMessage) → IsQuiet (doing.send_all s ids m)
  quiet-sends [] m = Silent
  quiet-sends (x ∷ xs) m = Also _ _ refl (quiet-sends xs m)

  pub quiet-replies : (answers : List Outgoing) → IsQuiet (doing.reply_all s answers)
  quiet-replies [] = Silent
  quiet-replies (x ∷ xs) = Also _ _ refl (quiet-replies xs)

pub quiet-drops : (ids : List Id) (cause : DropCause) → IsQuiet (checks.drop_all ids cause)
quiet-drops [] cause = Silent
quiet-drops (x ∷ xs) cause = Also _ _ refl (quiet-drops xs cause)

module _ (s : Settings) where
  -- how answered items are put together
  answered-quiet : (v : View) (is : List Item) → IsQuiet is → IsAnswered s v is
  answered-quiet v xs Silent = Ended v
  answered-quiet v xs (Also i is e q) = ByQuiet v i is e (answered-quiet (moved s v i) is q)

  answered-append : (v : View) (xs ys : List Item) → IsAnswered s v xs → IsAnswered s (moved_all s v xs) ys → IsAnswered s v (xs ++ ys)
  answered-append v xs ys (Ended u) b = b
  answered-append v xs ys (ByAct u act is e a) b = ByAct u act (is ++ ys) e (answered-append _ is ys a b)
  answered-append v xs ys (ByQuiet u i is e a) b = ByQuiet u i (is ++ ys) e (answered-append (moved s u i) is ys a b)

  answered-if : (v : View) (b : Bool) (xs ys : List Item) → IsAnswered s v xs → IsAnswered s v ys → IsAnswered s v (if b then xs else ys)
  answered-if v true xs ys q r = q
  answered-if v false xs ys q r = r

  answered-then : (v : View) (xs : List Item) (rule : View → List Item) → IsAnswered s v xs → ((u : View) → IsAnswered s u (rule u)) → IsAnswered s v (doing.then_rule s v xs rule)
  answered-then v xs rule a b = answered-append v xs (rule (moved_all s v xs)) a (b (moved_all s v xs))

  -- changes of mode
  quiet-becomes_candidate : (v : View) → IsQuiet (doing.becomes_candidate s v)
  quiet-becomes_candidate v = search (quiet-append, quiet-if, quiet-replies, Silent, Also)

  quiet-becomes_candidate_once : (v : View) → IsQuiet (doing.becomes_candidate_once s v)
  quiet-becomes_candidate_once v = search (quiet-if, quiet-becomes_candidate, Silent)

  quiet-becomes_follower : (v : View) (p : Id) → IsQuiet (doing.becomes_follower s v p)
  quiet-becomes_follower v p = search (quiet-append, quiet-if, quiet-becomes_candidate, Silent, Also)

  answered-on_start_join : (v : View) (c : Id) (t : ℕ) → IsAnswered s v (doing.on_start_join s v c t)
  answered-on_start_join v c t =
      ByAct v (StartJoin c t) _ refl (search (answered-if, answered-quiet, quiet-becomes_candidate_once, Ended, Also))

  answered-raises_term : (v : View) (c : Id) (t : ℕ) → IsAnswered s v (doing.raises_term s v c t)
  answered-raises_term v c t = search (answered-if, answered-on_start_join, Ended)

  -- the next state
  answered-publishes : (v made : View) → IsAnswered s made (next.publishes s v made)
  answered-publishes v made =
      ByAct made (next.value_act s v) _ refl (search (answered-if, answered-quiet, quiet-sends, quiet-becomes_candidate))

  answered-when_made : (v : View) (same : Bool) → IsAnswered s (moved s v (Notes StateMade)) (if same then [] else next.publishes s v (moved s v (Notes StateMade)))
  answered-when_made v same = search (answered-if, answered-publishes, Ended)

  answered-makes_state : (v : View) → IsAnswered s v (next.makes_state s v)
  answered-makes_state v =
      let answers = next_answers (master_now s v) v.tasks in
      answered-append v (doing.reply_all s answers) _ (answered-quiet v _ (quiet-replies s answers))
      (rw (moved_all-replies s v answers)
      (ByQuiet v (Notes StateMade) _ refl (answered-when_made v (is_nothing_new (master_now s v) v.tasks))))

  quiet-asks_successor : (v : View) (o : Option Id) → IsQuiet (next.asks_successor s v o)
  quiet-asks_successor v None = search (Silent)
  quiet-asks_successor v (Some id) = search (quiet-if, quiet-sends, Silent)

  quiet-hands_over : (v : View) → IsQuiet (next.hands_over s v)
  quiet-hands_over v = search (quiet-if, quiet-asks_successor, Silent, Also)

  quiet-asks_votes : (v : View) → IsQuiet (next.asks_votes s v)
  quiet-asks_votes v = search (quiet-asks_successor, Also)

  answered-leads_on : (v : View) → IsAnswered s v (next.leads_on s v)
  answered-leads_on v = answered-if v (next.wants_votes s v) _ _ (answered-quiet v _ (quiet-asks_votes v)) (answered-makes_state v)

  answered-goes_on : (v : View) → IsAnswered s v (next.goes_on s v)
  answered-goes_on v = search (answered-if, answered-leads_on, answered-quiet, quiet-hands_over, Ended)

  -- elections
  answered-takes_config : (v : View) (o : Option (List Id)) → IsAnswered s v (elections.takes_config s v o)
  answered-takes_config v None = Ended v
  answered-takes_config v (Some config) = ByAct v (Bootstrap config) _ refl (Ended _)

  answered-bootstraps : (v : View) → IsAnswered s v (elections.bootstraps s v)
  answered-bootstraps v = answered-takes_config v (decision_of s.initial (answered_set v.finder) s.me (not (is_empty v.node.accepted.config)))

  quiet-stands_for_election : (v : View) (term : ℕ) → IsQuiet (elections.stands_for_election s v term)
  quiet-stands_for_election v term = search (quiet-if, quiet-sends, Silent, Also)

  quiet-waits_until : (v : View) (word : ℕ) (o : Option ℕ) → IsQuiet (elections.waits_until s v word o)
  quiet-waits_until v word None = search (Silent, Also)
  quiet-waits_until v word (Some deadline) = search (quiet-append, quiet-if, quiet-sends, quiet-stands_for_election, Silent, Also)

  quiet-waits_for_election : (v : View) (word : ℕ) → IsQuiet (elections.waits_for_election s v word)
  quiet-waits_for_election v word = search (quiet-if, quiet-waits_until, Silent, Also)

  quiet-pre_vote_reply : (v : View) (p : Id) (r : PreVoteReply) → IsQuiet (elections.pre_vote_reply s v p r)
  quiet-pre_vote_reply v p PreVoteAnswer = Also _ _ refl Silent
  quiet-pre_vote_reply v p (PreVoteRefused leader) = Also _ _ refl Silent

  quiet-goes_to_election : (v : View) (a : Added) → IsQuiet (elections.goes_to_election s v a)
  quiet-goes_to_election v Counted = Silent
  quiet-goes_to_election v Fresher = Silent
  quiet-goes_to_election v (Quorum term) = quiet-stands_for_election v term

  quiet-on_pre_vote_answer : (v : View) (round : Option Round) (p : Id) (term : ℕ) (last : StateId) → IsQuiet (elections.on_pre_vote_answer s v round p term last)
  quiet-on_pre_vote_answer v None p term last = Silent
  quiet-on_pre_vote_answer v (Some r) p term last = search (quiet-if, quiet-goes_to_election, Silent, Also)

  -- discovery
  quiet-asks_peers : (v : View) → IsQuiet (discovery.asks_peers s v)
  quiet-asks_peers v = search (quiet-if, quiet-sends, Silent, Also)

  answered-asked_for_peers : (v : View) (p : Id) (ids : List Id) → IsAnswered s v (discovery.on_peers_ask s v p ids)
  answered-asked_for_peers v p ids = ByQuiet v _ _ refl (ByQuiet _ _ _ refl (Ended _))

  answered-seeks_master : (v : View) (p : Id) (master : Option Id) (term : ℕ) → IsAnswered s v (discovery.seeks_master s v p master term)
  answered-seeks_master v p master term = search (answered-if, answered-on_start_join, answered-quiet, Silent, Also, Ended)

  answered-hears_peer : (v : View) (p : Id) (master : Option Id) (term : ℕ) → IsAnswered s v (discovery.hears_peer s v p master term)
  answered-hears_peer v p master term =
      answered-if v (doing.is_candidate v.mode) _ _ (ByQuiet _ _ _ refl (answered-seeks_master _ p master term)) (Ended v)

  answered-told_peers : (v : View) (p : Id) (master : Option Id) (term : ℕ) (ids : List Id) → IsAnswered s v (discovery.on_peers_answer s v p master term ids)
  answered-told_peers v p master term ids = ByQuiet v _ _ refl (answered-hears_peer _ p master term)

  -- joins
  answered-leads : (v : View) → IsAnswered s v (joins.leads s v)
  answered-leads v = ByQuiet _ _ _ refl (ByQuiet _ _ _ refl (answered-goes_on _))

  answered-takes_member : (v : View) (p : Id) → IsAnswered s v (joins.takes_member s v p)
  answered-takes_member v p = ByQuiet _ _ _ refl (answered-goes_on _)

  answered-after_join : (v after : View) (act : Act) (p : Id) → IsAnswered s after (joins.after_join s v after act p)
  answered-after_join v after act p = search (answered-if, answered-leads, answered-takes_member, Ended)

  answered-takes_join : (v : View) (p : Id) (term : ℕ) (last : StateId) → IsAnswered s v (joins.takes_join s v p term last)
  answered-takes_join v p term last =
      let act : Act = TakeJoin (joins.join_from p s.me term last) in
      answered-if v (has_room v.node.join_votes p) _ _ (ByAct v act _ refl (answered-after_join v (doing.after_act s v act) act p)) (Ended v)

  answered-joined : (v : View) (p : Id) (term : ℕ) (last : StateId) → IsAnswered s v (joins.on_join s v p term last)
  answered-joined v p term last =
      answered-if v (doing.is_voting_only s s.me) _ _ (Ended v)
      (answered-then v _ (λ u. joins.takes_join s u p term last) (answered-raises_term v s.me term) (λ u. answered-takes_join u p term last))

  answered-asked_to_join : (v : View) (p : Id) (term : ℕ) → IsAnswered s v (joins.on_join_ask s v p term)
  answered-asked_to_join v p term = search (answered-if, answered-takes_member, answered-on_start_join, Ended)

  -- publications
  answered-accepts : (v : View) (p : Id) (state : ClusterState) → IsAnswered s v (publications.accepts s v p state)
  answered-accepts v p state =
      ByAct v (Publish (record { source = p; state = state })) _ refl
      (search (answered-quiet, quiet-if, quiet-becomes_follower, Silent, Also))

  answered-published_to : (v : View) (p : Id) (state : ClusterState) → IsAnswered s v (publications.on_publish s v p state)
  answered-published_to v p state =
      answered-then v _ (λ u. publications.accepts s u p state) (answered-raises_term v p state.term) (λ u. answered-accepts u p state)

  quiet-sends_commit : (v : View) (sent : Bool) (p : Id) (id : StateId) → IsQuiet (publications.sends_commit s v sent p id)
  quiet-sends_commit v sent p id = search (quiet-append, quiet-if, quiet-sends, quiet-replies, Silent, Also)

  answered-on_response : (v : View) (p : Id) (id : StateId) → IsAnswered s v (publications.on_response s v p id)
  answered-on_response v p id =
      let act : Act = Response (record { source = p; target = s.me; term = id.term; version = id.version }) in
      answered-if v (doing.is_leader v.mode && is_some v.publication && has_room v.node.publish_votes p) _ _
      (ByAct v act _ refl
      (answered-quiet _ _ (quiet-if _ _ _ (quiet-sends_commit (doing.after_act s v act) (publications.is_commit_sent v.publication) p id) Silent)))
      (Ended v)

  quiet-answers_applied : (v : View) → IsQuiet (publications.answers_applied s v)
  quiet-answers_applied v = search (quiet-append, quiet-replies, Silent, Also)

  answered-told_commit : (v : View) (p : Id) (id : StateId) → IsAnswered s v (publications.on_commit s v p id)
  answered-told_commit v p id =
      let act : Act = Commit (record { source = p; term = id.term; version = id.version }) in
      let after = doing.after_act s v act in
      ByAct v act _ refl
      (answered-if after _ _ _
      (answered-then after _ (next.goes_on s) (answered-quiet after _ (quiet-answers_applied after)) answered-goes_on) (Ended after))

  -- checks
  quiet-checks_followers : (v : View) → IsQuiet (checks.checks_followers s v)
  quiet-checks_followers v = search (quiet-append, quiet-drops, quiet-sends, Also)

  quiet-does_check : (v : View) (leader : Id) (t : LeaderTick) → IsQuiet (checks.does_check s v leader t)
  quiet-does_check v leader Quiet = Silent
  quiet-does_check v leader Ask = Also _ _ refl Silent
  quiet-does_check v leader Lost = quiet-becomes_candidate v

  quiet-checks_leader : (v : View) (leader : Id) (c : Option LeaderCheck) → IsQuiet (checks.checks_leader s v leader c)
  quiet-checks_leader v leader None = Silent
  quiet-checks_leader v leader (Some c) = Also _ _ refl (quiet-does_check (moved s v (Notes LeaderChecked)) leader (leader_tick c v.moment))

  answered-follows_checker : (v : View) (p : Id) → IsAnswered s v (checks.follows_checker s v p)
  answered-follows_checker v p =
      answered-if v (doing.is_second s) _ _ (ByQuiet _ _ _ refl (Ended _))
      (answered-if v (doing.is_leader v.mode) _ _ (ByQuiet _ _ _ refl (Ended _))
      (answered-then v _ (λ u. checks.answers_leader s u p true) (answered-quiet v _ (quiet-becomes_follower v p)) (λ u. ByQuiet _ _ _ refl (Ended _))))

  answered-checked_by_leader : (v : View) (p : Id) (term : ℕ) → IsAnswered s v (checks.on_follower_check s v p term)
  answered-checked_by_leader v p term =
      answered-if v (nat_lt term v.node.term) _ _ (ByQuiet _ _ _ refl (Ended _))
      (answered-then v _ (λ u. checks.follows_checker s u p) (answered-raises_term v p term) (λ u. answered-follows_checker u p))

  -- requests
  quiet-times_out : (v : View) → IsQuiet (requests.times_out_exclusions s v)
  quiet-times_out v = search (quiet-append, quiet-replies, Silent, Also)

  answered-queues : (v : View) (conn : ℕ) (r : Request) (o : Option ℕ) → IsAnswered s v (requests.queues s v conn r o)
  answered-queues v conn r (Some length) = ByQuiet _ _ _ refl (Ended _)
  answered-queues v conn r None =
      answered-if v (is_full_of v.tasks) _ _ (ByQuiet _ _ _ refl (Ended _)) (ByQuiet _ _ _ refl (answered-goes_on _))

  answered-takes_line : (v : View) (conn : ℕ) (r : Result Request LineFault) → IsAnswered s v (requests.takes_line s v conn r)
  answered-takes_line v conn (Err e) = ByQuiet _ _ _ refl (Ended _)
  answered-takes_line v conn (Ok r) =
      answered-if v (doing.is_leader v.mode) _ _ (answered-queues v conn r _) (ByQuiet _ _ _ refl (Ended _))

  -- ticks
  answered-ticks_candidate : (v : View) (word : ℕ) → IsAnswered s v (rules.ticks_candidate s v word)
  answered-ticks_candidate v word =
      answered-then v _ (λ u. elections.waits_for_election s u word)
      (answered-then v _ (discovery.asks_peers s) (answered-bootstraps v) (λ u. answered-quiet u _ (quiet-asks_peers u)))
      (λ u. answered-quiet u _ (quiet-waits_for_election u word))

  answered-ticks_leader : (v : View) → IsAnswered s v (rules.ticks_leader s v)
  answered-ticks_leader v =
      answered-if v (rules.gives_up s v) _ _
      (answered-quiet v _ (quiet-becomes_candidate v))
      (answered-then v _ (next.goes_on s)
      (answered-then v _ (checks.checks_followers s) (answered-quiet v _ (quiet-times_out v)) (λ u. answered-quiet u _ (quiet-checks_followers u)))
      answered-goes_on)

  answered-ticks : (v : View) (word : ℕ) (m : Mode) → IsAnswered s v (rules.ticks s v word m)
  answered-ticks v word Candidate = answered-ticks_candidate v word
  answered-ticks v word Leader = answered-ticks_leader v
  answered-ticks v word (Follower leader) = answered-quiet v _ (quiet-checks_leader v leader v.leader_check)

  -- a frame, by its message
  answered-message : (v : View) (p : Id) (m : WireMessage) → IsAnswered s v (rules.takes_message s v p m)
  answered-message v p (message.StartJoin candidate term) = answered-on_start_join v candidate term
  answered-message v p (message.Join term last) = answered-joined v p term last
  answered-message v p (message.Publish state) = answered-published_to v p state
  answered-message v p (message.Response id) = answered-on_response v p id
  answered-message v p (message.Commit id) = answered-told_commit v p id
  answered-message v p (message.JoinAsk term) = answered-asked_to_join v p term
  answered-message v p (message.PeersAsk known) = answered-asked_for_peers v p known
  answered-message v p (message.PeersAnswer master term known) = answered-told_peers v p master term known
  answered-message v p message.PreVoteAsk = answered-quiet v _ (quiet-pre_vote_reply v p _)
  answered-message v p (message.PreVoteAnswer term last) = answered-quiet v _ (quiet-on_pre_vote_answer v v.round p term last)
  answered-message v p (message.PreVoteRefuse leader) = ByQuiet _ _ _ refl (Ended _)
  answered-message v p (message.FollowerCheck term) = answered-checked_by_leader v p term
  answered-message v p (message.FollowerAnswer good term applied) = answered-quiet v _ (quiet-if (doing.is_leader v.mode) _ _ (Also _ _ refl Silent) Silent)
  answered-message v p (message.LeaderCheck term) = ByQuiet _ _ _ refl (Ended _)
  answered-message v p (message.LeaderAnswer good) = answered-quiet v _ (quiet-if (doing.follows_node v.mode p) _ _ (Also _ _ refl Silent) Silent)

  answered-frame : (v : View) (f : Frame) → IsAnswered s v (rules.takes_frame s v f)
  answered-frame v f = answered-if v (same f.to s.me) _ _ (answered-message v f.from f.message) (Ended v)

  -- a connection that has ended
  answered-stands_anew : (v : View) → IsAnswered s v (disconnects.stands_anew s v)
  answered-stands_anew v =
      answered-then v _ (λ u. elections.stands_for_election s u (u.node.term + 1)) (answered-quiet v _ (quiet-becomes_candidate v))
      (λ u. answered-quiet u _ (quiet-stands_for_election u (u.node.term + 1)))

  answered-loses : (v : View) (p : Id) (m : Mode) → IsAnswered s v (disconnects.loses s v p m)
  answered-loses v p Candidate = answered-quiet v _ (quiet-if _ _ _ (Also _ _ refl Silent) Silent)
  answered-loses v p Leader =
      answered-if v _ _ _
      (answered-then v _ (disconnects.goes_on_with_rest s) (answered-quiet v _ (Also _ _ refl (Also _ _ refl Silent)))
      (λ u. answered-if u (disconnects.keeps_quorum s u) _ _ (answered-goes_on u) (answered-stands_anew u)))
      (Ended v)
  answered-loses v p (Follower leader) = answered-if v (same leader p) _ _ (answered-quiet v _ (quiet-append _ _ (quiet-becomes_candidate v) (Also _ _ refl Silent))) (Ended v)

  -- an event
  pub answered-next : (v : View) (e : Event) → IsAnswered s v (rules.next_of s v e)
  answered-next v Start = ByQuiet _ _ _ refl (ByQuiet _ _ _ refl (Ended _))
  answered-next v (Tick now word) = answered-ticks v word v.mode
  answered-next v (FrameCame frame) = answered-frame v frame
  answered-next v (LineCame conn line) = answered-takes_line v conn (line_request line)
  answered-next v (PeerGone peer) = answered-loses v peer v.mode
