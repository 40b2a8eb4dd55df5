-- Each rule queues requests and answers those that wait, and those only.
use Rattle.std.proofs.Common.{◌≡◌, ◌∙◌, ap, sym, subst, append_assoc, ℕ, ◌+◌, Bool, true, false, not, ◌&&◌, Option, None, Some, Result, Ok, Err, List, [], ◌∷◌, ◌++◌, refl}
use Rattle.std.specs.Prelude.{if◌then◌else◌, is_some, nat_lt}
use Rattle.voting_config.specs.Ids.{Id, same, among, has_room}
use Rattle.bootstrap.specs.Decisions.{decision_of}
use Rattle.peer_finder.specs.Peers.{answered_set}
use Rattle.cluster_state.specs.JoinCheck.{is_empty}
use Rattle.cluster_state.specs.declared.state.ClusterState.{ClusterState}
use Rattle.cluster_state.specs.declared.state.StateId.{StateId}
use Rattle.wire_frames.specs.declared.frame.WireMessage.{WireMessage}
use Rattle.wire_frames.specs.declared.frame.WireMessage.TheVariants as message
use Rattle.cluster_state.specs.declared.reply.LineFault.{LineFault}
use Rattle.cluster_state.specs.declared.request.Request.{Request}
use Rattle.client_lines.specs.Reading.{line_request}
use Rattle.cluster_state.specs.Puts.{bad_setting_of}
use Rattle.cluster_state.specs.declared.reply.Answer.TheVariants as answer
use Rattle.cluster_state.specs.declared.reply.Reply.TheVariants as reply
use Rattle.master_tasks.specs.declared.waiting.Waiting.{Waiting}
use Rattle.pre_vote.specs.declared.rounds.Added.{Added}
use Rattle.pre_vote.specs.declared.rounds.Added.TheVariants.{Counted, Fresher, Quorum}
use Rattle.pre_vote.specs.declared.replies.Reply.{Reply as PreVoteReply}
use Rattle.pre_vote.specs.declared.replies.Reply.TheVariants.{Answer as PreVoteAnswer, Refused as PreVoteRefused}
use Rattle.pre_vote.specs.Rounds.{Round}
use Rattle.fault_checks.specs.declared.leader.LeaderTick.{LeaderTick}
use Rattle.fault_checks.specs.declared.leader.LeaderTick.TheVariants.{Quiet, Ask, Lost}
use Rattle.fault_checks.specs.Leaders.{LeaderCheck, leader_tick}
use Rattle.master_tasks.specs.declared.waiting.Outgoing.{Outgoing}
use Rattle.master_tasks.specs.Queue.{is_full_of}
use Rattle.master_tasks.specs.Answering.{answers_by, committed_in, failed}
use Rattle.master_tasks.specs.NextState.{next_answers, is_nothing_new}
use Rattle.world_model.specs.declared.acts.Act.{Act}
use Rattle.world_model.specs.Moves.{is_opening}
use Rattle.world_model.specs.declared.acts.Act.TheVariants.{StartJoin, TakeJoin, Publish, Response, Commit}
use Rattle.policy_model.specs.declared.settings.Settings.{Settings}
use Rattle.policy_model.specs.Events.{Mode, Candidate, Leader, Follower, Event, Start, Tick, FrameCame, LineCame, PeerGone, DropCause, Note, Item, Opens, Acts, ChangesMode, Replies, Notes, LeaderChecked, Queued, ExclusionsTimedOut, CommitAcked, AppliedAnswered, StateMade}
use Rattle.policy_model.specs.Parts.{published_id}
use Rattle.policy_model.specs.Views.{View, master_now}
use Rattle.policy_model.specs.Moves.{moved, moved_all}
use Rattle.policy_model.specs.Doing as doing
use Rattle.policy_model.specs.NextState as next
use Rattle.policy_model.specs.Elections as elections
use Rattle.policy_model.specs.Discovery as discovery
use Rattle.policy_model.specs.Joins as joins
use Rattle.policy_model.specs.Publications as publications
use Rattle.policy_model.specs.Checks as checks
use Rattle.policy_model.specs.Requests as requests
use Rattle.policy_model.specs.Rules as rules
use Rattle.policy_model.specs.Disconnects as disconnects
use Rattle.policy_model.specs.Queues.{answers_line}
use Rattle.policy_model.proofs.Sweeps.{moved_all-append, moved_all-replies, moved_all-sends}
use Rattle.policy_model.proofs.Settled.{IsStep, step-none, failed-step, next-step, committed-step, done-step, timed_out-step}

-- an item that neither queues nor answers a request that waits
abbrev pub is_aside : Item → Bool
is_aside (Opens found) = false
is_aside (Acts act o) = not (is_opening act)
is_aside (ChangesMode Candidate term) = false
is_aside (ChangesMode (Follower leader) term) = false
is_aside (Replies out) = answers_line out.reply
is_aside (Notes (Queued conn request)) = false
is_aside (Notes ExclusionsTimedOut) = false
is_aside (Notes CommitAcked) = false
is_aside (Notes AppliedAnswered) = false
is_aside (Notes StateMade) = false
is_aside i = true

-- a note after answers
abbrev pub is_answering : Note → Bool
is_answering ExclusionsTimedOut = true
is_answering CommitAcked = true
is_answering AppliedAnswered = true
is_answering StateMade = true
is_answering note = false

data AreAside : List Item → Type 0 where
  Nothing : AreAside []
  Also : (i : Item) (is : List Item) → is_aside i ≡ true → AreAside is → AreAside (i ∷ is)

-- who does not lead has no requests
abbrev pub IsIdle : View → Type 0
IsIdle v = doing.is_leader v.mode ≡ false → v.tasks.waiting ≡ []

-- of a node that is v at their beginning
pub data IsServed (s : Settings) : View → List Item → Type 0 where
  Ended : (v : View) → IsServed s v []
  Aside : (v : View) (i : Item) (is : List Item) → is_aside i ≡ true → IsServed s (moved s v i) is → IsServed s v (i ∷ is)
  Queues : (v : View) (conn : ℕ) (request : Request) (is : List Item)
      → doing.is_leader v.mode ≡ true → IsServed s (moved s v (Notes (Queued conn request))) is → IsServed s v (Notes (Queued conn request) ∷ is)
  Answers : (v : View) (answers : List Outgoing) (note : Note) (is : List Item)
      → is_answering note ≡ true → IsStep v.tasks.waiting (moved s v (Notes note)).tasks.waiting answers
      → IsServed s (moved s v (Notes note)) is → IsServed s v (doing.reply_all s answers ++ (Notes note ∷ is))
  Fails : (v : View) (answers : List Outgoing) (term : ℕ) (is : List Item)
      → (IsIdle v → IsStep v.tasks.waiting [] answers)
      → IsServed s (moved s v (ChangesMode Candidate term)) is → IsServed s v (doing.reply_all s answers ++ (ChangesMode Candidate term ∷ is))
  Follows : (v : View) (leader : Id) (term : ℕ) (is : List Item)
      → doing.is_leader v.mode ≡ false
      → IsServed s (moved s v (ChangesMode (Follower leader) term)) is → IsServed s v (ChangesMode (Follower leader) term ∷ is)

aside-append : (xs ys : List Item) → AreAside xs → AreAside ys → AreAside (xs ++ ys)
aside-append xs ys Nothing r = r
aside-append xs ys (Also i is e q) r = Also i (is ++ ys) e (aside-append is ys q r)

aside-if : (b : Bool) (xs ys : List Item) → AreAside xs → AreAside ys → AreAside (if b then xs else ys)
aside-if true xs ys q r = q
aside-if false xs ys q r = r

module _ (s : Settings) where
  aside-sends : (ids : List Id) (m : WireMessage) → AreAside (doing.send_all s ids m)
  aside-sends [] m = Nothing
  aside-sends (x ∷ xs) m = Also _ _ refl (aside-sends xs m)

aside-drops : (ids : List Id) (cause : DropCause) → AreAside (checks.drop_all ids cause)
aside-drops [] cause = Nothing
aside-drops (x ∷ xs) cause = Also _ _ refl (aside-drops xs cause)

module _ (s : Settings) where
  -- how such items are put together
  served-aside : (v : View) (is : List Item) → AreAside is → IsServed s v is
  served-aside v xs Nothing = Ended v
  served-aside v xs (Also i is e q) = Aside v i is e (served-aside (moved s v i) is q)

  behind-replies : (v : View) (answers : List Outgoing) (i : Item) (is : List Item) → moved_all s v (doing.reply_all s answers ++ (i ∷ is)) ≡ moved_all s (moved s v i) is
  behind-replies v answers i is =
      moved_all-append s v (doing.reply_all s answers) (i ∷ is) ∙ ap (λ (u : View). moved_all s u (i ∷ is)) (moved_all-replies s v answers)

  served-append : (v : View) (xs ys : List Item) → IsServed s v xs → IsServed s (moved_all s v xs) ys → IsServed s v (xs ++ ys)
  served-append v xs ys (Ended u) b = b
  served-append v xs ys (Aside u i is e a) b = Aside u i (is ++ ys) e (served-append (moved s u i) is ys a b)
  served-append v xs ys (Queues u conn request is e a) b = Queues u conn request (is ++ ys) e (served-append (moved s u (Notes (Queued conn request))) is ys a b)
  served-append v xs ys (Answers u answers note is e k a) b =
      let c = subst (λ (w : View). IsServed s w ys) (behind-replies u answers (Notes note) is) b in
      rw (append_assoc (doing.reply_all s answers) (Notes note ∷ is) ys)
      (Answers u answers note (is ++ ys) e k (served-append (moved s u (Notes note)) is ys a c))
  served-append v xs ys (Fails u answers term is k a) b =
      let c = subst (λ (w : View). IsServed s w ys) (behind-replies u answers (ChangesMode Candidate term) is) b in
      rw (append_assoc (doing.reply_all s answers) (ChangesMode Candidate term ∷ is) ys)
      (Fails u answers term (is ++ ys) k (served-append (moved s u (ChangesMode Candidate term)) is ys a c))
  served-append v xs ys (Follows u leader term is e a) b = Follows u leader term (is ++ ys) e (served-append (moved s u (ChangesMode (Follower leader) term)) is ys a b)

  served-if : (v : View) (b : Bool) (xs ys : List Item) → IsServed s v xs → IsServed s v ys → IsServed s v (if b then xs else ys)
  served-if v true xs ys q r = q
  served-if v false xs ys q r = r

  served-then : (v : View) (xs : List Item) (rule : View → List Item) → IsServed s v xs → ((u : View) → IsServed s u (rule u)) → IsServed s v (doing.then_rule s v xs rule)
  served-then v xs rule a b = served-append v xs (rule (moved_all s v xs)) a (b (moved_all s v xs))

  -- changes of mode
  served-fails : (v : View) (b : Bool) → doing.is_leader v.mode ≡ b → IsServed s v ((if b then doing.reply_all s (answers_by (failed v.leader_term) v.tasks.waiting) else []) ++ ChangesMode Candidate v.node.term ∷ [])
  served-fails v true e = Fails v (answers_by (failed v.leader_term) v.tasks.waiting) v.node.term [] (λ idle. failed-step v.leader_term v.tasks.waiting) (Ended _)
  served-fails v false e = Fails v [] v.node.term [] (λ idle. subst (λ (ws : List Waiting). IsStep ws [] []) (sym (idle e)) (step-none [])) (Ended _)

  served-becomes_candidate : (v : View) → IsServed s v (doing.becomes_candidate s v)
  served-becomes_candidate v = served-fails v (doing.is_leader v.mode) refl

  leads-no_more : (v : View) (b : Bool) (answers : List Outgoing) (term : ℕ) → doing.is_leader (moved_all s v ((if b then doing.reply_all s answers else []) ++ ChangesMode Candidate term ∷ [])).mode ≡ false
  leads-no_more v true answers term = ap (λ (u : View). doing.is_leader u.mode) (behind-replies v answers (ChangesMode Candidate term) [])
  leads-no_more v false answers term = refl

  served-becomes_candidate_once : (v : View) → IsServed s v (doing.becomes_candidate_once s v)
  served-becomes_candidate_once v = served-if v (doing.is_candidate v.mode) _ _ (Ended v) (served-becomes_candidate v)

  served-turns : (v : View) (p : Id) (b : Bool) → doing.is_leader v.mode ≡ b → IsServed s v ((if b then doing.becomes_candidate s v else []) ++ ChangesMode (Follower p) v.node.term ∷ [])
  served-turns v p true e =
      served-append v (doing.becomes_candidate s v) _ (served-becomes_candidate v)
      (Follows _ p v.node.term [] (leads-no_more v (doing.is_leader v.mode) (answers_by (failed v.leader_term) v.tasks.waiting) v.node.term) (Ended _))
  served-turns v p false e = Follows v p v.node.term [] e (Ended _)

  served-becomes_follower : (v : View) (p : Id) → IsServed s v (doing.becomes_follower s v p)
  served-becomes_follower v p = served-if v (doing.follows_node v.mode p) _ _ (Ended v) (served-turns v p (doing.is_leader v.mode) refl)

  served-on_start_join : (v : View) (c : Id) (t : ℕ) → IsServed s v (doing.on_start_join s v c t)
  served-on_start_join v c t =
      Aside v _ _ refl
      (served-if _ (doing.takes s v (StartJoin c t)) _ _ (Aside _ _ _ refl (served-becomes_candidate_once (doing.after_act s v (StartJoin c t)))) (Ended _))

  served-raises_term : (v : View) (c : Id) (t : ℕ) → IsServed s v (doing.raises_term s v c t)
  served-raises_term v c t = served-if v (nat_lt v.node.term t) _ _ (served-on_start_join v c t) (Ended v)

  -- the next state
  served-publishes : (v made : View) → IsServed s made (next.publishes s v made)
  served-publishes v made =
      Aside made _ _ refl
      (served-if _ (doing.takes s made (next.value_act s v)) _ _
      (served-aside _ _ (aside-sends s _ _)) (served-becomes_candidate (doing.after_act s made (next.value_act s v))))

  served-makes_state : (v : View) → IsServed s v (next.makes_state s v)
  served-makes_state v =
      Answers v (next_answers (master_now s v) v.tasks) StateMade _ refl (next-step (master_now s v) v.tasks)
      (served-if _ (is_nothing_new (master_now s v) v.tasks) _ _ (Ended _) (served-publishes v (moved s v (Notes StateMade))))

  aside-asks_successor : (v : View) (o : Option Id) → AreAside (next.asks_successor s v o)
  aside-asks_successor v None = Nothing
  aside-asks_successor v (Some id) = search (aside-if, aside-sends, Nothing)

  aside-hands_over : (v : View) → AreAside (next.hands_over s v)
  aside-hands_over v = search (aside-if, aside-asks_successor, Nothing, Also)

  aside-asks_votes : (v : View) → AreAside (next.asks_votes s v)
  aside-asks_votes v = search (aside-asks_successor, Also)

  served-leads_on : (v : View) → IsServed s v (next.leads_on s v)
  served-leads_on v = served-if v (next.wants_votes s v) _ _ (served-aside v _ (aside-asks_votes v)) (served-makes_state v)

  served-goes_on : (v : View) → IsServed s v (next.goes_on s v)
  served-goes_on v = search (served-if, served-leads_on, served-aside, aside-hands_over, Ended)

  -- elections
  served-takes_config : (v : View) (o : Option (List Id)) → IsServed s v (elections.takes_config s v o)
  served-takes_config v None = Ended v
  served-takes_config v (Some config) = Aside v _ _ refl (Ended _)

  served-bootstraps : (v : View) → IsServed s v (elections.bootstraps s v)
  served-bootstraps v = served-takes_config v (decision_of s.initial (answered_set v.finder) s.me (not (is_empty v.node.accepted.config)))

  aside-stands_for_election : (v : View) (term : ℕ) → AreAside (elections.stands_for_election s v term)
  aside-stands_for_election v term = search (aside-if, aside-sends, Nothing, Also)

  aside-waits_until : (v : View) (word : ℕ) (o : Option ℕ) → AreAside (elections.waits_until s v word o)
  aside-waits_until v word None = search (Nothing, Also)
  aside-waits_until v word (Some deadline) = search (aside-append, aside-if, aside-sends, aside-stands_for_election, Nothing, Also)

  aside-waits_for_election : (v : View) (word : ℕ) → AreAside (elections.waits_for_election s v word)
  aside-waits_for_election v word = search (aside-if, aside-waits_until, Nothing, Also)

  aside-pre_vote_reply : (v : View) (p : Id) (r : PreVoteReply) → AreAside (elections.pre_vote_reply s v p r)
  aside-pre_vote_reply v p PreVoteAnswer = Also _ _ refl Nothing
  aside-pre_vote_reply v p (PreVoteRefused leader) = Also _ _ refl Nothing

  aside-goes_to_election : (v : View) (a : Added) → AreAside (elections.goes_to_election s v a)
  aside-goes_to_election v Counted = Nothing
  aside-goes_to_election v Fresher = Nothing
  aside-goes_to_election v (Quorum term) = aside-stands_for_election v term

  aside-on_pre_vote_answer : (v : View) (round : Option Round) (p : Id) (term : ℕ) (last : StateId) → AreAside (elections.on_pre_vote_answer s v round p term last)
  aside-on_pre_vote_answer v None p term last = Nothing
  aside-on_pre_vote_answer v (Some r) p term last = search (aside-if, aside-goes_to_election, Nothing, Also)

  -- discovery
  aside-asks_peers : (v : View) → AreAside (discovery.asks_peers s v)
  aside-asks_peers v = search (aside-if, aside-sends, Nothing, Also)

  served-seeks_master : (v : View) (p : Id) (master : Option Id) (term : ℕ) → IsServed s v (discovery.seeks_master s v p master term)
  served-seeks_master v p master term = search (served-if, served-on_start_join, served-aside, Nothing, Also, Ended)

  served-hears_peer : (v : View) (p : Id) (master : Option Id) (term : ℕ) → IsServed s v (discovery.hears_peer s v p master term)
  served-hears_peer v p master term = served-if v (doing.is_candidate v.mode) _ _ (Aside _ _ _ refl (served-seeks_master _ p master term)) (Ended v)

  -- joins
  served-leads : (v : View) → IsServed s v (joins.leads s v)
  served-leads v = Aside _ _ _ refl (Aside _ _ _ refl (served-goes_on _))

  served-takes_member : (v : View) (p : Id) → IsServed s v (joins.takes_member s v p)
  served-takes_member v p = Aside _ _ _ refl (served-goes_on _)

  served-after_join : (v after : View) (act : Act) (p : Id) → IsServed s after (joins.after_join s v after act p)
  served-after_join v after act p = search (served-if, served-leads, served-takes_member, Ended)

  served-takes_join : (v : View) (p : Id) (term : ℕ) (last : StateId) → IsServed s v (joins.takes_join s v p term last)
  served-takes_join v p term last =
      let act : Act = TakeJoin (joins.join_from p s.me term last) in
      served-if v (has_room v.node.join_votes p) _ _ (Aside v _ _ refl (served-after_join v (doing.after_act s v act) act p)) (Ended v)

  served-joined : (v : View) (p : Id) (term : ℕ) (last : StateId) → IsServed s v (joins.on_join s v p term last)
  served-joined v p term last =
      served-if v (doing.is_voting_only s s.me) _ _ (Ended v)
      (served-then v _ (λ u. joins.takes_join s u p term last) (served-raises_term v s.me term) (λ u. served-takes_join u p term last))

  served-asked_to_join : (v : View) (p : Id) (term : ℕ) → IsServed s v (joins.on_join_ask s v p term)
  served-asked_to_join v p term = search (served-if, served-takes_member, served-on_start_join, Ended)

  -- publications
  served-accepts : (v : View) (p : Id) (state : ClusterState) → IsServed s v (publications.accepts s v p state)
  served-accepts v p state =
      let act : Act = Publish (record { source = p; state = state }) in
      Aside v _ _ refl
      (served-if _ (doing.takes s v act) _ _
      (Aside _ _ _ refl (served-if _ (same p s.me) _ _ (Ended _) (served-becomes_follower (doing.after_act s v act) p))) (Ended _))

  served-published_to : (v : View) (p : Id) (state : ClusterState) → IsServed s v (publications.on_publish s v p state)
  served-published_to v p state = served-then v _ (λ u. publications.accepts s u p state) (served-raises_term v p state.term) (λ u. served-accepts u p state)

  served-sends_first_commit : (v : View) (id : StateId) → IsServed s v (publications.sends_first_commit s v id)
  served-sends_first_commit v id =
      let ids : List Id = among (next.responders_of v.publication) (next.targets_of v.publication) in
      let answers : List Outgoing = answers_by (committed_in (published_id v.node)) v.tasks.waiting in
      rw (append_assoc (doing.send_all s ids (message.Commit id)) (doing.reply_all s answers) (Notes CommitAcked ∷ []))
      (served-append v (doing.send_all s ids (message.Commit id)) _ (served-aside v _ (aside-sends s ids (message.Commit id)))
      (rw (moved_all-sends s v ids (message.Commit id))
      (Answers v answers CommitAcked [] refl (committed-step (published_id v.node) v.tasks.waiting) (Ended _))))

  served-sends_commit : (v : View) (sent : Bool) (p : Id) (id : StateId) → IsServed s v (publications.sends_commit s v sent p id)
  served-sends_commit v sent p id = served-if v sent _ _ (Aside _ _ _ refl (Ended _)) (served-sends_first_commit v id)

  served-on_response : (v : View) (p : Id) (id : StateId) → IsServed s v (publications.on_response s v p id)
  served-on_response v p id =
      let act : Act = Response (record { source = p; target = s.me; term = id.term; version = id.version }) in
      served-if v (doing.is_leader v.mode && is_some v.publication && has_room v.node.publish_votes p) _ _
      (Aside v _ _ refl
      (served-if _ (publications.commits_now (doing.reply_now s v act)) _ _
      (served-sends_commit (doing.after_act s v act) (publications.is_commit_sent v.publication) p id) (Ended _)))
      (Ended v)

  served-answers_applied : (v : View) → IsServed s v (publications.answers_applied s v)
  served-answers_applied v =
      Answers v _ AppliedAnswered [] refl (done-step v.node.committed v.node.accepted v.tasks.waiting) (Ended _)

  served-told_commit : (v : View) (p : Id) (id : StateId) → IsServed s v (publications.on_commit s v p id)
  served-told_commit v p id =
      let act : Act = Commit (record { source = p; term = id.term; version = id.version }) in
      let after = doing.after_act s v act in
      Aside v _ _ refl
      (served-if after _ _ _ (served-then after _ (next.goes_on s) (served-answers_applied after) served-goes_on) (Ended after))

  -- checks
  aside-checks_followers : (v : View) → AreAside (checks.checks_followers s v)
  aside-checks_followers v = search (aside-append, aside-drops, aside-sends, Also)

  served-does_check : (v : View) (leader : Id) (t : LeaderTick) → IsServed s v (checks.does_check s v leader t)
  served-does_check v leader Quiet = Ended v
  served-does_check v leader Ask = Aside _ _ _ refl (Ended _)
  served-does_check v leader Lost = served-becomes_candidate v

  served-checks_leader : (v : View) (leader : Id) (c : Option LeaderCheck) → IsServed s v (checks.checks_leader s v leader c)
  served-checks_leader v leader None = Ended v
  served-checks_leader v leader (Some c) = Aside _ _ _ refl (served-does_check (moved s v (Notes LeaderChecked)) leader (leader_tick c v.moment))

  served-follows_checker : (v : View) (p : Id) → IsServed s v (checks.follows_checker s v p)
  served-follows_checker v p =
      served-if v (doing.is_second s) _ _ (Aside _ _ _ refl (Ended _))
      (served-if v (doing.is_leader v.mode) _ _ (Aside _ _ _ refl (Ended _))
      (served-then v _ (λ u. checks.answers_leader s u p true) (served-becomes_follower v p) (λ u. Aside _ _ _ refl (Ended _))))

  served-checked_by_leader : (v : View) (p : Id) (term : ℕ) → IsServed s v (checks.on_follower_check s v p term)
  served-checked_by_leader v p term =
      served-if v (nat_lt term v.node.term) _ _ (Aside _ _ _ refl (Ended _))
      (served-then v _ (λ u. checks.follows_checker s u p) (served-raises_term v p term) (λ u. served-follows_checker u p))

  -- requests
  served-times_out : (v : View) → IsServed s v (requests.times_out_exclusions s v)
  served-times_out v = Answers v _ ExclusionsTimedOut [] refl (timed_out-step v.node.committed v.moment v.tasks.waiting) (Ended _)

  served-queues : (v : View) (conn : ℕ) (r : Request) (o : Option ℕ) → doing.is_leader v.mode ≡ true → IsServed s v (requests.queues s v conn r o)
  served-queues v conn r (Some length) e = Aside _ _ _ refl (Ended _)
  served-queues v conn r None e = served-if v (is_full_of v.tasks) _ _ (Aside _ _ _ refl (Ended _)) (Queues v conn r _ e (served-goes_on _))

  served-takes_line : (v : View) (conn : ℕ) (r : Result Request LineFault) → IsServed s v (requests.takes_line s v conn r)
  served-takes_line v conn (Err e) = Aside _ _ _ refl (Ended _)
  served-takes_line v conn (Ok r) =
      elim (doing.is_leader v.mode) as (λ b. doing.is_leader v.mode ≡ b → IsServed s v (if b then requests.queues s v conn r (bad_setting_of r.ask) else requests.replies conn (reply.To r.id (answer.NotMaster (doing.leader_of s.me v.mode))))) [
        | true ↦ λ e. served-queues v conn r (bad_setting_of r.ask) e
        | false ↦ λ e. Aside _ _ _ refl (Ended _)
      ] refl

  -- ticks
  served-ticks_candidate : (v : View) (word : ℕ) → IsServed s v (rules.ticks_candidate s v word)
  served-ticks_candidate v word =
      served-then v _ (λ u. elections.waits_for_election s u word)
      (served-then v _ (discovery.asks_peers s) (served-bootstraps v) (λ u. served-aside u _ (aside-asks_peers u)))
      (λ u. served-aside u _ (aside-waits_for_election u word))

  served-ticks_leader : (v : View) → IsServed s v (rules.ticks_leader s v)
  served-ticks_leader v =
      served-if v (rules.gives_up s v) _ _ (served-becomes_candidate v)
      (served-then v _ (next.goes_on s)
      (served-then v _ (checks.checks_followers s) (served-times_out v) (λ u. served-aside u _ (aside-checks_followers u)))
      served-goes_on)

  served-ticks : (v : View) (word : ℕ) (m : Mode) → IsServed s v (rules.ticks s v word m)
  served-ticks v word Candidate = served-ticks_candidate v word
  served-ticks v word Leader = served-ticks_leader v
  served-ticks v word (Follower leader) = served-checks_leader v leader v.leader_check

  -- a frame, by its message
  served-message : (v : View) (p : Id) (m : WireMessage) → IsServed s v (rules.takes_message s v p m)
  served-message v p (message.StartJoin candidate term) = served-on_start_join v candidate term
  served-message v p (message.Join term last) = served-joined v p term last
  served-message v p (message.Publish state) = served-published_to v p state
  served-message v p (message.Response id) = served-on_response v p id
  served-message v p (message.Commit id) = served-told_commit v p id
  served-message v p (message.JoinAsk term) = served-asked_to_join v p term
  served-message v p (message.PeersAsk known) = Aside _ _ _ refl (Aside _ _ _ refl (Ended _))
  served-message v p (message.PeersAnswer master term known) = Aside v _ _ refl (served-hears_peer _ p master term)
  served-message v p message.PreVoteAsk = served-aside v _ (aside-pre_vote_reply v p _)
  served-message v p (message.PreVoteAnswer term last) = served-aside v _ (aside-on_pre_vote_answer v v.round p term last)
  served-message v p (message.PreVoteRefuse leader) = Aside _ _ _ refl (Ended _)
  served-message v p (message.FollowerCheck term) = served-checked_by_leader v p term
  served-message v p (message.FollowerAnswer good term applied) = served-if v (doing.is_leader v.mode) _ _ (Aside _ _ _ refl (Ended _)) (Ended v)
  served-message v p (message.LeaderCheck term) = Aside _ _ _ refl (Ended _)
  served-message v p (message.LeaderAnswer good) = served-if v (doing.follows_node v.mode p) _ _ (Aside _ _ _ refl (Ended _)) (Ended v)

  -- a connection that has ended
  served-stands_anew : (v : View) → IsServed s v (disconnects.stands_anew s v)
  served-stands_anew v =
      served-then v _ (λ u. elections.stands_for_election s u (u.node.term + 1)) (served-becomes_candidate v)
      (λ u. served-aside u _ (aside-stands_for_election u (u.node.term + 1)))

  served-loses : (v : View) (p : Id) (m : Mode) → IsServed s v (disconnects.loses s v p m)
  served-loses v p Candidate = served-if v _ _ _ (Aside _ _ _ refl (Ended _)) (Ended v)
  served-loses v p Leader =
      let after : View = moved_all s v (disconnects.drops_follower s p) in
      served-if v _ _ _
      (Aside _ _ _ refl (Aside _ _ _ refl (served-if after (disconnects.keeps_quorum s after) _ _ (served-goes_on after) (served-stands_anew after))))
      (Ended v)
  served-loses v p (Follower leader) = served-if v (same leader p) _ _ (served-append v _ _ (served-becomes_candidate v) (Aside _ _ _ refl (Ended _))) (Ended v)

  -- an event
  pub served-next : (v : View) (e : Event) → IsServed s v (rules.next_of s v e)
  served-next v Start = Aside _ _ _ refl (Aside _ _ _ refl (Ended _))
  served-next v (Tick now word) = served-ticks v word v.mode
  served-next v (FrameCame f) = served-if v (same f.to s.me) _ _ (served-message v f.from f.message) (Ended v)
  served-next v (LineCame conn line) = served-takes_line v conn (line_request line)
  served-next v (PeerGone peer) = served-loses v peer v.mode
