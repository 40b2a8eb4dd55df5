-- Each rule tells of places what is so, and leaves the node as it should stand between events, by the second profile.
use Rattle.std.proofs.Common.{◌≡◌, ◌≢◌, ℕ, ◌+◌, Bool, true, false, true≢false, not, ◌&&◌, Option, None, Some, Result, Ok, Err, List, [], ◌∷◌, ◌++◌, refl, sym, ◌∙◌, ap, subst}
use Rattle.std.specs.Prelude.{is_some, is_none, nat_le, nat_lt, if◌then◌else◌}
use Rattle.std.proofs.lemmas.Bool.{both_ways, and_parts}
use Rattle.voting_config.specs.Ids.{Id, has, same, among, has_room}
use Rattle.bootstrap.specs.Decisions.{decision_of}
use Rattle.cluster_state.specs.JoinCheck.{is_empty}
use Rattle.cluster_state.specs.declared.messages.ApplyCommit.{ApplyCommit}
use Rattle.cluster_state.specs.declared.messages.Join.{Join}
use Rattle.cluster_state.specs.declared.reply.Answer.{Answer}
use Rattle.cluster_state.specs.declared.reply.LineFault.{LineFault}
use Rattle.cluster_state.specs.declared.request.Ask.{Ask}
use Rattle.cluster_state.specs.declared.request.Ask.TheVariants as ask
use Rattle.cluster_state.specs.declared.request.Request.{Request}
use Rattle.cluster_state.specs.declared.state.ClusterState.{ClusterState}
use Rattle.cluster_state.specs.declared.state.StateId.{StateId}
use Rattle.cluster_state.specs.Puts.{bad_setting_of}
use Rattle.cluster_state.specs.States.{id_of}
use Rattle.client_lines.specs.Reading.{line_request}
use Rattle.wire_frames.specs.declared.frame.WireMessage.{WireMessage}
use Rattle.wire_frames.specs.declared.frame.WireMessage.TheVariants as message
use Rattle.fault_checks.specs.declared.leader.LeaderTick.{LeaderTick}
use Rattle.fault_checks.specs.declared.leader.LeaderTick.TheVariants.{Quiet, Ask as AskLeader, Lost}
use Rattle.fault_checks.specs.Leaders.{LeaderCheck, leader_tick}
use Rattle.fault_checks.specs.Followers.{ids_of}
use Rattle.pre_vote.specs.Replies.{reply_to}
use Rattle.peer_finder.specs.Peers.{answered_set, answer_in}
use Rattle.master_tasks.specs.Queue.{is_full_of, arriving}
use Rattle.master_tasks.specs.Answering.{answers_by, left_by, committed_in, applied_in, timed_out, if_late, excluded_by, answer_applied}
use Rattle.master_tasks.specs.declared.waiting.Waiting.{Waiting}
use Rattle.world_model.specs.declared.acts.Act.{Act}
use Rattle.world_model.specs.declared.acts.Act.TheVariants.{TakeJoin, Publish, Response, Commit}
use Rattle.world_model.specs.declared.acts.ActReply.{ActReply}
use Rattle.world_model.specs.declared.acts.ActReply.TheVariants.{Taken, Refused, Stopped}
use Rattle.world_model.specs.declared.acts.Outcome.TheVariants.{Answered}
use Rattle.world_model.specs.Histories.{History}
use Rattle.policy_model.specs.declared.settings.Settings.{Settings}
use Rattle.policy_model.specs.declared.events.Mode.{Mode}
use Rattle.policy_model.specs.declared.events.Mode.TheVariants.{Candidate, Leader, Follower}
use Rattle.policy_model.specs.declared.events.Event.{Event}
use Rattle.policy_model.specs.declared.events.Event.TheVariants.{Start, Tick, Frame as FrameCame, Client as LineCame, Disconnected as PeerGone}
use Rattle.policy_model.specs.Events.{Acts, Notes, LeaderChecked, Queued, ExclusionsTimedOut, CommitAcked, AppliedAnswered, Met, Heard, PeerLost, LeaderLost, FollowerAnswered, LeaderAnswered}
use Rattle.policy_model.specs.Parts.{published_id}
use Rattle.policy_model.specs.Views.{View}
use Rattle.policy_model.specs.Moves.{moved}
use Rattle.policy_model.specs.Doing as doing
use Rattle.policy_model.specs.NextState as next
use Rattle.policy_model.specs.Elections as elections
use Rattle.policy_model.specs.Discovery as discovery
use Rattle.policy_model.specs.Joins as joins
use Rattle.policy_model.specs.Publications as publications
use Rattle.policy_model.specs.Checks as checks
use Rattle.policy_model.specs.Requests as requests
use Rattle.policy_model.specs.Rules as rules
use Rattle.policy_model.specs.Disconnects as disconnects
use Rattle.client_guarantees.proofs.Backing.{HasCommittedId, TakesCommit, IsUnique}
use Rattle.client_guarantees.proofs.Leading.{won-join, stands-waiting}
use Rattle.client_guarantees.proofs.Folding.{Each, each-last}
use Rattle.client_guarantees.proofs.Holding.{each-left}
use Rattle.client_guarantees.proofs.Answers.{left_none}
use Rattle.client_guarantees.proofs.Steady.{Standing, standing, steady-sends, steady-stands_for_election, steady-waits_for_election, steady-pre_vote_reply, steady-on_pre_vote_answer, steady-asks_peers, steady-checks_followers}
use Rattle.linearizability.proofs.Putting.{Tag, Takes, AllPlaced, WasPut, Puts, landed, TellsOption, placed-answers, tells-if, placed-committed_in, placed-applied_in, Safe, safe-append, safe-then, safe-if, safe-answers, safe-replies, safe-steady, Stays, GoesOn}
use Rattle.linearizability.proofs.Leaving.{Commits, idle-stays, ready-stays, stays-waiting, stays-publish, stays-response, stays-join, stays-commit, commits-commit, safe-becomes_candidate, safe-becomes_follower, safe-on_start_join, safe-raises_term}
use Rattle.linearizability.proofs.Going.{safe-goes_on, safe-leads, safe-takes_member}

-- ---- reads wait no longer than their state is in flight

-- a request that waits on once the commit is taken is none for the state, or was not processed
no_read : (committed : List Id) (accepted : ClusterState) (w : Waiting) → is_none (applied_in committed accepted w) ≡ true → w.processed ≡ true → w.request.ask ≢ ask.State
no_read committed accepted w e t q = from w.processed t w.request.ask q e
  where
    from : (b : Bool) → b ≡ true → (a : Ask) → a ≡ ask.State → is_none (if b then answer_applied committed accepted a else None) ≡ true → ⊥
    from true u a k n = true≢false (sym n ∙ ap (λ (x : Ask). is_none (answer_applied committed accepted x)) k)
    from false u a k n = true≢false (sym u)

each-left-with : (P Q : Waiting → Type 0) (decide : Waiting → Option Answer) → ((w : Waiting) → P w → is_none (decide w) ≡ true → Q w) → (ws : List Waiting) → Each P ws → Each Q (left_by decide ws)
each-left-with P Q decide f [] e = tt
each-left-with P Q decide f (w ∷ ws) e = from (is_none (decide w)) refl (each-left-with P Q decide f ws e.1)
  where
    from : (b : Bool) → is_none (decide w) ≡ b → Each Q (left_by decide ws) → Each Q (if b then w ∷ left_by decide ws else left_by decide ws)
    from true n k = (f w e.0 n, k)
    from false n k = k

module _ (h : History) (U : IsUnique h) (s : Settings) (second : s.policy.second ≡ true) where
  -- joins
  safe-takes_join : (v : View) (g : Takes) (p : Id) (term : ℕ) (last : StateId) → Stays h s (standing v) g → Safe h s v g (joins.takes_join s v p term last) (Stays h s)
  safe-takes_join v g p term last i =
      let join : Join = joins.join_from p s.me term last in
      let act : Act = TakeJoin join in
      let after = doing.after_act s v act in
      safe-if h s v g (has_room v.node.join_votes p) (doing.act_now s v act ∷ joins.after_join s v after act p) [] (Stays h s)
      (λ f b. (
        tt,
        safe-if h s after g (joins.wins_now (doing.reply_now s v act)) _ _ (Stays h s)
            (λ w. safe-leads h U s second after g (won-join h s v join (doing.reply_now s v act) w b.0 i.stands))
            (λ w. safe-if h s after g (doing.takes s v act && doing.is_leader after.mode) _ [] (Stays h s)
            (λ t. safe-takes_member h U s second after g p (stays-join h s v g join (doing.reply_now s v act) w i))
            (λ t. stays-join h s v g join (doing.reply_now s v act) w i)),
      ))
      (λ f. i)

  safe-joined : (v : View) (g : Takes) (p : Id) (term : ℕ) (last : StateId) → Stays h s (standing v) g → Safe h s v g (joins.on_join s v p term last) (Stays h s)
  safe-joined v g p term last i =
      safe-if h s v g (doing.is_voting_only s s.me) [] _ (Stays h s) (λ e. i)
      (λ e. safe-then h s v g _ (λ u. joins.takes_join s u p term last) (Stays h s) (Stays h s) (safe-raises_term h U s v g s.me term i) (λ u k j. safe-takes_join u k p term last j))

  safe-asked_to_join : (v : View) (g : Takes) (p : Id) (term : ℕ) → Stays h s (standing v) g → Safe h s v g (joins.on_join_ask s v p term) (Stays h s)
  safe-asked_to_join v g p term i =
      safe-if h s v g (not (doing.is_leader v.mode)) [] _ (Stays h s) (λ e. i)
      (λ e. safe-if h s v g (nat_le term v.node.term) _ _ (Stays h s) (λ k. safe-takes_member h U s second v g p i) (λ k. safe-on_start_join h U s v g s.me term i))

  -- publications
  safe-accepts : (v : View) (g : Takes) (p : Id) (state : ClusterState) → Stays h s (standing v) g → Safe h s v g (publications.accepts s v p state) (Stays h s)
  safe-accepts v g p state i =
      let act : Act = Publish (record { source = p; state = state }) in
      let after = doing.after_act s v act in
      λ b.
      let k = stays-publish h s v g (record { source = p; state = state }) (doing.reply_now s v act) b.0 i in (
        tt,
        safe-if h s after g (doing.takes s v act) _ [] (Stays h s)
            (λ t c. (tt, safe-if h s after g (same p s.me) [] _ (Stays h s) (λ e. k) (λ e. safe-becomes_follower h U s after g p k)))
            (λ t. k),
      )

  safe-published_to : (v : View) (g : Takes) (p : Id) (state : ClusterState) → Stays h s (standing v) g → Safe h s v g (publications.on_publish s v p state) (Stays h s)
  safe-published_to v g p state i =
      safe-then h s v g _ (λ u. publications.accepts s u p state) (Stays h s) (Stays h s) (safe-raises_term h U s v g p state.term i) (λ u k j. safe-accepts u k p state j)

  safe-first_commit : (v : View) (g : Takes) (id : StateId) → HasCommittedId h (published_id v.node) → Stays h s (standing v) g → Safe h s v g (publications.sends_first_commit s v id) (Stays h s)
  safe-first_commit v g id c i =
      let sends = doing.send_all s (among (next.responders_of v.publication) (next.targets_of v.publication)) (message.Commit id) in
      let answers = answers_by (committed_in (published_id v.node)) v.tasks.waiting in
      let Both : Standing → Takes → Type 0 = λ x k. Stays h s x k × AllPlaced h k.taken (answers_by (committed_in (published_id v.node)) v.tasks.waiting) in
      safe-append h s v g (sends ++ doing.reply_all s answers) (Notes CommitAcked ∷ []) (Stays h s) (Stays h s)
      (safe-append h s v g sends (doing.reply_all s answers) Both (Stays h s)
      (safe-steady h s v g sends Both (steady-sends s _ _) (i, placed-committed_in h U g.taken (published_id v.node) (next.is_in_flight v.publication) c v.tasks.waiting i.put))
      (λ k. safe-replies h s _ _ answers (Stays h s) k.1 k.0))
      (λ k b. (tt, stays-waiting h s _ _ _ (left_none _ _) (λ P e. each-left P _ _ e) k))

  safe-on_response : (v : View) (g : Takes) (p : Id) (id : StateId) → Stays h s (standing v) g → Safe h s v g (publications.on_response s v p id) (Stays h s)
  safe-on_response v g p id i =
      let act : Act = Response (record { source = p; target = s.me; term = id.term; version = id.version }) in
      let after = doing.after_act s v act in
      let k = stays-response h s v g (record { source = p; target = s.me; term = id.term; version = id.version }) (doing.reply_now s v act) i in
      safe-if h s v g (doing.is_leader v.mode && is_some v.publication && has_room v.node.publish_votes p)
      (doing.act_now s v act ∷ (if publications.commits_now (doing.reply_now s v act) then publications.sends_commit s after (publications.is_commit_sent v.publication) p id else [])) [] (Stays h s)
      (λ e b. (
        tt,
        safe-if h s after g (publications.commits_now (doing.reply_now s v act)) _ [] (Stays h s)
            (λ c. safe-if h s after g (publications.is_commit_sent v.publication) _ _ (Stays h s)
            (λ t f. (tt, k))
            (λ t. safe-first_commit after g id (same_id (doing.reply_now s v act) (b.0 c)) k))
            (λ c. k),
      ))
      (λ e. i)
    where
      -- a response leaves what was published last
      same_id : (r : ActReply) → HasCommittedId h (published_id v.node) → HasCommittedId h (published_id (moved s v (Acts (Response (record { source = p; target = s.me; term = id.term; version = id.version })) (Answered r))).node)
      same_id (Taken sends wins) c = c
      same_id (Refused x) c = c
      same_id Stopped c = c

  safe-answers_applied : (v : View) (g : Takes) → doing.is_leader v.mode ≡ true → TakesCommit h v.node → Commits h s (standing v) g → Safe h s v g (publications.answers_applied s v) (Stays h s)
  safe-answers_applied v g l c i =
      let id : id_of v.node.accepted ≡ published_id v.node = λ i'. record { term = c.term i'; version = c.version (i.stands.leads.won l) i' } in
      safe-answers h s v g _ (Notes AppliedAnswered ∷ []) (Stays h s)
      (placed-applied_in h U g.taken v.node.committed v.node.accepted true c.committed v.tasks.waiting
      (subst (λ (x : StateId). Each (Puts h g.taken x true) v.tasks.waiting) (sym id) i.put))
      (λ b. (
        tt,
        record {
          stands = stands-waiting h s (standing v) _ (left_none _ _) i.stands;
          put = each-left-with (Puts h g.taken (published_id v.node) true) (Puts h g.taken (published_id v.node) (next.is_in_flight v.publication)) (applied_in v.node.committed v.node.accepted)
              (λ w q n t. not_waiting w n t (q t)) v.tasks.waiting i.put;
        },
      ))
    where
      not_waiting : (w : Waiting) → is_none (applied_in v.node.committed v.node.accepted w) ≡ true → w.processed ≡ true → WasPut h g.taken (published_id v.node) true w → WasPut h g.taken (published_id v.node) (next.is_in_flight v.publication) w
      not_waiting w n t q = landed (no_read v.node.committed v.node.accepted w n t) q

  safe-told_commit : (v : View) (g : Takes) (p : Id) (id : StateId) → Stays h s (standing v) g → Safe h s v g (publications.on_commit s v p id) (Stays h s)
  safe-told_commit v g p id i =
      let commit : ApplyCommit = record { source = p; term = id.term; version = id.version } in
      let act : Act = Commit (record { source = p; term = id.term; version = id.version }) in
      let after = doing.after_act s v act in
      let taken : TakesCommit h v.node → TakesCommit h after.node = λ t. record { committed = t.committed; term = t.term; version = t.version } in
      λ b. (
        tt,
        safe-if h s after g (doing.takes s v act && doing.is_leader after.mode) _ [] (Stays h s)
            (λ e.
            let parts = and_parts _ _ e in
            safe-then h s after g (publications.answers_applied s after) (next.goes_on s) (Stays h s) (Stays h s)
            (safe-answers_applied after g parts.1 (taken (b.0 parts.0)) (commits-commit h s v g commit (doing.reply_now s v act) b.0 i))
            (λ u k j. safe-goes_on h U s second u k (ready-stays h s (standing u) k j)))
            (λ e. stays-commit h s v g commit (doing.reply_now s v act) b.0 e i),
      )

  go_on : (v : View) (g : Takes) → Stays h s (standing v) g → Safe h s v g (next.goes_on s v) (Stays h s)
  go_on v g i = safe-goes_on h U s second v g (ready-stays h s (standing v) g i)

  -- discovery
  safe-seeks_master : (v : View) (g : Takes) (p : Id) (master : Option Id) (term : ℕ) → Stays h s (standing v) g → Safe h s v g (discovery.seeks_master s v p master term) (Stays h s)
  safe-seeks_master v g p master term i =
      safe-if h s v g (discovery.is_node master p) _ [] (Stays h s)
      (λ e. safe-if h s v g (nat_lt v.node.term term) _ _ (Stays h s) (λ k. safe-on_start_join h U s v g p term i) (λ k b. (tt, i)))
      (λ e. i)

  safe-hears_peer : (v : View) (g : Takes) (p : Id) (master : Option Id) (term : ℕ) → Stays h s (standing v) g → Safe h s v g (discovery.hears_peer s v p master term) (Stays h s)
  safe-hears_peer v g p master term i =
      safe-if h s v g (doing.is_candidate v.mode) _ [] (Stays h s)
      (λ e. safe-then h s v g (Notes (Heard p master) ∷ []) (λ u. discovery.seeks_master s u p master term) (Stays h s) (Stays h s) (λ b. (tt, i)) (λ u k j. safe-seeks_master u k p master term j))
      (λ e. i)

  safe-told_peers : (v : View) (g : Takes) (p : Id) (master : Option Id) (term : ℕ) (ids : List Id) → Stays h s (standing v) g → Safe h s v g (discovery.on_peers_answer s v p master term ids) (Stays h s)
  safe-told_peers v g p master term ids i =
      safe-then h s v g (Notes (Met (p ∷ ids)) ∷ []) (λ u. discovery.hears_peer s u p master term) (Stays h s) (Stays h s) (λ b. (tt, i)) (λ u k j. safe-hears_peer u k p master term j)

  safe-asked_for_peers : (v : View) (g : Takes) (p : Id) (ids : List Id) → Stays h s (standing v) g → Safe h s v g (discovery.on_peers_ask s v p ids) (Stays h s)
  safe-asked_for_peers v g p ids i = λ b. (tt, λ c. (tt, i))

  -- checks
  safe-does_check : (v : View) (g : Takes) (leader : Id) (t : LeaderTick) → Stays h s (standing v) g → Safe h s v g (checks.does_check s v leader t) (Stays h s)
  safe-does_check v g leader Quiet i = i
  safe-does_check v g leader AskLeader i = λ b. (tt, i)
  safe-does_check v g leader Lost i = safe-becomes_candidate h U s v g

  safe-checks_leader : (v : View) (g : Takes) (leader : Id) (c : Option LeaderCheck) → Stays h s (standing v) g → Safe h s v g (checks.checks_leader s v leader c) (Stays h s)
  safe-checks_leader v g leader None i = i
  safe-checks_leader v g leader (Some c) i =
      safe-then h s v g (Notes LeaderChecked ∷ []) (λ u. checks.does_check s u leader (leader_tick c v.moment)) (Stays h s) (Stays h s) (λ b. (tt, i))
      (λ u k j. safe-does_check u k leader (leader_tick c v.moment) j)

  safe-answers_leader : (v : View) (g : Takes) (p : Id) (good : Bool) → Stays h s (standing v) g → Safe h s v g (checks.answers_leader s v p good) (Stays h s)
  safe-answers_leader v g p good i = λ b. (tt, i)

  safe-follows_checker : (v : View) (g : Takes) (p : Id) → Stays h s (standing v) g → Safe h s v g (checks.follows_checker s v p) (Stays h s)
  safe-follows_checker v g p i =
      safe-if h s v g (doing.is_second s) _ _ (Stays h s) (λ e. safe-answers_leader v g p (doing.follows_node v.mode p) i)
      (λ e. safe-if h s v g (doing.is_leader v.mode) _ _ (Stays h s) (λ e. safe-answers_leader v g p false i)
      (λ e. safe-then h s v g _ (λ u. checks.answers_leader s u p true) (Stays h s) (Stays h s) (safe-becomes_follower h U s v g p i) (λ u k j. safe-answers_leader u k p true j)))

  safe-checked_by_leader : (v : View) (g : Takes) (p : Id) (term : ℕ) → Stays h s (standing v) g → Safe h s v g (checks.on_follower_check s v p term) (Stays h s)
  safe-checked_by_leader v g p term i =
      safe-if h s v g (nat_lt term v.node.term) _ _ (Stays h s) (λ e. safe-answers_leader v g p false i)
      (λ e. safe-then h s v g _ (λ u. checks.follows_checker s u p) (Stays h s) (Stays h s) (safe-raises_term h U s v g p term i) (λ u k j. safe-follows_checker u k p j))

  -- requests
  late_one : (taken : List Tag) (w : Waiting) (committed : List Id) (late : Bool) (o : Option (List Id)) → TellsOption h U taken w (if_late committed late o)
  late_one taken w committed late None = tt
  late_one taken w committed late (Some ids) = tells-if h U taken w late (Some _) None (λ e. tt) (λ e. tt)

  placed-timed_out : (taken : List Tag) (committed : List Id) (now : ℕ) (ws : List Waiting) → AllPlaced h taken (answers_by (timed_out committed now) ws)
  placed-timed_out taken committed now ws = placed-answers h U taken (timed_out committed now) ws (all ws)
    where
      all : (us : List Waiting) → Each (λ w. TellsOption h U taken w (timed_out committed now w)) us
      all [] = tt
      all (u ∷ us) = (late_one taken u committed _ (excluded_by u.request.ask), all us)

  safe-times_out : (v : View) (g : Takes) → Stays h s (standing v) g → Safe h s v g (requests.times_out_exclusions s v) (Stays h s)
  safe-times_out v g i =
      safe-answers h s v g _ (Notes ExclusionsTimedOut ∷ []) (Stays h s) (placed-timed_out g.taken v.node.committed v.moment v.tasks.waiting)
      (λ b. (tt, stays-waiting h s (standing v) g _ (left_none _ _) (λ P e. each-left P _ _ e) i))

  safe-queues : (v : View) (g : Takes) (conn : ℕ) (r : Request) (o : Option ℕ) → doing.is_leader v.mode ≡ true → Stays h s (standing v) g → Safe h s v g (requests.queues s v conn r o) (Stays h s)
  safe-queues v g conn r (Some length) l i = λ b. (tt, i)
  safe-queues v g conn r None l i =
      safe-if h s v g (is_full_of v.tasks) _ _ (Stays h s) (λ f b. (tt, i))
      (λ f. safe-then h s v g (Notes (Queued conn r) ∷ []) (next.goes_on s) (GoesOn h s) (Stays h s)
      (λ b. (
        tt,
        record {
          ready = record {
            leads = record { idle = λ e. absurd (both_ways _ e l); won = i.stands.leads.won; new = i.stands.leads.new; done = i.stands.leads.done };
            empty = λ m n w. absurd (both_ways _ (i.stands.barred m n) w);
          };
          put = each-last (Puts h g.taken (published_id v.node) (next.is_in_flight v.publication)) v.tasks.waiting (arriving conn v.moment r) i.put (λ t. absurd (true≢false (sym t)));
        },
      ))
      (safe-goes_on h U s second))

  safe-takes_line : (v : View) (g : Takes) (conn : ℕ) (r : Result Request LineFault) → Stays h s (standing v) g → Safe h s v g (requests.takes_line s v conn r) (Stays h s)
  safe-takes_line v g conn (Err e) i = λ b. (tt, i)
  safe-takes_line v g conn (Ok r) i =
      safe-if h s v g (doing.is_leader v.mode) _ _ (Stays h s) (λ l. safe-queues v g conn r (bad_setting_of r.ask) l i) (λ l b. (tt, i))

  -- ticks
  safe-takes_config : (v : View) (g : Takes) (o : Option (List Id)) → doing.is_leader v.mode ≡ false → Stays h s (standing v) g → Safe h s v g (elections.takes_config s v o) (Stays h s)
  safe-takes_config v g None l i = i
  safe-takes_config v g (Some config) l i = λ b. (tt, idle-stays h s _ g l i.stands.leads.idle)

  safe-ticks_candidate : (v : View) (g : Takes) (word : ℕ) → doing.is_leader v.mode ≡ false → Stays h s (standing v) g → Safe h s v g (rules.ticks_candidate s v word) (Stays h s)
  safe-ticks_candidate v g word l i =
      safe-then h s v g _ (λ u. elections.waits_for_election s u word) (Stays h s) (Stays h s)
      (safe-then h s v g _ (discovery.asks_peers s) (Stays h s) (Stays h s)
      (safe-takes_config v g (decision_of s.initial (answered_set v.finder) s.me (not (is_empty v.node.accepted.config))) l i)
      (λ u k j. safe-steady h s u k _ (Stays h s) (steady-asks_peers s u) j))
      (λ u k j. safe-steady h s u k _ (Stays h s) (steady-waits_for_election s u word) j)

  safe-ticks_leader : (v : View) (g : Takes) → Stays h s (standing v) g → Safe h s v g (rules.ticks_leader s v) (Stays h s)
  safe-ticks_leader v g i =
      safe-if h s v g (rules.gives_up s v) _ _ (Stays h s)
      (λ e. safe-becomes_candidate h U s v g)
      (λ e. safe-then h s v g _ (next.goes_on s) (Stays h s) (Stays h s)
      (safe-then h s v g _ (checks.checks_followers s) (Stays h s) (Stays h s) (safe-times_out v g i) (λ u k j. safe-steady h s u k _ (Stays h s) (steady-checks_followers s u) j))
      go_on)

  safe-ticks : (v : View) (g : Takes) (word : ℕ) (m : Mode) → v.mode ≡ m → Stays h s (standing v) g → Safe h s v g (rules.ticks s v word m) (Stays h s)
  safe-ticks v g word Candidate e i = safe-ticks_candidate v g word (ap doing.is_leader e) i
  safe-ticks v g word Leader e i = safe-ticks_leader v g i
  safe-ticks v g word (Follower leader) e i = safe-checks_leader v g leader v.leader_check i

  -- connections that have ended
  safe-stands_anew : (v : View) (g : Takes) → Safe h s v g (disconnects.stands_anew s v) (Stays h s)
  safe-stands_anew v g =
      safe-then h s v g _ (λ u. elections.stands_for_election s u (u.node.term + 1)) (Stays h s) (Stays h s) (safe-becomes_candidate h U s v g)
      (λ u k j. safe-steady h s u k _ (Stays h s) (steady-stands_for_election s u (u.node.term + 1)) j)

  safe-loses : (v : View) (g : Takes) (p : Id) (m : Mode) → Stays h s (standing v) g → Safe h s v g (disconnects.loses s v p m) (Stays h s)
  safe-loses v g p Candidate i = safe-if h s v g (is_some (answer_in v.finder.peers p)) (Notes (PeerLost p) ∷ []) [] (Stays h s) (λ e b. (tt, i)) (λ e. i)
  safe-loses v g p Leader i =
      safe-if h s v g (has p (ids_of v.followers.watched)) (doing.then_rule s v (disconnects.drops_follower s p) (disconnects.goes_on_with_rest s)) [] (Stays h s)
      (λ e. safe-then h s v g (disconnects.drops_follower s p) (disconnects.goes_on_with_rest s) (Stays h s) (Stays h s)
      (λ b. (tt, λ c. (tt, i)))
      (λ u k j. safe-if h s u k (disconnects.keeps_quorum s u) _ _ (Stays h s) (λ d. go_on u k j) (λ d. safe-stands_anew u k)))
      (λ e. i)
  safe-loses v g p (Follower leader) i =
      safe-if h s v g (same leader p) _ [] (Stays h s)
      (λ e. safe-append h s v g (doing.becomes_candidate s v) (Notes LeaderLost ∷ []) (Stays h s) (Stays h s) (safe-becomes_candidate h U s v g) (λ k b. (tt, k)))
      (λ e. i)

  -- a frame, by its message
  safe-message : (v : View) (g : Takes) (p : Id) (m : WireMessage) → Stays h s (standing v) g → Safe h s v g (rules.takes_message s v p m) (Stays h s)
  safe-message v g p (message.StartJoin candidate term) i = safe-on_start_join h U s v g candidate term i
  safe-message v g p (message.Join term last) i = safe-joined v g p term last i
  safe-message v g p (message.Publish state) i = safe-published_to v g p state i
  safe-message v g p (message.Response id) i = safe-on_response v g p id i
  safe-message v g p (message.Commit id) i = safe-told_commit v g p id i
  safe-message v g p (message.JoinAsk term) i = safe-asked_to_join v g p term i
  safe-message v g p (message.PeersAsk known) i = safe-asked_for_peers v g p known i
  safe-message v g p (message.PeersAnswer master term known) i = safe-told_peers v g p master term known i
  safe-message v g p message.PreVoteAsk i = safe-steady h s v g (elections.pre_vote_reply s v p (reply_to p (doing.leader_of s.me v.mode))) (Stays h s) (steady-pre_vote_reply s v p _) i
  safe-message v g p (message.PreVoteAnswer term last) i = safe-steady h s v g (elections.on_pre_vote_answer s v v.round p term last) (Stays h s) (steady-on_pre_vote_answer s v v.round p term last) i
  safe-message v g p (message.PreVoteRefuse leader) i = λ b. (tt, i)
  safe-message v g p (message.FollowerCheck term) i = safe-checked_by_leader v g p term i
  safe-message v g p (message.FollowerAnswer good term applied) i = safe-if h s v g (doing.is_leader v.mode) (Notes (FollowerAnswered p good applied) ∷ []) [] (Stays h s) (λ e b. (tt, i)) (λ e. i)
  safe-message v g p (message.LeaderCheck term) i = λ b. (tt, i)
  safe-message v g p (message.LeaderAnswer good) i = safe-if h s v g (doing.follows_node v.mode p) (Notes (LeaderAnswered good) ∷ []) [] (Stays h s) (λ e b. (tt, i)) (λ e. i)

  -- an event
  pub safe-next : (v : View) (g : Takes) (e : Event) → Stays h s (standing v) g → Safe h s v g (rules.next_of s v e) (Stays h s)
  safe-next v g Start i = λ b. (tt, λ c. (tt, i))
  safe-next v g (Tick now word) i = safe-ticks v g word v.mode refl i
  safe-next v g (FrameCame frame) i = safe-if h s v g (same frame.to s.me) _ [] (Stays h s) (λ e. safe-message v g frame.from frame.message i) (λ e. i)
  safe-next v g (PeerGone peer) i = safe-loses v g peer v.mode i
  safe-next v g (LineCame conn line) i = safe-takes_line v g conn (line_request line) i
