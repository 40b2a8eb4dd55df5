-- What each rule tells and leaves: what it tells is true, and the node stands as it should between events.
use Rattle.std.proofs.Common.{◌≡◌, ℕ, ◌+◌, Bool, true, false, not, ◌&&◌, Option, None, Some, Result, Ok, Err, List, [], ◌∷◌, ◌++◌, refl, sym, ◌∙◌, ap, subst, ◌<◌, arith}
use Rattle.std.specs.Prelude.{is_some, nat_le, nat_lt}
use Rattle.std.proofs.lemmas.Bool.{both_ways, and_parts}
use Rattle.voting_config.specs.Ids.{Id, same, among, has_room}
use Rattle.bootstrap.specs.Decisions.{decision_of}
use Rattle.cluster_state.specs.JoinCheck.{is_empty}
use Rattle.cluster_state.specs.declared.messages.ApplyCommit.{ApplyCommit}
use Rattle.cluster_state.specs.declared.messages.Join.{Join}
use Rattle.cluster_state.specs.declared.state.ClusterState.{ClusterState}
use Rattle.cluster_state.specs.declared.state.StateId.{StateId}
use Rattle.cluster_state.specs.States.{id_of}
use Rattle.cluster_state.specs.declared.reply.LineFault.{LineFault}
use Rattle.cluster_state.specs.declared.request.Request.{Request}
use Rattle.cluster_state.specs.Puts.{bad_setting_of}
use Rattle.client_lines.specs.Reading.{line_request}
use Rattle.wire_frames.specs.declared.frame.WireMessage.{WireMessage}
use Rattle.wire_frames.specs.declared.frame.WireMessage.TheVariants as message
use Rattle.fault_checks.specs.declared.leader.LeaderTick.{LeaderTick}
use Rattle.fault_checks.specs.declared.leader.LeaderTick.TheVariants.{Quiet, Ask, Lost}
use Rattle.fault_checks.specs.Leaders.{LeaderCheck, leader_tick}
use Rattle.publication.specs.Publications.{Publication}
use Rattle.peer_finder.specs.Peers.{answered_set}
use Rattle.master_tasks.specs.Queue.{is_full_of, arriving, offered}
use Rattle.master_tasks.specs.Answering.{answers_by, committed_in}
use Rattle.master_tasks.specs.declared.waiting.Waiting.{Waiting}
use Rattle.world_model.specs.declared.acts.Act.{Act}
use Rattle.world_model.specs.declared.acts.Act.TheVariants.{Bootstrap, TakeJoin, Publish, Response, Commit}
use Rattle.world_model.specs.declared.acts.ActReply.{ActReply}
use Rattle.world_model.specs.declared.acts.Outcome.TheVariants.{Answered}
use Rattle.world_model.specs.declared.acts.ActReply.TheVariants.{Taken, Refused, Stopped}
use Rattle.world_model.specs.Replies.{is_taken}
use Rattle.world_model.specs.Histories.{History}
use Rattle.world_model.specs.Safety.{Published}
use Rattle.policy_model.specs.declared.settings.Settings.{Settings}
use Rattle.policy_model.specs.declared.events.Mode.{Mode}
use Rattle.policy_model.specs.declared.events.Event.{Event}
use Rattle.policy_model.specs.declared.events.Mode.TheVariants.{Candidate, Leader, Follower}
use Rattle.policy_model.specs.declared.events.Event.TheVariants.{Start, Tick, Frame as FrameCame, Client as LineCame, Disconnected as PeerGone}
use Rattle.policy_model.specs.Events.{Acts, Notes, LeaderChecked, Queued, ExclusionsTimedOut, CommitAcked, AppliedAnswered, Met, Heard}
use Rattle.policy_model.specs.Parts.{published_id}
use Rattle.policy_model.specs.Views.{View}
use Rattle.policy_model.specs.Moves.{moved}
use Rattle.policy_model.specs.Doing as doing
use Rattle.policy_model.specs.NextState as next
use Rattle.policy_model.specs.Elections as elections
use Rattle.policy_model.specs.Discovery as discovery
use Rattle.policy_model.specs.Joins as joins
use Rattle.policy_model.specs.Publications as publications
use Rattle.policy_model.specs.Checks as checks
use Rattle.policy_model.specs.Requests as requests
use Rattle.policy_model.specs.Rules as rules
use Rattle.policy_model.specs.Disconnects as disconnects
use Rattle.client_guarantees.specs.Asked.{MeetsEach}
use Rattle.client_guarantees.specs.Processed.{CameBy, last_id}
use Rattle.client_guarantees.proofs.Telling.{Basis, Up, IsNewFor, place, true-later, grown, keeps-all, Keeps, keeps-none, keeps-append, keeps-then, keeps-if, keeps-item, keeps-steady, keeps-answers, keeps-reply}
use Rattle.client_guarantees.proofs.Leading.{IsDone, won-join}
use Rattle.client_guarantees.proofs.Folding.{Each, each-last, IsAmong, Of}
use Rattle.client_guarantees.proofs.Holding.{IsMade, Holds, IsReadyToGo, ready-holds, idle-holds, holds-waiting, holds-publish, holds-commit, holds-response, holds-join, each-left}
use Rattle.client_guarantees.proofs.Steady.{Standing, steady_stands, Calm, Still, steady-if, steady-sends, steady-stands_for_election, steady-waits_for_election, steady-pre_vote_reply, steady-on_pre_vote_answer, steady-asks_peers, steady-checks_followers}
use Rattle.client_guarantees.proofs.Answers.{IsProcessedFor, each-processed, left_none, HasDone, true-committed_in, true-applied_in, true-timed_out}
use Rattle.client_guarantees.proofs.Modes.{keeps-becomes_candidate, keeps-becomes_follower, keeps-on_start_join, keeps-raises_term}
use Rattle.client_guarantees.proofs.Backing.{HasCommittedId, TakesCommit, IsUnique}
use Rattle.client_guarantees.proofs.GoingOn.{reached, reached_last, accepted_made, keeps-goes_on, keeps-leads, keeps-takes_member}

not_both : {A : Type 0} (t u : ℕ) → t ≡ u → t < u → A
not_both t u e l = absurd (omega arith)

-- the configuration is committed where the commit is taken
settled_now : (s : Settings) (v : View) (c : ApplyCommit) (r : ActReply) → is_taken r ≡ true → (moved s v (Acts (Commit c) (Answered r))).node.committed ≡ v.node.accepted.config
settled_now s v c (Taken sends wins) e = refl
settled_now s v c (Refused x) e = absurd (both_ways _ refl e)
settled_now s v c Stopped e = absurd (both_ways _ refl e)

-- a request that arrives is not processed
queued_made : {h : History} {s : Settings} {P : Basis} (v : View) (g : List Waiting) (w : Waiting) → w.processed ≡ false → IsMade h s P (place v g) → IsMade h s P (place (record v { tasks = offered v.tasks w }) g)
queued_made {s = s} {P = P} v g w e m = record {
  as_published = m.as_published;
  is_in = m.is_in;
  is_id = m.is_id;
  older = m.older;
  done = m.done;
  processed = m.processed;
  had = m.had;
  among = each-last (λ x. x.processed ≡ true → IsAmong m.done x) v.tasks.waiting w m.among (λ t. absurd (both_ways _ e t));
  new = each-last (λ x. x.processed ≡ true → IsNewFor s P (published_id v.node) x) v.tasks.waiting w m.new (λ t. absurd (both_ways _ e t));
}

module _ (h : History) (U : IsUnique h) (s : Settings) (P : Basis) where
  -- going on between events
  go_on : (v : View) (g : List Waiting) → Holds h s P (place v g) → Keeps h s P v g (next.goes_on s v) (Holds h s P)
  go_on v g i = keeps-goes_on h U s P v g (ready-holds h s P (place v g) i)

  nothing : (v : View) (g : List Waiting) → Holds h s P (place v g) → Keeps h s P v g [] (Holds h s P)
  nothing v g i = keeps-none h s P v g (Holds h s P) i

  -- joins
  keeps-takes_join : (v : View) (g : List Waiting) (p : Id) (term : ℕ) (last : StateId) → Holds h s P (place v g) → Keeps h s P v g (joins.takes_join s v p term last) (Holds h s P)
  keeps-takes_join v g p term last i =
      let join : Join = joins.join_from p s.me term last in
      let act : Act = TakeJoin join in
      let after = doing.after_act s v act in
      keeps-if h s P v g (has_room v.node.join_votes p) _ [] (Holds h s P)
      (λ f. keeps-item h s P v g (doing.act_now s v act) _ (Holds h s P) refl
      (λ b. keeps-if h s P after g (joins.wins_now (doing.reply_now s v act)) _ _ (Holds h s P)
      (λ w. keeps-leads h U s P after g (won-join h s v join (doing.reply_now s v act) w b.0 i.stands))
      (λ w. keeps-if h s P after g (doing.takes s v act && doing.is_leader after.mode) _ [] (Holds h s P)
      (λ t. keeps-takes_member h U s P after g p (holds-join h s P v g join (doing.reply_now s v act) w i))
      (λ t. nothing after g (holds-join h s P v g join (doing.reply_now s v act) w i)))))
      (λ f. nothing v g i)

  keeps-joined : (v : View) (g : List Waiting) (p : Id) (term : ℕ) (last : StateId) → Holds h s P (place v g) → Keeps h s P v g (joins.on_join s v p term last) (Holds h s P)
  keeps-joined v g p term last i =
      keeps-if h s P v g (doing.is_voting_only s s.me) [] _ (Holds h s P) (λ e. nothing v g i)
      (λ e. keeps-then h s P v g _ (λ u. joins.takes_join s u p term last) (Holds h s P) (Holds h s P) (keeps-raises_term h s P v g s.me term i) (λ u g k. keeps-takes_join u g p term last k))

  keeps-asked_to_join : (v : View) (g : List Waiting) (p : Id) (term : ℕ) → Holds h s P (place v g) → Keeps h s P v g (joins.on_join_ask s v p term) (Holds h s P)
  keeps-asked_to_join v g p term i =
      keeps-if h s P v g (not (doing.is_leader v.mode)) [] _ (Holds h s P) (λ e. nothing v g i)
      (λ e. keeps-if h s P v g (nat_le term v.node.term) _ _ (Holds h s P) (λ k. keeps-takes_member h U s P v g p i) (λ k. keeps-on_start_join h s P v g s.me term i))

  -- publications
  keeps-accepts : (v : View) (g : List Waiting) (p : Id) (state : ClusterState) → Holds h s P (place v g) → Keeps h s P v g (publications.accepts s v p state) (Holds h s P)
  keeps-accepts v g p state i =
      let act : Act = Publish (record { source = p; state = state }) in
      let after = doing.after_act s v act in
      keeps-item h s P v g (doing.act_now s v act) _ (Holds h s P) refl
      (λ b.
      let k = holds-publish h s P v g (record { source = p; state = state }) (doing.reply_now s v act) b.0 i in
      keeps-if h s P after g (doing.takes s v act) _ [] (Holds h s P)
      (λ t. keeps-item h s P after g (doing.send s p (message.Response (id_of state))) _ (Holds h s P) refl
      (λ c. keeps-if h s P after g (same p s.me) [] _ (Holds h s P) (λ e. nothing after g k) (λ e. keeps-becomes_follower h s P after g p k)))
      (λ t. nothing after g k))

  keeps-published_to : (v : View) (g : List Waiting) (p : Id) (state : ClusterState) → Holds h s P (place v g) → Keeps h s P v g (publications.on_publish s v p state) (Holds h s P)
  keeps-published_to v g p state i =
      keeps-then h s P v g _ (λ u. publications.accepts s u p state) (Holds h s P) (Holds h s P) (keeps-raises_term h s P v g p state.term i) (λ u g k. keeps-accepts u g p state k)

  -- the state of the last commit has what was processed
  sent_done : (v : View) (g : List Waiting) (m : IsMade h s P (place v g)) → HasCommittedId h (published_id v.node) → Up P.low (published_id v.node) → HasDone h P.low g m.done (published_id v.node)
  sent_done v g m c u =
      let same = U.same m.as_published c.as_published m.is_in c.is_committed.0 (m.is_id ∙ sym c.is_id) in
      record {
        older = m.older;
        processed = m.processed;
        as_published = c.as_published;
        is_committed = c.is_committed;
        is_id = c.is_id;
        had = subst (λ (p : Published). MeetsEach p.state.value m.done) same m.had;
        since = u;
      }

  -- the accepted state has it, where it is the last one
  accepted_done : (v : View) (g : List Waiting) (m : IsMade h s P (place v g)) → IsDone h v.node → Up P.low (id_of v.node.accepted) → HasDone h P.low g m.done (id_of v.node.accepted)
  accepted_done v g m d u = record {
    older = m.older;
    processed = m.processed;
    as_published = d.committed.as_published;
    is_committed = d.committed.is_committed;
    is_id = ap id_of d.committed.is_state;
    had = subst (λ (x : ClusterState). MeetsEach x.value m.done) (accepted_made h U s P v g m d ∙ sym d.committed.is_state) m.had;
    since = u;
  }

  keeps-first_commit : (v : View) (g done : List Waiting) (id : StateId) → v.node.election_won ≡ true → (Up P.low (published_id v.node) → HasDone h P.low g done (published_id v.node)) → Each (IsProcessedFor s P done (published_id v.node)) v.tasks.waiting → Holds h s P (place v g)
      → Keeps h s P v g (publications.sends_first_commit s v id) (Holds h s P)
  keeps-first_commit v g done id won d w i =
      let sends = doing.send_all s (among (next.responders_of v.publication) (next.targets_of v.publication)) (message.Commit id) in
      let answers = answers_by (committed_in (published_id v.node)) v.tasks.waiting in
      keeps-append h s P v g (sends ++ doing.reply_all s answers) (Notes CommitAcked ∷ []) (Holds h s P) (Holds h s P)
      (keeps-append h s P v g sends (doing.reply_all s answers) (Holds h s P) (Holds h s P) (keeps-steady h s P v g sends (Holds h s P) (steady-sends s _ _) i)
      (λ k. keeps-all h s P _ _ answers (Holds h s P)
      (λ q. true-later h s P g _ answers (grown s v g sends) (true-committed_in h s P g done (published_id v.node) (d (reached P.low v won (subst (λ (x : Standing). Up P.low (last_id x.node)) (steady_stands s v sends (steady-sends s _ _)) q))) v.tasks.waiting w)) k))
      (λ k. keeps-item h s P _ _ (Notes CommitAcked) [] (Holds h s P) refl (λ b. nothing _ _ (holds-waiting h s P _ _ (left_none _ _) (λ P e. each-left P _ _ e) k)))

  keeps-on_response : (v : View) (g : List Waiting) (p : Id) (id : StateId) → Holds h s P (place v g) → Keeps h s P v g (publications.on_response s v p id) (Holds h s P)
  keeps-on_response v g p id i =
      let act : Act = Response (record { source = p; target = s.me; term = id.term; version = id.version }) in
      let after = doing.after_act s v act in
      let k = holds-response h s P v g (record { source = p; target = s.me; term = id.term; version = id.version }) (doing.reply_now s v act) i in
      let made : doing.is_leader v.mode && is_some v.publication && has_room v.node.publish_votes p ≡ true → IsMade h s P (place v g) = λ e. let prefix = and_parts (doing.is_leader v.mode && is_some v.publication) _ e in let parts = and_parts _ _ prefix.0 in i.made parts.0 parts.1 in
      let won : doing.is_leader v.mode && is_some v.publication && has_room v.node.publish_votes p ≡ true → v.node.election_won ≡ true = λ e. let prefix = and_parts (doing.is_leader v.mode && is_some v.publication) _ e in i.stands.leads.won (and_parts _ _ prefix.0).0 in
      keeps-if h s P v g (doing.is_leader v.mode && is_some v.publication && has_room v.node.publish_votes p) _ [] (Holds h s P)
      (λ e. keeps-item h s P v g (doing.act_now s v act) _ (Holds h s P) refl
      (λ b. keeps-if h s P after g (publications.commits_now (doing.reply_now s v act)) _ [] (Holds h s P)
      (λ c. keeps-if h s P after g (publications.is_commit_sent v.publication) _ _ (Holds h s P)
      (λ t. keeps-steady h s P after g _ (Holds h s P) (Still _ _ refl Calm) k)
      (λ t. keeps-first_commit after g (made e).done id (won e) (sent_done v g (made e) (b.0 c)) (each-processed s P (made e).done (published_id v.node) v.tasks.waiting (made e).among (made e).new) k))
      (λ c. nothing after g k)))
      (λ e. nothing v g i)

  keeps-answers_applied : (v : View) (g : List Waiting) → doing.is_leader v.mode ≡ true → TakesCommit h v.node → v.node.committed ≡ v.node.accepted.config → Holds h s P (place v g) → Keeps h s P v g (publications.answers_applied s v) (Holds h s P)
  unfolding accepted_done
  keeps-answers_applied v g l c settled i = from v.publication refl
    where
      from : (o : Option Publication) → v.publication ≡ o → Keeps h s P v g (publications.answers_applied s v) (Holds h s P)
      from None n = not_both v.node.accepted.term v.node.term c.term (i.stands.leads.new l n).older
      from (Some p) n =
          let m = i.made l (ap is_some n) in
          let d : IsDone h v.node = record { committed = c.committed; last = record { term = c.term; version = c.version (i.stands.leads.won l) }; settled = settled } in
          let new = subst (λ (id : StateId). Each (λ w. w.processed ≡ true → IsNewFor s P id w) v.tasks.waiting) (λ i. record { term = sym d.last.term i; version = sym d.last.version i }) m.new in
          keeps-answers h s P v g _ (Notes AppliedAnswered ∷ []) (Holds h s P)
          (λ q. true-applied_in h s P g m.done v.node.committed v.node.accepted (accepted_done v g m d (reached_last P.low v (i.stands.leads.won l) d.last q)) (settled ∙ sym (ap (λ (x : ClusterState). x.config) d.committed.is_state)) d.committed
          v.tasks.waiting (each-processed s P m.done (id_of v.node.accepted) v.tasks.waiting m.among new) i.came)
          (keeps-item h s P v g (Notes AppliedAnswered) [] (Holds h s P) refl (λ b. nothing _ g (holds-waiting h s P (place v g) _ (left_none _ _) (λ P e. each-left P _ _ e) i)))

  keeps-told_commit : (v : View) (g : List Waiting) (p : Id) (id : StateId) → Holds h s P (place v g) → Keeps h s P v g (publications.on_commit s v p id) (Holds h s P)
  keeps-told_commit v g p id i =
      let act : Act = Commit (record { source = p; term = id.term; version = id.version }) in
      let after = doing.after_act s v act in
      let taken : TakesCommit h v.node → TakesCommit h after.node = λ t. record { committed = t.committed; term = t.term; version = t.version } in
      keeps-item h s P v g (doing.act_now s v act) _ (Holds h s P) refl
      (λ b.
      let k = holds-commit h s P v g (record { source = p; term = id.term; version = id.version }) (doing.reply_now s v act) b.0 i in
      keeps-if h s P after g (doing.takes s v act && doing.is_leader after.mode) _ [] (Holds h s P)
      (λ e.
      let parts = and_parts _ _ e in
      let settled = settled_now s v (record { source = p; term = id.term; version = id.version }) (doing.reply_now s v act) parts.0 in
      keeps-then h s P after g _ (next.goes_on s) (Holds h s P) (Holds h s P) (keeps-answers_applied after g parts.1 (taken (b.0 parts.0)) settled k) go_on)
      (λ e. nothing after g k))

  -- discovery
  keeps-seeks_master : (v : View) (g : List Waiting) (p : Id) (master : Option Id) (term : ℕ) → Holds h s P (place v g) → Keeps h s P v g (discovery.seeks_master s v p master term) (Holds h s P)
  keeps-seeks_master v g p master term i =
      keeps-if h s P v g (discovery.is_node master p) _ [] (Holds h s P)
      (λ e. keeps-if h s P v g (nat_lt v.node.term term) _ _ (Holds h s P) (λ k. keeps-on_start_join h s P v g p term i) (λ k. keeps-steady h s P v g _ (Holds h s P) (Still _ _ refl Calm) i))
      (λ e. nothing v g i)

  keeps-hears_peer : (v : View) (g : List Waiting) (p : Id) (master : Option Id) (term : ℕ) → Holds h s P (place v g) → Keeps h s P v g (discovery.hears_peer s v p master term) (Holds h s P)
  keeps-hears_peer v g p master term i =
      keeps-if h s P v g (doing.is_candidate v.mode) _ [] (Holds h s P)
      (λ e. keeps-then h s P v g _ (λ u. discovery.seeks_master s u p master term) (Holds h s P) (Holds h s P) (keeps-steady h s P v g _ (Holds h s P) (Still (Notes (Heard p master)) [] refl Calm) i) (λ u g k. keeps-seeks_master u g p master term k))
      (λ e. nothing v g i)

  keeps-told_peers : (v : View) (g : List Waiting) (p : Id) (master : Option Id) (term : ℕ) (ids : List Id) → Holds h s P (place v g) → Keeps h s P v g (discovery.on_peers_answer s v p master term ids) (Holds h s P)
  keeps-told_peers v g p master term ids i =
      keeps-then h s P v g _ (λ u. discovery.hears_peer s u p master term) (Holds h s P) (Holds h s P) (keeps-steady h s P v g _ (Holds h s P) (Still (Notes (Met (p ∷ ids))) [] refl Calm) i) (λ u g k. keeps-hears_peer u g p master term k)

  keeps-asked_for_peers : (v : View) (g : List Waiting) (p : Id) (ids : List Id) → Holds h s P (place v g) → Keeps h s P v g (discovery.on_peers_ask s v p ids) (Holds h s P)
  keeps-asked_for_peers v g p ids i = keeps-steady h s P v g _ (Holds h s P) (Still _ _ refl (Still _ _ refl Calm)) i

  -- checks
  keeps-does_check : (v : View) (g : List Waiting) (leader : Id) (t : LeaderTick) → Holds h s P (place v g) → Keeps h s P v g (checks.does_check s v leader t) (Holds h s P)
  keeps-does_check v g leader Quiet i = nothing v g i
  keeps-does_check v g leader Ask i = keeps-steady h s P v g _ (Holds h s P) (Still _ _ refl Calm) i
  keeps-does_check v g leader Lost i = keeps-becomes_candidate h s P v g

  keeps-checks_leader : (v : View) (g : List Waiting) (leader : Id) (c : Option LeaderCheck) → Holds h s P (place v g) → Keeps h s P v g (checks.checks_leader s v leader c) (Holds h s P)
  keeps-checks_leader v g leader None i = nothing v g i
  keeps-checks_leader v g leader (Some c) i =
      keeps-then h s P v g _ (λ u. checks.does_check s u leader (leader_tick c v.moment)) (Holds h s P) (Holds h s P) (keeps-steady h s P v g _ (Holds h s P) (Still (Notes LeaderChecked) [] refl Calm) i)
      (λ u g k. keeps-does_check u g leader (leader_tick c v.moment) k)

  keeps-answers_leader : (v : View) (g : List Waiting) (p : Id) (good : Bool) → Holds h s P (place v g) → Keeps h s P v g (checks.answers_leader s v p good) (Holds h s P)
  keeps-answers_leader v g p good i = keeps-steady h s P v g _ (Holds h s P) (Still _ _ refl Calm) i

  keeps-follows_checker : (v : View) (g : List Waiting) (p : Id) → Holds h s P (place v g) → Keeps h s P v g (checks.follows_checker s v p) (Holds h s P)
  keeps-follows_checker v g p i =
      keeps-if h s P v g (doing.is_second s) _ _ (Holds h s P) (λ e. keeps-answers_leader v g p (doing.follows_node v.mode p) i)
      (λ e. keeps-if h s P v g (doing.is_leader v.mode) _ _ (Holds h s P) (λ e. keeps-answers_leader v g p false i)
      (λ e. keeps-then h s P v g _ (λ u. checks.answers_leader s u p true) (Holds h s P) (Holds h s P) (keeps-becomes_follower h s P v g p i) (λ u g k. keeps-answers_leader u g p true k)))

  keeps-checked_by_leader : (v : View) (g : List Waiting) (p : Id) (term : ℕ) → Holds h s P (place v g) → Keeps h s P v g (checks.on_follower_check s v p term) (Holds h s P)
  keeps-checked_by_leader v g p term i =
      keeps-if h s P v g (nat_lt term v.node.term) _ _ (Holds h s P) (λ e. keeps-answers_leader v g p false i)
      (λ e. keeps-then h s P v g _ (λ u. checks.follows_checker s u p) (Holds h s P) (Holds h s P) (keeps-raises_term h s P v g p term i) (λ u g k. keeps-follows_checker u g p k))

  -- requests
  keeps-times_out : (v : View) (g : List Waiting) → Holds h s P (place v g) → Keeps h s P v g (requests.times_out_exclusions s v) (Holds h s P)
  keeps-times_out v g i =
      keeps-answers h s P v g _ (Notes ExclusionsTimedOut ∷ []) (Holds h s P) (λ q. true-timed_out h s P g v.node.committed v.moment v.tasks.waiting)
      (keeps-item h s P v g (Notes ExclusionsTimedOut) [] (Holds h s P) refl (λ b. nothing _ g (holds-waiting h s P (place v g) _ (left_none _ _) (λ P e. each-left P _ _ e) i)))

  keeps-queues : (v : View) (g : List Waiting) (conn : ℕ) (r : Request) (o : Option ℕ) → doing.is_leader v.mode ≡ true → P.came conn r → Holds h s P (place v g) → Keeps h s P v g (requests.queues s v conn r o) (Holds h s P)
  keeps-queues v g conn r (Some length) l q i = keeps-reply h s P v g _ (Holds h s P) (λ q. tt) i
  keeps-queues v g conn r None l q i =
      keeps-if h s P v g (is_full_of v.tasks) _ _ (Holds h s P) (λ f. keeps-reply h s P v g _ (Holds h s P) (λ q. tt) i)
      (λ f. keeps-then h s P v g _ (next.goes_on s) (IsReadyToGo h s P) (Holds h s P)
      (keeps-item h s P v g (Notes (Queued conn r)) [] (IsReadyToGo h s P) refl
      (λ b. keeps-none h s P _ g (IsReadyToGo h s P) (record {
        ready = record {
          leads = record { idle = λ e. absurd (both_ways _ e l); won = i.stands.leads.won; new = i.stands.leads.new; done = i.stands.leads.done };
          empty = λ m n w. absurd (both_ways _ (i.stands.barred m n) w);
        };
        made = λ m p. queued_made v g (arriving conn v.moment r) refl (i.made m p);
        came = each-last (Of P.came) v.tasks.waiting (arriving conn v.moment r) i.came q;
      })))
      (keeps-goes_on h U s P))

  keeps-takes_line : (v : View) (g : List Waiting) (conn : ℕ) (r : Result Request LineFault) → ((a : Request) → r ≡ Ok a → P.came conn a) → Holds h s P (place v g) → Keeps h s P v g (requests.takes_line s v conn r) (Holds h s P)
  keeps-takes_line v g conn (Err e) q i = keeps-reply h s P v g _ (Holds h s P) (λ q. tt) i
  keeps-takes_line v g conn (Ok r) q i =
      keeps-if h s P v g (doing.is_leader v.mode) _ _ (Holds h s P) (λ l. keeps-queues v g conn r (bad_setting_of r.ask) l (q r refl) i) (λ l. keeps-reply h s P v g _ (Holds h s P) (λ q. tt) i)

  -- ticks
  keeps-takes_config : (v : View) (g : List Waiting) (o : Option (List Id)) → doing.is_leader v.mode ≡ false → Holds h s P (place v g) → Keeps h s P v g (elections.takes_config s v o) (Holds h s P)
  keeps-takes_config v g None l i = nothing v g i
  keeps-takes_config v g (Some config) l i =
      keeps-item h s P v g (doing.act_now s v (Bootstrap config)) [] (Holds h s P) refl (λ b. nothing _ g (idle-holds h s P _ l i.stands.leads.idle))

  keeps-ticks_candidate : (v : View) (g : List Waiting) (word : ℕ) → doing.is_leader v.mode ≡ false → Holds h s P (place v g) → Keeps h s P v g (rules.ticks_candidate s v word) (Holds h s P)
  keeps-ticks_candidate v g word l i =
      keeps-then h s P v g _ (λ u. elections.waits_for_election s u word) (Holds h s P) (Holds h s P)
      (keeps-then h s P v g _ (discovery.asks_peers s) (Holds h s P) (Holds h s P)
      (keeps-takes_config v g (decision_of s.initial (answered_set v.finder) s.me (not (is_empty v.node.accepted.config))) l i)
      (λ u g k. keeps-steady h s P u g _ (Holds h s P) (steady-asks_peers s u) k))
      (λ u g k. keeps-steady h s P u g _ (Holds h s P) (steady-waits_for_election s u word) k)

  keeps-ticks_leader : (v : View) (g : List Waiting) → Holds h s P (place v g) → Keeps h s P v g (rules.ticks_leader s v) (Holds h s P)
  keeps-ticks_leader v g i =
      keeps-if h s P v g (rules.gives_up s v) _ _ (Holds h s P)
      (λ e. keeps-becomes_candidate h s P v g)
      (λ e. keeps-then h s P v g _ (next.goes_on s) (Holds h s P) (Holds h s P)
      (keeps-then h s P v g _ (checks.checks_followers s) (Holds h s P) (Holds h s P) (keeps-times_out v g i) (λ u g k. keeps-steady h s P u g _ (Holds h s P) (steady-checks_followers s u) k))
      go_on)

  keeps-ticks : (v : View) (g : List Waiting) (word : ℕ) (m : Mode) → v.mode ≡ m → Holds h s P (place v g) → Keeps h s P v g (rules.ticks s v word m) (Holds h s P)
  keeps-ticks v g word Candidate e i = keeps-ticks_candidate v g word (ap doing.is_leader e) i
  keeps-ticks v g word Leader e i = keeps-ticks_leader v g i
  keeps-ticks v g word (Follower leader) e i = keeps-checks_leader v g leader v.leader_check i

  -- connections that have ended
  keeps-stands_anew : (v : View) (g : List Waiting) → Keeps h s P v g (disconnects.stands_anew s v) (Holds h s P)
  keeps-stands_anew v g =
      keeps-then h s P v g _ (λ u. elections.stands_for_election s u (u.node.term + 1)) (Holds h s P) (Holds h s P) (keeps-becomes_candidate h s P v g)
      (λ u f k. keeps-steady h s P u f _ (Holds h s P) (steady-stands_for_election s u (u.node.term + 1)) k)

  keeps-loses : (v : View) (g : List Waiting) (p : Id) (m : Mode) → Holds h s P (place v g) → Keeps h s P v g (disconnects.loses s v p m) (Holds h s P)
  keeps-loses v g p Candidate i = keeps-steady h s P v g _ (Holds h s P) (steady-if _ _ [] (Still _ _ refl Calm) Calm) i
  keeps-loses v g p Leader i =
      keeps-if h s P v g _ _ [] (Holds h s P)
      (λ e. keeps-then h s P v g (disconnects.drops_follower s p) (disconnects.goes_on_with_rest s) (Holds h s P) (Holds h s P)
      (keeps-steady h s P v g _ (Holds h s P) (Still _ _ refl (Still _ _ refl Calm)) i)
      (λ u f k. keeps-if h s P u f (disconnects.keeps_quorum s u) _ _ (Holds h s P) (λ d. go_on u f k) (λ d. keeps-stands_anew u f)))
      (λ e. nothing v g i)
  keeps-loses v g p (Follower leader) i =
      keeps-if h s P v g (same leader p) _ [] (Holds h s P)
      (λ e. keeps-append h s P v g _ _ (Holds h s P) (Holds h s P) (keeps-becomes_candidate h s P v g) (λ k. keeps-steady h s P _ _ _ (Holds h s P) (Still _ _ refl Calm) k))
      (λ e. nothing v g i)

  -- a frame, by its message
  keeps-message : (v : View) (g : List Waiting) (p : Id) (m : WireMessage) → Holds h s P (place v g) → Keeps h s P v g (rules.takes_message s v p m) (Holds h s P)
  keeps-message v g p (message.StartJoin candidate term) i = keeps-on_start_join h s P v g candidate term i
  keeps-message v g p (message.Join term last) i = keeps-joined v g p term last i
  keeps-message v g p (message.Publish state) i = keeps-published_to v g p state i
  keeps-message v g p (message.Response id) i = keeps-on_response v g p id i
  keeps-message v g p (message.Commit id) i = keeps-told_commit v g p id i
  keeps-message v g p (message.JoinAsk term) i = keeps-asked_to_join v g p term i
  keeps-message v g p (message.PeersAsk known) i = keeps-asked_for_peers v g p known i
  keeps-message v g p (message.PeersAnswer master term known) i = keeps-told_peers v g p master term known i
  keeps-message v g p message.PreVoteAsk i = keeps-steady h s P v g _ (Holds h s P) (steady-pre_vote_reply s v p _) i
  keeps-message v g p (message.PreVoteAnswer term last) i = keeps-steady h s P v g _ (Holds h s P) (steady-on_pre_vote_answer s v v.round p term last) i
  keeps-message v g p (message.PreVoteRefuse leader) i = keeps-steady h s P v g _ (Holds h s P) (Still _ _ refl Calm) i
  keeps-message v g p (message.FollowerCheck term) i = keeps-checked_by_leader v g p term i
  keeps-message v g p (message.FollowerAnswer good term applied) i = keeps-steady h s P v g _ (Holds h s P) (steady-if (doing.is_leader v.mode) _ [] (Still _ _ refl Calm) Calm) i
  keeps-message v g p (message.LeaderCheck term) i = keeps-steady h s P v g _ (Holds h s P) (Still _ _ refl Calm) i
  keeps-message v g p (message.LeaderAnswer good) i = keeps-steady h s P v g _ (Holds h s P) (steady-if (doing.follows_node v.mode p) _ [] (Still _ _ refl Calm) Calm) i

  -- an event
  pub keeps-next : (v : View) (g : List Waiting) (e : Event) → ((conn : ℕ) (r : Request) → CameBy e conn r → P.came conn r) → Holds h s P (place v g) → Keeps h s P v g (rules.next_of s v e) (Holds h s P)
  keeps-next v g Start q i = keeps-steady h s P v g _ (Holds h s P) (Still _ _ refl (Still _ _ refl Calm)) i
  keeps-next v g (Tick now word) q i = keeps-ticks v g word v.mode refl i
  keeps-next v g (FrameCame frame) q i = keeps-if h s P v g (same frame.to s.me) _ [] (Holds h s P) (λ e. keeps-message v g frame.from frame.message i) (λ e. nothing v g i)
  keeps-next v g (PeerGone peer) q i = keeps-loses v g peer v.mode i
  keeps-next v g (LineCame conn line) q i = keeps-takes_line v g conn (line_request line) (λ a e. q conn a (refl, e)) i
