-- What a leader that goes on tells of places and leaves, by the second profile.
use Rattle.std.proofs.Common.{◌≡◌, inl, inr, ◌+◌, Bool, true, false, true≢false, not, Option, None, Some, Result, Ok, Err, List, [], ◌∷◌, ◌++◌, refl, sym, ◌∙◌, ap, subst}
use Rattle.std.specs.Prelude.{if◌then◌else◌, ◌&&◌, fold, length, map, nat_le}
use Rattle.std.specs.List.{list_any}
use Rattle.std.proofs.lemmas.Bool.{both_ways, and_parts, not-true}
use Rattle.voting_config.specs.Ids.{Id, has, some_among}
use Rattle.exclusions.specs.declared.AddError.{AddError}
use Rattle.exclusions.specs.declared.AddError.TheVariants.{TooMany}
use Rattle.exclusions.specs.declared.StillMember.{StillMember}
use Rattle.exclusions.specs.Exclusions.{added_of, cleared_of}
use Rattle.cluster_state.specs.Fields.{most_settings}
use Rattle.cluster_state.specs.Settings.{put_setting}
use Rattle.cluster_state.specs.States.{id_of}
use Rattle.cluster_state.specs.declared.reply.Answer.TheVariants as answer
use Rattle.cluster_state.specs.declared.request.Ask.{Ask}
use Rattle.cluster_state.specs.declared.request.Ask.TheVariants as ask
use Rattle.cluster_state.specs.declared.state.ClusterState.{ClusterState}
use Rattle.cluster_state.specs.declared.state.ClusterValue.{ClusterValue}
use Rattle.cluster_state.specs.declared.state.StateId.{StateId}
use Rattle.publication.specs.Publications.{Publication}
use Rattle.master_tasks.specs.declared.waiting.Waiting.{Waiting}
use Rattle.master_tasks.specs.declared.waiting.Outgoing.{Outgoing}
use Rattle.master_tasks.specs.Replying.{answer_to}
use Rattle.master_tasks.specs.Queue.{Tasks, to_be_added}
use Rattle.master_tasks.specs.Answering.{answers_by, nothing_new, unless_voting}
use Rattle.master_tasks.specs.Processing.{Processing, AnsweredAtOnce, Makes, excluding, clearing, processing, processing_once, Processed, before_all, and_then, with_next}
use Rattle.master_tasks.specs.NextState.{Leader as NextMaster, value_before, processed_by, next_answers, is_nothing_new, tasks_after}
use Rattle.world_model.specs.Histories.{History}
use Rattle.world_model.specs.Safety.{Published}
use Rattle.policy_model.specs.declared.settings.Settings.{Settings}
use Rattle.policy_model.specs.declared.events.Mode.TheVariants.{Leader}
use Rattle.policy_model.specs.Events.{ChangesMode, Notes, Joined, StateMade}
use Rattle.policy_model.specs.Parts.{published_id}
use Rattle.policy_model.specs.Views.{View, master_now}
use Rattle.policy_model.specs.Moves.{moved}
use Rattle.policy_model.specs.Doing as doing
use Rattle.policy_model.specs.NextState as next
use Rattle.policy_model.specs.Joins as joins
use Rattle.policy_model.proofs.Fits.{waiting-added}
use Rattle.client_guarantees.specs.Processed.{processed_into_next}
use Rattle.client_guarantees.proofs.Backing.{IsUnique, HasCommittedId}
use Rattle.client_guarantees.proofs.Leading.{IsDone, HasWon}
use Rattle.client_guarantees.proofs.Steady.{standing, steady-sends, steady-hands_over, steady-asks_votes}
use Rattle.client_guarantees.proofs.Folding.{Each, each-map, IsAmong, IsNowOr, next_waiting}
use Rattle.client_guarantees.proofs.Answers.{nothing_anew, something_new}
use Rattle.client_guarantees.proofs.GoingOn.{each-after}
use Rattle.linearizability.proofs.Putting.{Tag, Takes, takes_after, AnswerIsPlaced, AllPlaced, WasPut, Puts, acked_so, TellsOption, placed-answers, tells-if, Safe, safe-then, safe-if, safe-answers, safe-steady, Stays, GoesOn}
use Rattle.linearizability.proofs.Leaving.{IsOver, ready-stays, stays-value, safe-becomes_candidate}

-- ---- the answers as a state is made

abbrev is_read : Ask → Bool
is_read (ask.Put key text) = false
is_read (ask.Remove key) = false
is_read (ask.Exclude ids) = false
is_read (ask.Clear wait) = false
is_read ask.State = true

placed-append : (h : History) (taken : List Tag) (xs ys : List Outgoing) → AllPlaced h taken xs → AllPlaced h taken ys → AllPlaced h taken (xs ++ ys)
placed-append h taken [] ys a b = b
placed-append h taken (x ∷ xs) ys a b = (a.0, placed-append h taken xs ys a.1 b)

module _ (h : History) (U : IsUnique h) (taken : List Tag) where
  -- requests that are answered at once are told nothing of a state
  abbrev TellsProcessing : Waiting → Processing → Type 0
  TellsProcessing w (AnsweredAtOnce a) = AnswerIsPlaced h taken w.conn w.request.id a
  TellsProcessing w (Makes value) = Unit {0}

  either : (w : Waiting) (b : Bool) (x y : Processing) → TellsProcessing w x → TellsProcessing w y → TellsProcessing w (if b then x else y)
  either w true x y t u = t
  either w false x y t u = u

  tells-excluding : (w : Waiting) (value : ClusterValue) (r : Result (List Id) AddError) → TellsProcessing w (excluding value r)
  tells-excluding w value (Ok ids) = tt
  tells-excluding w value (Err (TooMany count)) = tt

  tells-clearing : (w : Waiting) (value : ClusterValue) (r : Result (Unit {0}) StillMember) → TellsProcessing w (clearing value r)
  tells-clearing w value (Ok u) = tt
  tells-clearing w value (Err still) = tt

  -- a read waits
  tells-reading : (w : Waiting) (accepted : ClusterState) (value : ClusterValue) (second : Bool) → second ≡ true → TellsProcessing w (if second then Makes value else AnsweredAtOnce (answer.State accepted))
  tells-reading w accepted value true e = tt
  tells-reading w accepted value false e = absurd (true≢false (sym e))

  tells-processing : (w : Waiting) (second : Bool) (accepted : ClusterState) (value : ClusterValue) (a : Ask) → second ≡ true → TellsProcessing w (processing second accepted value a)
  tells-processing w second accepted value (ask.Put key text) y =
      either w (not (has key (map (λ t. t.0) value.settings)) && nat_le most_settings (length value.settings))
      (AnsweredAtOnce (answer.TooManySettings (most_settings + 1))) (Makes (record value { settings = put_setting (key, text) value.settings })) tt tt
  tells-processing w second accepted value (ask.Remove key) y = tt
  tells-processing w second accepted value (ask.Exclude ids) y = tells-excluding w value (added_of value.exclusions ids)
  tells-processing w second accepted value (ask.Clear wait) y = tells-clearing w value (cleared_of value.exclusions value.members wait)
  tells-processing w second accepted value ask.State y = tells-reading w accepted value second y

  placed-and_then : (p : Processed) (w : Waiting) (x : Processing) → TellsProcessing w x → AllPlaced h taken p.answers → AllPlaced h taken (and_then p w x).answers
  placed-and_then p w (AnsweredAtOnce a) t all = placed-append h taken p.answers (answer_to w a ∷ []) all (t, tt)
  placed-and_then p w (Makes made) t all = all

  placed-processed : (second : Bool) (accepted : ClusterState) (p : Processed) (ws : List Waiting) → second ≡ true → AllPlaced h taken p.answers → AllPlaced h taken (fold (with_next second accepted) p ws).answers
  placed-processed second accepted p [] y all = all
  placed-processed second accepted p (w ∷ ws) y all =
      placed-processed second accepted (with_next second accepted p w) ws y
      (placed-and_then p w (processing_once second accepted p.value w)
      (either w w.processed (Makes p.value) (processing second accepted p.value w.request.ask) tt (tells-processing w second accepted p.value w.request.ask y)) all)

  module _ (committed : List Id) (id : StateId) (flight : Bool) (c : HasCommittedId h id) where
    nothing_new_one : (w : Waiting) (a : Ask) → w.request.ask ≡ a → WasPut h taken id flight w → TellsOption h U taken w (unless_voting committed id w.processed a)
    nothing_new_one w (ask.Put key text) e p = acked_so h U taken id flight w p c (λ q. true≢false (ap is_read (sym q ∙ e)))
    nothing_new_one w (ask.Remove key) e p = acked_so h U taken id flight w p c (λ q. true≢false (ap is_read (sym q ∙ e)))
    nothing_new_one w (ask.Exclude asked) e p =
        tells-if h U taken w (w.processed && not (some_among asked committed)) (Some (answer.Acked id)) None
        (λ t. acked_so h U taken id flight w p c (λ q. true≢false (ap is_read (sym q ∙ e)))) (λ t. tt)
    nothing_new_one w (ask.Clear wait) e p = acked_so h U taken id flight w p c (λ q. true≢false (ap is_read (sym q ∙ e)))
    nothing_new_one w ask.State e p = tt

    placed-nothing_new : (ws : List Waiting) → Each (WasPut h taken id flight) ws → AllPlaced h taken (answers_by (nothing_new committed id) ws)
    placed-nothing_new ws e =
        placed-answers h U taken (nothing_new committed id) ws
        (each-map (WasPut h taken id flight) (λ w. TellsOption h U taken w (nothing_new committed id w)) (λ w p. nothing_new_one w w.request.ask refl p) ws e)

  placed-when : (b : Bool) (xs : List Outgoing) → (b ≡ true → AllPlaced h taken xs) → AllPlaced h taken (if b then xs else [])
  placed-when true xs a = a refl
  placed-when false xs a = tt

  -- where nothing is new, the state of this id is committed, and all were processed into it or below it
  pub record IsOld (id : StateId) (l : NextMaster) (t : Tasks) : Type 0 where
    pub committed : HasCommittedId h id
    pub put : Each (WasPut h taken id false) (processed_by l t).waiting

  pub placed-next : (l : NextMaster) (t : Tasks) → l.policy.second ≡ true → (is_nothing_new l t ≡ true → IsOld (id_of l.accepted) l t) → AllPlaced h taken (next_answers l t)
  unfolding next_answers processed_by
  placed-next l t y old =
      placed-append h taken _ _ (placed-processed l.policy.second l.accepted (before_all (value_before l.me t l.accepted.value)) t.waiting y tt)
      (placed-when (is_nothing_new l t) _ (λ n. placed-nothing_new l.committed (id_of l.accepted) false (old n).committed (processed_by l t).waiting (old n).put))

-- ---- going on

has_publication : (m : Bool) (o : Option Publication) → (m && not (next.is_in_flight o)) ≡ false → m ≡ true → o ≡ None → ⊥
has_publication false o e l n = cc
has_publication true None e l n = cc
has_publication true (Some p) e l n = cc

finished : (b : Bool) → not b ≡ false → b ≡ true
finished true e = refl
finished false e = cc

-- votes are lacking only of those that responded to a publication
has_responders : (s : Settings) (v : View) → next.wants_votes s v ≡ true → v.publication ≡ None → ⊥
has_responders s v w n =
    let due = and_parts (doing.is_second s) _ w in
    let lacking = and_parts _ (next.lacks_vote s v) due.1 in
    let none : false ≡ true = subst (λ (o : Option Publication). list_any (λ (id : Id). not (has id v.node.join_votes)) (next.responders_of o) ≡ true) n lacking.1 in
    cc

module _ (h : History) (U : IsUnique h) (s : Settings) (second : s.policy.second ≡ true) where
  -- each request that was processed was so into the accepted state or below it
  abbrev AreOver : View → Takes → Type 0
  AreOver v g = Each (λ w. w.processed ≡ true → IsOver h s g.taken v.node w) v.tasks.waiting

  over_done : (v : View) (g : Takes) → IsDone h v.node → Each (Puts h g.taken (published_id v.node) false) v.tasks.waiting → AreOver v g
  over_done v g d e =
      each-map (Puts h g.taken (published_id v.node) false) (λ w. w.processed ≡ true → IsOver h s g.taken v.node w)
      (λ w p t. record { old = p t; same = same w (p t) }) v.tasks.waiting e
    where
      same : (w : Waiting) → (p : WasPut h g.taken (published_id v.node) false w) → p.last.state ≡ v.node.accepted
      same w p =
          let c = d.committed in
          let id : id_of v.node.accepted ≡ published_id v.node = λ i. record { term = d.last.term i; version = d.last.version i } in
          ap (λ (q : Published). q.state) (U.same p.last c.as_published p.is_last c.is_committed.0 (p.last_id ∙ sym (ap id_of c.is_state ∙ id))) ∙ c.is_state

  -- where nothing is new, nobody is processed now
  wait_over : (v : View) (g : Takes) → AreOver v g → is_nothing_new (master_now s v) v.tasks ≡ true → Each (IsOver h s g.taken v.node) (processed_by (master_now s v) v.tasks).waiting
  wait_over v g o t =
      each-map (IsNowOr (processed_into_next (master_now s v) v.tasks) (IsOver h s g.taken v.node)) (IsOver h s g.taken v.node) from
      (processed_by (master_now s v) v.tasks).waiting (next_waiting (IsOver h s g.taken v.node) (master_now s v) v.tasks o)
    where
      from : (w : Waiting) → IsNowOr (processed_into_next (master_now s v) v.tasks) (IsOver h s g.taken v.node) w → IsOver h s g.taken v.node w
      from w (inl k) = absurd (subst (λ (ws : List Waiting). IsAmong ws w) (nothing_anew s (master_now s v) v.tasks refl t second) k)
      from w (inr q) = q

  -- the state is published, or the node gives up
  safe-publishes : (v : View) (g : Takes) → AreOver v g → doing.is_leader v.mode ≡ true → v.node.election_won ≡ true
      → Safe h s (moved s v (Notes StateMade)) (takes_after s v g (Notes StateMade)) (next.publishes s v (moved s v (Notes StateMade))) (Stays h s)
  safe-publishes v g o l won =
      let made = moved s v (Notes StateMade) in
      let k = takes_after s v g (Notes StateMade) in
      let act = next.value_act s v in
      λ b. (
        tt,
        safe-if h s (doing.after_act s made act) _ (doing.takes s made act) _ _ (Stays h s)
            (λ t. safe-steady h s _ _ _ (Stays h s) (steady-sends s _ _)
            (stays-value h s made k (v.node.accepted.version + 1) (next.config_now s v) (next.value_now s v) (doing.reply_now s made act) t l won (b.1 t)
            (each-after (λ w. w.processed ≡ true → IsNowOr (processed_into_next (master_now s v) v.tasks) (IsOver h s g.taken v.node) w) (master_now s v) v.tasks
            (each-map (IsNowOr (processed_into_next (master_now s v) v.tasks) (IsOver h s g.taken v.node)) (λ w. w.processed ≡ true → IsNowOr (processed_into_next (master_now s v) v.tasks) (IsOver h s g.taken v.node) w) (λ w n t. n)
            (processed_by (master_now s v) v.tasks).waiting (next_waiting (IsOver h s g.taken v.node) (master_now s v) v.tasks o)))))
            (λ t. safe-becomes_candidate h U s (doing.after_act s made act) (takes_after s made k (doing.act_now s made act))),
      )

  safe-made : (v : View) (g : Takes) → AreOver v g → (is_nothing_new (master_now s v) v.tasks ≡ true → IsDone h v.node)
      → (is_nothing_new (master_now s v) v.tasks ≡ true → Stays h s (standing (moved s v (Notes StateMade))) (takes_after s v g (Notes StateMade)))
      → doing.is_leader v.mode ≡ true → v.node.election_won ≡ true → Safe h s v g (next.makes_state s v) (Stays h s)
  safe-made v g o done same l won =
      safe-answers h s v g (next_answers (master_now s v) v.tasks) _ (Stays h s)
      (placed-next h U g.taken (master_now s v) v.tasks second (λ n. record {
        committed = record { as_published = (done n).committed.as_published; is_committed = (done n).committed.is_committed; is_id = ap id_of (done n).committed.is_state };
        put = each-map (IsOver h s g.taken v.node) (WasPut h g.taken (id_of v.node.accepted) false)
            (λ w k. subst (λ (id : StateId). WasPut h g.taken id false w) (λ i. record { term = sym (done n).last.term i; version = sym (done n).last.version i }) k.old)
            (processed_by (master_now s v) v.tasks).waiting (wait_over v g o n);
      }))
      (λ b. (
        tt,
        safe-if h s (moved s v (Notes StateMade)) (takes_after s v g (Notes StateMade)) (is_nothing_new (master_now s v) v.tasks) [] _ (Stays h s)
            same (λ e. safe-publishes v g o l won),
      ))

  safe-makes_state : (v : View) (g : Takes) → GoesOn h s (standing v) g → doing.is_leader v.mode ≡ true → next.is_in_flight v.publication ≡ false → doing.may_win s v ≡ true → Safe h s v g (next.makes_state s v) (Stays h s)
  safe-makes_state v g r l f m = from v.publication refl f
    where
      from : (o : Option Publication) → v.publication ≡ o → next.is_in_flight o ≡ false → Safe h s v g (next.makes_state s v) (Stays h s)
      from None n e =
          let never = something_new (master_now s v) v.tasks (r.ready.leads.new l n).older in
          let nobody = r.ready.empty l n m in
          safe-made v g (subst (Each (λ w. w.processed ≡ true → IsOver h s g.taken v.node w)) (sym nobody) tt)
          (λ t. absurd (both_ways _ never t)) (λ t. absurd (both_ways _ never t)) l (r.ready.leads.won l)
      from (Some p) n e =
          let done = r.ready.leads.done l p n (finished p.finished e) in
          let put = subst (λ (b : Bool). Each (Puts h g.taken (published_id v.node) b) v.tasks.waiting) f r.put in
          let over = over_done v g done put in
          safe-made v g over (λ t. done) (same over) l (r.ready.leads.won l)
        where
          nothing : {q : Option Publication} → q ≡ None → q ≡ Some p → ⊥
          nothing k n = cc

          same : AreOver v g → is_nothing_new (master_now s v) v.tasks ≡ true → Stays h s (standing (moved s v (Notes StateMade))) (takes_after s v g (Notes StateMade))
          same over t = record {
            stands = record {
              leads = record { idle = λ x. absurd (both_ways _ x l); won = r.ready.leads.won; new = r.ready.leads.new; done = r.ready.leads.done };
              barred = λ x y. absurd (nothing y n);
            };
            put = subst (λ (b : Bool). Each (Puts h g.taken (published_id v.node) b) (tasks_after (master_now s v) v.tasks).waiting) (sym f)
                (each-after (Puts h g.taken (published_id v.node) false) (master_now s v) v.tasks
                (each-map (IsOver h s g.taken v.node) (Puts h g.taken (published_id v.node) false) (λ w k t. k.old) (processed_by (master_now s v) v.tasks).waiting (wait_over v g over t)));
          }

  pub safe-goes_on : (v : View) (g : Takes) → GoesOn h s (standing v) g → Safe h s v g (next.goes_on s v) (Stays h s)
  safe-goes_on v g r =
      safe-if h s v g (doing.is_leader v.mode && not (next.is_in_flight v.publication)) _ [] (Stays h s)
      (λ e.
      let parts = and_parts _ _ e in
      safe-if h s v g (doing.may_win s v) _ _ (Stays h s)
      (λ m. safe-if h s v g (next.wants_votes s v) _ _ (Stays h s)
      (λ w. safe-steady h s v g _ (Stays h s) (steady-asks_votes s v) (record { stands = record { leads = r.ready.leads; barred = λ l n. absurd (has_responders s v w n) }; put = r.put }))
      (λ w. safe-makes_state v g r parts.0 (not-true _ parts.1) m))
      (λ m. safe-steady h s v g _ (Stays h s) (steady-hands_over s v) (record { stands = record { leads = r.ready.leads; barred = λ l n. m }; put = r.put })))
      (λ e. record { stands = record { leads = r.ready.leads; barred = λ l n. absurd (has_publication _ v.publication e l n) }; put = r.put })

  -- a node that has won leads
  pub safe-leads : (v : View) (g : Takes) → HasWon (standing v) → Safe h s v g (joins.leads s v) (Stays h s)
  safe-leads v g w =
      safe-then h s v g (ChangesMode Leader v.node.term ∷ Notes (Joined (s.me ∷ v.node.join_votes)) ∷ []) (next.goes_on s) (GoesOn h s) (Stays h s)
      (λ b. (tt, λ k. (tt, ready)))
      safe-goes_on
    where
      nothing : (p : Publication) → v.publication ≡ Some p → v.publication ≡ None → ⊥
      nothing p e n = cc

      empty : (moved s (moved s v (ChangesMode Leader v.node.term)) (Notes (Joined (s.me ∷ v.node.join_votes)))).tasks.waiting ≡ []
      empty = waiting-added (to_be_added v.tasks s.me) v.node.join_votes ∙ w.empty

      ready : GoesOn h s (standing (moved s (moved s v (ChangesMode Leader v.node.term)) (Notes (Joined (s.me ∷ v.node.join_votes))))) g
      ready = record {
        ready = record {
          leads = record { idle = λ e. cc; won = λ l. w.won; new = λ l n. w.new; done = λ l p e f. absurd (nothing p e w.unpublished) };
          empty = λ l n m. empty;
        };
        put = subst (Each (Puts h g.taken (published_id v.node) (next.is_in_flight v.publication))) (sym empty) tt;
      }

  pub safe-takes_member : (v : View) (g : Takes) (p : Id) → Stays h s (standing v) g → Safe h s v g (joins.takes_member s v p) (Stays h s)
  safe-takes_member v g p i =
      safe-then h s v g (Notes (Joined (p ∷ [])) ∷ []) (next.goes_on s) (GoesOn h s) (Stays h s)
      (λ b. (tt, ready-stays h s (standing v) g i))
      safe-goes_on
