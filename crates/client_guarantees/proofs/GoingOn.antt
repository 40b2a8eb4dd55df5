-- What a leader that goes on tells and leaves.
use Rattle.std.proofs.Common.{◌≡◌, ◌⊎◌, inl, inr, ℕ, Bool, true, false, true≢false, not, ◌&&◌, Option, None, Some, List, [], ◌∷◌, ◌++◌, refl, sym, ◌∙◌, ap, subst}
use Rattle.std.specs.Prelude.{◌+◌, cond, is_some, if◌then◌else◌}
use Rattle.std.proofs.lemmas.Bool.{both_ways, and_parts, not-true}
use Rattle.std.proofs.lemmas.List.{append_assoc, append-nil}
use Rattle.std.specs.List.{list_any}
use Rattle.voting_config.specs.Ids.{Id, has}
use Rattle.cluster_state.specs.declared.state.ClusterState.{ClusterState}
use Rattle.cluster_state.specs.declared.state.ClusterValue.{ClusterValue}
use Rattle.cluster_state.specs.declared.state.StateId.{StateId}
use Rattle.cluster_state.specs.States.{id_of}
use Rattle.publication.specs.Publications.{Publication}
use Rattle.master_tasks.specs.declared.waiting.Waiting.{Waiting}
use Rattle.master_tasks.specs.Queue.{Tasks, to_be_added}
use Rattle.master_tasks.specs.Answering.{nothing_new}
use Rattle.master_tasks.specs.NextState.{Leader as NextMaster, processed_by, next_value, next_answers, is_nothing_new, tasks_after}
use Rattle.master_tasks.proofs.Sameness.{stays_accepted}
use Rattle.world_model.specs.Histories.{History}
use Rattle.world_model.specs.Safety.{Published}
use Rattle.policy_model.specs.declared.settings.Settings.{Settings}
use Rattle.policy_model.specs.declared.events.Mode.TheVariants.{Leader}
use Rattle.policy_model.specs.Events.{Item, ChangesMode, Notes, Joined, StateMade}
use Rattle.policy_model.specs.Parts.{published_id}
use Rattle.policy_model.specs.Views.{View, master_now}
use Rattle.policy_model.specs.Moves.{moved}
use Rattle.policy_model.specs.Doing as doing
use Rattle.policy_model.specs.NextState as next
use Rattle.policy_model.specs.Joins as joins
use Rattle.policy_model.proofs.Fits.{waiting-added}
use Rattle.client_guarantees.specs.Processed.{processed_into_next}
use Rattle.client_guarantees.specs.Replies.{HasCommitted}
use Rattle.client_guarantees.specs.Asked.{MeetsEach}
use Rattle.client_guarantees.proofs.Leading.{IsDone, HasWon}
use Rattle.client_guarantees.proofs.Steady.{standing, steady-sends, steady-hands_over, steady-asks_votes}
use Rattle.client_guarantees.proofs.Folding.{Each, each-map, IsAmong, among-more, among-later, IsNowOr, next_waiting, next_had, Of, of-waiting}
use Rattle.client_guarantees.proofs.Backing.{HasAcceptedLast, IsUnique}
use Rattle.client_guarantees.proofs.Telling.{Basis, Up, IsNewFor, WasNewFor, Processes, HasReached, place, true-later, grown, Keeps, keeps-none, keeps-then, keeps-if, keeps-item, keeps-steady, keeps-replies}
use Rattle.client_guarantees.proofs.Holding.{IsMade, Holds, IsReadyToGo, ready-holds, each-if, each-left, holds-value}
use Rattle.client_guarantees.proofs.Answers.{IsProcessedFor, each-both, each-processed, nothing_anew, something_new, IsSettled, MayBeShown, true-next}
use Rattle.client_guarantees.proofs.Modes.{keeps-becomes_candidate}

-- a leader that does not go on has a publication
has_publication : (m : Bool) (o : Option Publication) → (m && not (next.is_in_flight o)) ≡ false → m ≡ true → o ≡ None → ⊥
has_publication false o e l n = cc
has_publication true None e l n = cc
has_publication true (Some p) e l n = cc

-- who waits after the making of a state was among those that were processed
pub each-after : (P : Waiting → Type 0) (l : NextMaster) (t : Tasks) → Each P (processed_by l t).waiting → Each P (tasks_after l t).waiting
unfolding tasks_after
each-after P l t e = each-if P (is_nothing_new l t) _ _ (each-left P (nothing_new l.committed (id_of l.accepted)) (processed_by l t).waiting e) e

-- who has won has published last what its term and its version say
pub reached : (low : StateId) (v : View) → v.node.election_won ≡ true → HasReached low v → Up low (published_id v.node)
reached low v won r = subst (λ (b : Bool). Up low (record { term = v.node.term; version = cond b v.node.published_version 0 })) won r

pub reached_last : (low : StateId) (v : View) → v.node.election_won ≡ true → HasAcceptedLast v.node → HasReached low v → Up low (id_of v.node.accepted)
reached_last low v won d r =
    subst (Up low) (λ i. record { term = sym d.term i; version = sym d.version i }) (reached low v won r)

module _ (h : History) (U : IsUnique h) (s : Settings) (P : Basis) where
  -- the accepted state is the one that the node published last
  pub accepted_made : (v : View) (g : List Waiting) (m : IsMade h s P (place v g)) → IsDone h v.node → m.as_published.state ≡ v.node.accepted
  accepted_made v g m d =
      let id : id_of v.node.accepted ≡ published_id v.node = λ i. record { term = d.last.term i; version = d.last.version i } in
      ap (λ (p : Published). p.state)
      (U.same m.as_published d.committed.as_published m.is_in d.committed.is_committed.0 (m.is_id ∙ sym (ap id_of d.committed.is_state ∙ id)))
      ∙ d.committed.is_state

  -- a request for which the last state was new, and which is among these
  record IsOld (v : View) (done : List Waiting) (w : Waiting) : Type 0 where
    among : IsAmong done w
    new : IsNewFor s P (published_id v.node) w
    last : HasAcceptedLast v.node
    committed : HasCommitted h v.node.accepted

  -- the accepted state has what was processed since some moment; the requests that wait and are processed were processed since
  record HasBase (v : View) (g : List Waiting) : Type 0 where
    older : List Waiting
    done : List Waiting
    processed : g ≡ older ++ done
    had : MeetsEach v.node.accepted.value done
    old : Each (λ w. w.processed ≡ true → IsOld v done w) v.tasks.waiting

  -- a node that has published nothing, for which nobody waits
  base_empty : (v : View) (g : List Waiting) → v.tasks.waiting ≡ [] → HasBase v g
  base_empty v g e = record {
    older = g;
    done = [];
    processed = sym (append-nil g);
    had = tt;
    old = subst (Each (λ w. w.processed ≡ true → IsOld v [] w)) (sym e) tt;
  }

  base-made : (v : View) (g : List Waiting) → IsMade h s P (place v g) → IsDone h v.node → HasBase v g
  base-made v g m d = record {
    older = m.older;
    done = m.done;
    processed = m.processed;
    had = subst (λ (x : ClusterState). MeetsEach x.value m.done) (accepted_made v g m d) m.had;
    old = each-map (IsProcessedFor s P m.done (published_id v.node)) (λ w. w.processed ≡ true → IsOld v m.done w)
        (λ w f t. record { among = (f t).0; new = (f t).1; last = d.last; committed = d.committed }) v.tasks.waiting
        (each-processed s P m.done (published_id v.node) v.tasks.waiting m.among m.new);
  }

  -- what a state that is made now has, and of whom
  record MakesNow (v : View) (k : List Waiting) : Type 0 where
    older : List Waiting
    done : List Waiting
    processed : k ≡ older ++ done
    had : MeetsEach (next_value (master_now s v) v.tasks) done
    before : List Waiting
    wait : Each (λ w. IsAmong done w × IsNowOr (processed_into_next (master_now s v) v.tasks) (IsOld v before) w) (processed_by (master_now s v) v.tasks).waiting

  makes_now : (v : View) (g : List Waiting) → HasBase v g → MakesNow v (g ++ processed_into_next (master_now s v) v.tasks)
  makes_now v g b =
      let l = master_now s v in
      let new = processed_into_next l v.tasks in
      record {
        older = b.older;
        done = b.done ++ new;
        processed = ap (λ (x : List Waiting). x ++ new) b.processed ∙ append_assoc b.older b.done new;
        had = next_had l v.tasks b.done b.had;
        before = b.done;
        wait = each-map (IsNowOr new (IsOld v b.done)) (λ w. IsAmong (b.done ++ new) w × IsNowOr new (IsOld v b.done) w)
            (λ w f. (among_both w f, f)) (processed_by l v.tasks).waiting (next_waiting (IsOld v b.done) l v.tasks b.old);
      }
    where
      among_both : (w : Waiting) → IsNowOr (processed_into_next (master_now s v) v.tasks) (IsOld v b.done) w → IsAmong (b.done ++ processed_into_next (master_now s v) v.tasks) w
      among_both w (inl k) = among-later w b.done (processed_into_next (master_now s v) v.tasks) k
      among_both w (inr q) = among-more w b.done (processed_into_next (master_now s v) v.tasks) q.among

  wait_among : (v : View) (k : List Waiting) (n : MakesNow v k) → Each (IsAmong n.done) (processed_by (master_now s v) v.tasks).waiting
  wait_among v k n =
      let either = λ (w : Waiting). IsAmong n.done w × IsNowOr (processed_into_next (master_now s v) v.tasks) (IsOld v n.before) w in
      each-map either (IsAmong n.done) (λ w f. f.0) (processed_by (master_now s v) v.tasks).waiting n.wait

  -- where nothing is new in the second profile, the last state is new for all of them
  wait_old : (v : View) (k : List Waiting) (n : MakesNow v k) (R : Waiting → Type 0) → ((w : Waiting) → IsOld v n.before w → s.policy.second ≡ true → R w) → is_nothing_new (master_now s v) v.tasks ≡ true
      → Each (λ w. s.policy.second ≡ true → R w) (processed_by (master_now s v) v.tasks).waiting
  wait_old v k n R f t =
      let either = λ (w : Waiting). IsAmong n.done w × IsNowOr (processed_into_next (master_now s v) v.tasks) (IsOld v n.before) w in
      each-map either (λ w. s.policy.second ≡ true → R w) (λ w o x. from w o.1 (nothing_anew s (master_now s v) v.tasks refl t x) x) (processed_by (master_now s v) v.tasks).waiting n.wait
    where
      from : (w : Waiting) → IsNowOr (processed_into_next (master_now s v) v.tasks) (IsOld v n.before) w → processed_into_next (master_now s v) v.tasks ≡ [] → s.policy.second ≡ true → R w
      from w (inl k) e x = absurd (subst (λ (ws : List Waiting). IsAmong ws w) e k)
      from w (inr q) e x = f w q x

  -- by its own id, and by that of the accepted state
  old_new : (v : View) (before : List Waiting) (w : Waiting) → IsOld v before w → IsNewFor s P (id_of v.node.accepted) w
  old_new v before w q = subst (λ (id : StateId). IsNewFor s P id w) (λ i. record { term = sym q.last.term i; version = sym q.last.version i }) q.new

  left_among : (v : View) (k : List Waiting) (n : MakesNow v k) → Each (λ w. w.processed ≡ true → IsAmong n.done w) (tasks_after (master_now s v) v.tasks).waiting
  left_among v k n =
      let l = master_now s v in
      each-after (λ w. w.processed ≡ true → IsAmong n.done w) l v.tasks (each-map (IsAmong n.done) (λ w. w.processed ≡ true → IsAmong n.done w) (λ w a t. a) (processed_by l v.tasks).waiting (wait_among v k n))

  -- the state that is published is new for those that wait
  left_new : (v : View) (k : List Waiting) (n : MakesNow v k) (version : ℕ) → Processes s P v (Notes StateMade) → Each (Of P.came) (processed_by (master_now s v) v.tasks).waiting
      → ((w : Waiting) → P.came w.conn w.request → P.processed w v.node (next.value_now s v) ⊎ WasNewFor h P v.node w → P.anew w (record { term = v.node.term; version = version }))
      → Each (λ w. w.processed ≡ true → IsNewFor s P (record { term = v.node.term; version = version }) w) (tasks_after (master_now s v) v.tasks).waiting
  left_new v k n version a came renew =
      let l = master_now s v in
      let either = λ (w : Waiting). IsAmong n.done w × IsNowOr (processed_into_next l v.tasks) (IsOld v n.before) w in
      each-after (λ w. w.processed ≡ true → IsNewFor s P (record { term = v.node.term; version = version }) w) l v.tasks
      (each-map (λ w. either w × Of P.came w) (λ w. w.processed ≡ true → IsNewFor s P (record { term = v.node.term; version = version }) w) (λ w o t x. renew w o.1 (cause w o.0.1 x)) (processed_by l v.tasks).waiting
      (each-both either (Of P.came) (processed_by l v.tasks).waiting n.wait came))
    where
      cause : (w : Waiting) → IsNowOr (processed_into_next (master_now s v) v.tasks) (IsOld v n.before) w → s.policy.second ≡ true → P.processed w v.node (next.value_now s v) ⊎ WasNewFor h P v.node w
      cause w (inl k) x = inl (a w k)
      cause w (inr q) x = inr (record { new = q.new x; last = q.last; committed = q.committed })

  -- the state is published, or the node gives up
  keeps-publishes : (v : View) (k : List Waiting) → MakesNow v k → Processes s P v (Notes StateMade) → Each (Of P.came) (processed_by (master_now s v) v.tasks).waiting → doing.is_leader v.mode ≡ true → v.node.election_won ≡ true
      → Keeps h s P (moved s v (Notes StateMade)) k (next.publishes s v (moved s v (Notes StateMade))) (Holds h s P)
  keeps-publishes v k n a came l won =
      let made = moved s v (Notes StateMade) in
      let act = next.value_act s v in
      let left = each-after (Of P.came) (master_now s v) v.tasks came in
      keeps-item h s P made k (doing.act_now s made act) _ (Holds h s P) refl
      (λ b. keeps-if h s P (doing.after_act s made act) k (doing.takes s made act) _ _ (Holds h s P)
      (λ t. keeps-steady h s P _ k _ (Holds h s P) (steady-sends s _ _)
      (holds-value h s P made k n.older n.done (v.node.accepted.version + 1) (next.config_now s v) (next.value_now s v) (doing.reply_now s made act) t l won b.0
      (left_new v k n (v.node.accepted.version + 1) a came (b.1 t)) n.processed n.had (left_among v k n) left))
      (λ t. keeps-becomes_candidate h s P _ k))

  -- what is made of the answers, where nothing is new, and where something is
  keeps-made : (v : View) (g : List Waiting) → HasBase v g
      → Each (MayBeShown h P v.node.accepted) v.tasks.waiting → Each (Of P.came) v.tasks.waiting
      → (HasReached P.low v → is_nothing_new (master_now s v) v.tasks ≡ true → IsSettled h P.low (master_now s v))
      → (is_nothing_new (master_now s v) v.tasks ≡ true → MakesNow v (g ++ processed_into_next (master_now s v) v.tasks)
      → Each (Of P.came) (moved s v (Notes StateMade)).tasks.waiting → Holds h s P (place (moved s v (Notes StateMade)) (g ++ processed_into_next (master_now s v) v.tasks)))
      → doing.is_leader v.mode ≡ true → v.node.election_won ≡ true → Keeps h s P v g (next.makes_state s v) (Holds h s P)
  keeps-made v g b shown came c same l won =
      let master = master_now s v in
      let k = g ++ processed_into_next master v.tasks in
      let n = makes_now v g b in
      let made = moved s v (Notes StateMade) in
      let all : Each (Of P.came) (processed_by (master_now s v) v.tasks).waiting = of-waiting P.came master v.tasks came in
      let left : Each (Of P.came) (moved s v (Notes StateMade)).tasks.waiting = each-after (Of P.came) master v.tasks all in
      let rest : List Item = if is_nothing_new master v.tasks then [] else next.publishes s v made in
      let new = wait_old v k n (λ w. P.anew w (id_of v.node.accepted)) (λ w q. old_new v n.before w q) in
      keeps-replies h s P v g (next_answers master v.tasks) (Notes StateMade ∷ rest) (Holds h s P)
      (λ r. true-later h s P k _ (next_answers master v.tasks) (grown s made k rest) (true-next h s P k master v.tasks n.older n.done refl n.processed n.had (wait_among v k n) new shown (c r)))
      (keeps-item h s P v g (Notes StateMade) _ (Holds h s P) refl
      (λ a. keeps-if h s P made k (is_nothing_new master v.tasks) [] _ (Holds h s P)
      (λ e. keeps-none h s P made k (Holds h s P) (same e n left))
      (λ e. keeps-publishes v k n a all l won)))

  keeps-makes_state : (v : View) (g : List Waiting) → IsReadyToGo h s P (place v g) → doing.is_leader v.mode ≡ true → next.is_in_flight v.publication ≡ false → doing.may_win s v ≡ true → Keeps h s P v g (next.makes_state s v) (Holds h s P)
  keeps-makes_state v g r l f m = from v.publication refl f
    where
      from : (o : Option Publication) → v.publication ≡ o → next.is_in_flight o ≡ false → Keeps h s P v g (next.makes_state s v) (Holds h s P)
      from None n e =
          let new = r.ready.leads.new l n in
          let never = something_new (master_now s v) v.tasks new.older in
          let nobody = r.ready.empty l n m in
          keeps-made v g (base_empty v g nobody) (subst (Each (MayBeShown h P v.node.accepted)) (sym nobody) tt) r.came
          (λ q t. absurd (both_ways _ never t)) (λ t k c. absurd (both_ways _ never t)) l (r.ready.leads.won l)
      from (Some p) n e =
          let done = r.ready.leads.done l p n (finished p.finished e) in
          let some : is_some v.publication ≡ true = ap is_some n in
          let made = r.made l some in
          let base = base-made v g made done in
          keeps-made v g base (each-map (Of P.came) (MayBeShown h P v.node.accepted) (λ w c. (done.committed, c)) v.tasks.waiting r.came) r.came
          (λ q t. record { committed = done.committed; config = done.settled; since = reached_last P.low v (r.ready.leads.won l) done.last q }) (same made (accepted_made v g made done)) l (r.ready.leads.won l)
        where
          finished : (b : Bool) → not b ≡ false → b ≡ true
          finished true e = refl
          finished false e = cc

          nothing : {q : Option Publication} → q ≡ None → q ≡ Some p → ⊥
          nothing k n = cc

          same : (made : IsMade h s P (place v g)) → made.as_published.state ≡ v.node.accepted → is_nothing_new (master_now s v) v.tasks ≡ true → MakesNow v (g ++ processed_into_next (master_now s v) v.tasks)
              → Each (Of P.came) (moved s v (Notes StateMade)).tasks.waiting → Holds h s P (place (moved s v (Notes StateMade)) (g ++ processed_into_next (master_now s v) v.tasks))
          same made accepted t k left = record {
            stands = record {
              leads = record { idle = λ x. absurd (both_ways _ x l); won = r.ready.leads.won; new = r.ready.leads.new; done = r.ready.leads.done };
              barred = λ x y. absurd (nothing y n);
            };
            made = λ x y. record {
              as_published = made.as_published;
              is_in = made.is_in;
              is_id = made.is_id;
              older = k.older;
              done = k.done;
              processed = k.processed;
              had = subst (λ (x : ClusterValue). MeetsEach x k.done) ((stays_accepted (master_now s v) v.tasks t).value ∙ sym (ap (λ (x : ClusterState). x.value) accepted)) k.had;
              among = left_among v (g ++ processed_into_next (master_now s v) v.tasks) k;
              new = each-after (λ w. w.processed ≡ true → IsNewFor s P (published_id v.node) w) (master_now s v) v.tasks
                  (each-map (IsNewFor s P (published_id v.node)) (λ w. w.processed ≡ true → IsNewFor s P (published_id v.node) w) (λ w n p. n) (processed_by (master_now s v) v.tasks).waiting
                  (wait_old v (g ++ processed_into_next (master_now s v) v.tasks) k (λ w. P.anew w (published_id v.node)) (λ w q. q.new) t));
            };
            came = left;
          }

  -- votes are lacking only of those that responded to a publication
  has_responders : (s : Settings) (v : View) → next.wants_votes s v ≡ true → v.publication ≡ None → ⊥
  has_responders s v w n =
      let due = and_parts (doing.is_second s) _ w in
      let lacking = and_parts _ (next.lacks_vote s v) due.1 in
      let none : false ≡ true = subst (λ (o : Option Publication). list_any (λ (id : Id). not (has id v.node.join_votes)) (next.responders_of o) ≡ true) n lacking.1 in
      cc

  pub keeps-goes_on : (v : View) (g : List Waiting) → IsReadyToGo h s P (place v g) → Keeps h s P v g (next.goes_on s v) (Holds h s P)
  keeps-goes_on v g r =
      keeps-if h s P v g (doing.is_leader v.mode && not (next.is_in_flight v.publication)) _ [] (Holds h s P)
      (λ e.
      let parts = and_parts _ _ e in
      keeps-if h s P v g (doing.may_win s v) _ _ (Holds h s P)
      (λ m. keeps-if h s P v g (next.wants_votes s v) _ _ (Holds h s P)
      (λ w. keeps-steady h s P v g _ (Holds h s P) (steady-asks_votes s v) (record { stands = record { leads = r.ready.leads; barred = λ l n. absurd (has_responders s v w n) }; made = r.made; came = r.came }))
      (λ w. keeps-makes_state v g r parts.0 (not-true _ parts.1) m))
      (λ m. keeps-steady h s P v g _ (Holds h s P) (steady-hands_over s v) (record { stands = record { leads = r.ready.leads; barred = λ l n. m }; made = r.made; came = r.came })))
      (λ e. keeps-none h s P v g (Holds h s P) (record { stands = record { leads = r.ready.leads; barred = λ l n. absurd (has_publication _ v.publication e l n) }; made = r.made; came = r.came }))

  -- a node that has won leads
  pub keeps-leads : (v : View) (g : List Waiting) → HasWon (standing v) → Keeps h s P v g (joins.leads s v) (Holds h s P)
  keeps-leads v g w =
      keeps-then h s P v g _ (next.goes_on s) (IsReadyToGo h s P) (Holds h s P)
      (keeps-item h s P v g (ChangesMode Leader v.node.term) _ (IsReadyToGo h s P) refl
      (λ b. keeps-item h s P _ g (Notes (Joined (s.me ∷ v.node.join_votes))) [] (IsReadyToGo h s P) refl (λ k. keeps-none h s P _ g (IsReadyToGo h s P) ready)))
      keeps-goes_on
    where
      nothing : (p : Publication) → v.publication ≡ Some p → v.publication ≡ None → ⊥
      nothing p e n = cc

      ready : IsReadyToGo h s P (place (moved s (moved s v (ChangesMode Leader v.node.term)) (Notes (Joined (s.me ∷ v.node.join_votes)))) g)
      ready = record {
        ready = record {
          leads = record { idle = λ e. cc; won = λ l. w.won; new = λ l n. w.new; done = λ l p e f. absurd (nothing p e w.unpublished) };
          empty = λ l n m. waiting-added (to_be_added v.tasks s.me) v.node.join_votes ∙ w.empty;
        };
        made = λ l e. absurd (true≢false (sym e ∙ ap is_some w.unpublished));
        came = subst (Each (Of P.came)) (sym (waiting-added (to_be_added v.tasks s.me) v.node.join_votes ∙ w.empty)) tt;
      }

  pub keeps-takes_member : (v : View) (g : List Waiting) (p : Id) → Holds h s P (place v g) → Keeps h s P v g (joins.takes_member s v p) (Holds h s P)
  keeps-takes_member v g p i =
      keeps-then h s P v g _ (next.goes_on s) (IsReadyToGo h s P) (Holds h s P)
      (keeps-item h s P v g (Notes (Joined (p ∷ []))) [] (IsReadyToGo h s P) refl (λ b. keeps-none h s P _ g (IsReadyToGo h s P) (record { ready = (ready-holds h s P (place v g) i).ready; made = λ l e. i.made l e; came = i.came })))
      keeps-goes_on
