-- A leader's tick.
use Rattle.std.proofs.Common.{◌≡◌, ℕ, Bool, true, false, List, [], ◌∷◌, ◌++◌, length, map, refl, sym, ap, subst, ◌∙◌}
use Rattle.state_journal.specs.declared.keeper.Keeper.{Ghosts}
use Rattle.std.specs.Prelude.{Option, if◌then◌else◌}
use Rattle.std.specs.List.{list_all}
use Rattle.std.proofs.lemmas.List.{append_assoc, append-nil}
use Rattle.voting_config.specs.Ids.{Id}
use Rattle.coord_state.specs.declared.coord.CoordState.{CoordState}
use Rattle.fault_checks.specs.declared.followers.Follower.{Follower}
use Rattle.fault_checks.specs.Followers.{Followers, stays, to_ask, to_drop_for_checks, to_drop_for_lag}
use Rattle.fault_checks.proofs.Keeping.{nobody_dropped}
use Rattle.master_tasks.specs.Queue.{Tasks, to_be_removed}
use Rattle.master_tasks.specs.declared.waiting.Waiting.{Waiting}
use Rattle.master_tasks.specs.Answering.{answers_by, left_by, timed_out, without_answered}
use Rattle.wire_frames.specs.declared.frame.WireMessage.TheVariants as message
use Rattle.policy_model.specs.declared.settings.Settings.{Settings}
use Rattle.policy_model.specs.declared.events.DropCause.{DropCause}
use Rattle.policy_model.specs.declared.events.DropCause.TheVariants.{Checks, Lag}
use Rattle.policy_model.specs.declared.events.MemberDrop.{MemberDrop}
use Rattle.policy_model.specs.Events.{Item, Drops, Notes, ExclusionsTimedOut, FollowersChecked}
use Rattle.policy_model.specs.Parts.{followers_ticked}
use Rattle.policy_model.specs.Views.{View, master_now}
use Rattle.policy_model.specs.Moves.{moved, moved_all}
use Rattle.policy_model.specs.Doing.{reply_all, send_all}
use Rattle.policy_model.specs.Checks.{drop_all, checks_followers}
use Rattle.policy_model.specs.Requests.{times_out_exclusions}
use Rattle.policy_model.proofs.Sweeps.{moved_all-append, moved_all-replies, moved_all-sends}
use Rattle.coordinator.specs.Plans.{frame_to, IsPlanned}
use Rattle.coordinator.specs.Ahead.{HasPlan}
use Rattle.coordinator.specs.declared.plan.Plan.{Plan}
use Rattle.coordinator.proofs.Foreseen.{has_planned}
use Rattle.coordinator.specs.Ticks.{all_removed, dropped, tasks_ticked, ticks_members, IsPlannedTick}
use Rattle.coordinator.specs.Showing.{Shown, showing, showing_all}
use Rattle.coordinator.specs.CoreActs.{CoreDid}
use Rattle.coordinator.specs.Views.{view_in}
use Rattle.coordinator.specs.Does.{Makes}
use Rattle.coordinator.specs.declared.coordinator.Coordinator.{Coordinator}
use Rattle.policy_model.specs.Doing.{then_rule, becomes_candidate}
use Rattle.policy_model.specs.NextState.{goes_on}
use Rattle.policy_model.specs.Rules.{gives_up, ticks_leader}
use Rattle.coordinator.proofs.Composing.{makes_then, ends_rule}
use Rattle.coordinator.proofs.Becoming.{makes_as}
use Rattle.coordinator.proofs.Quiet.{makes_replies, makes_sends, makes_note}

moved-drops : (s : Settings) (v : View) (ids : List Id) (cause : DropCause) → record v { tasks = all_removed v.tasks ids } ≡ moved_all s v (drop_all ids cause)
moved-drops s v [] cause = refl
moved-drops s v (id ∷ ids) cause = moved-drops s (record v { tasks = to_be_removed v.tasks id }) ids cause

showing-drops : (o : Shown) (ids : List Id) (cause : DropCause) → record o { drops = o.drops ++ map (λ (id : Id). dropped cause id) ids } ≡ showing_all o (drop_all ids cause)
showing-drops o [] cause = ap (λ (l : List MemberDrop). record o { drops = l }) (append-nil o.drops)
showing-drops o (id ∷ ids) cause =
    ap (λ (l : List MemberDrop). record o { drops = l }) (sym (append_assoc o.drops (dropped cause id ∷ []) (map (λ (x : Id). dropped cause x) ids)))
    ∙ showing-drops (showing o (Drops id cause)) ids cause

moved-times : (s : Settings) (v : View) → moved_all s v (times_out_exclusions s v) ≡ moved s v (Notes ExclusionsTimedOut)
moved-times s v =
    let answers = answers_by (timed_out v.node.committed v.moment) v.tasks.waiting in
    moved_all-append s v (reply_all s answers) (Notes ExclusionsTimedOut ∷ []) ∙ ap (λ (x : View). moved s x (Notes ExclusionsTimedOut)) (moved_all-replies s v answers)

moved-checks : (s : Settings) (u : View) → moved_all s u (checks_followers s u)
    ≡ record u { tasks = all_removed (all_removed u.tasks (to_drop_for_checks u.followers.watched u.moment)) (to_drop_for_lag u.followers.watched u.moment); followers = followers_ticked u.followers u.moment }
moved-checks s u =
    let xs = drop_all (to_drop_for_checks u.followers.watched u.moment) Checks in
    let ys = drop_all (to_drop_for_lag u.followers.watched u.moment) Lag in
    let zs = send_all s (to_ask u.followers.watched u.moment) (message.FollowerCheck u.node.term) in
    moved_all-append s u (xs ++ ys) (Notes FollowersChecked ∷ zs)
    ∙ ap (λ (x : View). moved_all s x (Notes FollowersChecked ∷ zs)) (moved_all-append s u xs ys
    ∙ ap (λ (x : View). moved_all s x ys) (sym (moved-drops s u (to_drop_for_checks u.followers.watched u.moment) Checks))
    ∙ sym (moved-drops s (record u { tasks = all_removed u.tasks (to_drop_for_checks u.followers.watched u.moment) }) (to_drop_for_lag u.followers.watched u.moment) Lag))
    ∙ moved_all-sends s _ (to_ask u.followers.watched u.moment) (message.FollowerCheck u.node.term)

-- the plan of before is the plan after them
pub tick_planned : (s : Settings) (v : View) (plan : Option Plan) → IsPlannedTick s v plan → IsPlanned s (moved_all s v (ticks_members s v)) plan
tick_planned s v plan is =
    let u = moved s v (Notes ExclusionsTimedOut) in
    let here : moved_all s v (ticks_members s v) ≡ record u { tasks = all_removed (all_removed u.tasks (to_drop_for_checks u.followers.watched u.moment)) (to_drop_for_lag u.followers.watched u.moment); followers = followers_ticked u.followers u.moment } =
    moved_all-append s v (times_out_exclusions s v) (checks_followers s (moved_all s v (times_out_exclusions s v)))
    ∙ ap (λ (x : View). moved_all s x (checks_followers s x)) (moved-times s v) ∙ moved-checks s u in
    subst (λ (w : View). IsPlanned s w plan) (sym here)
    (has_planned s (record u { tasks = tasks_ticked v; followers = followers_ticked u.followers u.moment }) (master_now s v) (tasks_ticked v) plan is refl refl)

no_items : {A : Type 0} (xs : List A) → length xs ≡ 0 → xs ≡ []
no_items [] h = refl
no_items (x ∷ xs) h = absurd cc

-- where nothing waits and all followers stay, the tasks are as before
pub tasks_kept : (v : View) → length v.tasks.waiting ≡ 0 → list_all (λ (f : Follower). stays f v.moment) v.followers.watched ≡ true → tasks_ticked v ≡ v.tasks
tasks_kept v none all =
    let nobody = nobody_dropped v.followers.watched v.moment all in
    let late = timed_out v.node.committed v.moment in
    let empty : v.tasks.waiting ≡ [] = no_items v.tasks.waiting none in
    let same : without_answered late v.tasks ≡ v.tasks =
    ap (λ (ws : List Waiting). record v.tasks { waiting = left_by late ws }) empty ∙ ap (λ (ws : List Waiting). record v.tasks { waiting = ws }) (sym empty) in
    ap (λ (x : List Id). all_removed (all_removed (without_answered late v.tasks) x) (to_drop_for_lag v.followers.watched v.moment)) nobody.0
    ∙ ap (λ (x : List Id). all_removed (without_answered late v.tasks) x) nobody.1
    ∙ same

pub planned_tick : (s : Settings) (v : View) (plan : Option Plan) (t3 t2 t1 copy : Tasks) (checks lag committed : List Id) (fs : Followers) → t3 ≡ all_removed t2 lag → t2 ≡ all_removed t1 checks → t1 ≡ without_answered (timed_out committed v.moment) copy → copy ≡ v.tasks
    → committed ≡ v.node.committed → checks ≡ to_drop_for_checks fs.watched v.moment → lag ≡ to_drop_for_lag fs.watched v.moment → fs ≡ v.followers
    → HasPlan (master_now s v) t3 plan → IsPlannedTick s v plan
planned_tick s v plan t3 t2 t1 copy checks lag committed fs t3_is t2_is t1_is copy_is committed_is checks_are lag_is fs_are has =
    subst (λ (t : Tasks). HasPlan (master_now s v) t plan)
    (t3_is ∙ ap (λ (t : Tasks). all_removed t lag) (t2_is ∙ ap (λ (t : Tasks). all_removed t checks) (t1_is ∙ ap (λ (c : List Id). without_answered (timed_out c v.moment) copy) committed_is ∙ ap (λ (t : Tasks). without_answered (timed_out v.node.committed v.moment) t) copy_is))
    ∙ ap (λ (x : List Id). all_removed (all_removed (without_answered (timed_out v.node.committed v.moment) v.tasks) x) lag) (checks_are ∙ ap (λ (f : Followers). to_drop_for_checks f.watched v.moment) fs_are)
    ∙ ap (λ (x : List Id). all_removed (all_removed (without_answered (timed_out v.node.committed v.moment) v.tasks) (to_drop_for_checks v.followers.watched v.moment)) x) (lag_is ∙ ap (λ (f : Followers). to_drop_for_lag f.watched v.moment) fs_are))
    has

module _ {K : Type 0} (k : Ghosts K) where
  abbrev view : Coordinator K → View
  view c = view_in k c

  abbrev Make : (old new : Coordinator K) (sent sent_now : Shown) → List Item → Type 0
  Make old new sent sent_now is = Makes k old new sent sent_now is

  did-drops : (c : CoordState K) (ids : List Id) (cause : DropCause) → CoreDid k c c (drop_all ids cause)
  did-drops c [] cause = refl
  did-drops c (id ∷ ids) cause = did-drops c ids cause

  makes_drops : (c : Coordinator K) (o : Shown) (ids : List Id) (cause : DropCause) → Make c (record c { tasks = all_removed c.tasks ids }) o (record o { drops = o.drops ++ map (λ (id : Id). dropped cause id) ids }) (drop_all ids cause)
  makes_drops c o ids cause = record {
    goes = record { settings = refl; clock = refl; view = moved-drops c.settings (view c) ids cause; core = did-drops c.core ids cause };
    shown = showing-drops o ids cause;
  }

  pub times_out : (old : Coordinator K) (tasks : Tasks) (o o1 : Shown) (committed : List Id) → committed ≡ (view old).node.committed → tasks ≡ without_answered (timed_out committed old.moment) old.tasks
      → o1 ≡ record o { replies = o.replies ++ answers_by (timed_out committed old.moment) old.tasks.waiting }
      → Make old (record old { tasks = tasks }) o o1 (times_out_exclusions old.settings (view old))
  times_out old tasks o o1 committed committed_is left sent =
      let s = old.settings in
      let v = view old in
      let late = timed_out v.node.committed old.moment in
      let left_here : tasks ≡ without_answered late old.tasks = left ∙ ap (λ (c : List Id). without_answered (timed_out c old.moment) old.tasks) committed_is in
      let sent_here : record o { replies = o.replies ++ answers_by late old.tasks.waiting } ≡ o1 =
      ap (λ (c : List Id). record o { replies = o.replies ++ answers_by (timed_out c old.moment) old.tasks.waiting }) (sym committed_is) ∙ sym sent in
      let replies : Make old old o o1 (reply_all s (answers_by late old.tasks.waiting)) =
      subst (λ (x : Shown). Make old old o x (reply_all s (answers_by late old.tasks.waiting))) sent_here (makes_replies k old o (answers_by late old.tasks.waiting)) in
      makes_then k old old (record old { tasks = tasks }) o o1 o1 (reply_all s (answers_by late old.tasks.waiting)) (Notes ExclusionsTimedOut ∷ []) replies
      (makes_note k old (record old { tasks = tasks }) o1 ExclusionsTimedOut refl refl refl (ap (λ (t : Tasks). record v { tasks = t }) left_here))

  pub checks_made : (old : Coordinator K) (followers : Followers) (tasks1 tasks2 : Tasks) (o o1 o2 o3 : Shown) (checks lag ask : List Id) (term : ℕ) → checks ≡ to_drop_for_checks old.followers.watched old.moment → lag ≡ to_drop_for_lag old.followers.watched old.moment
      → ask ≡ to_ask old.followers.watched old.moment → term ≡ (view old).node.term → followers ≡ followers_ticked old.followers old.moment → tasks1 ≡ all_removed old.tasks checks → tasks2 ≡ all_removed tasks1 lag
      → o1 ≡ record o { drops = o.drops ++ map (λ (id : Id). dropped Checks id) checks } → o2 ≡ record o1 { drops = o1.drops ++ map (λ (id : Id). dropped Lag id) lag }
      → o3 ≡ record o2 { frames = o2.frames ++ map (λ (to : Id). frame_to old.settings.me (message.FollowerCheck term) to) ask }
      → Make old (record old { followers = followers; tasks = tasks2 }) o o3 (checks_followers old.settings (view old))
  checks_made old followers tasks1 tasks2 o o1 o2 o3 checks lag ask term checks_are lag_is ask_is term_is followers_are tasks1_are tasks2_are o1_is o2_is o3_is =
      let s = old.settings in
      let v = view old in
      let a = record old { tasks = tasks1 } in
      let b = record old { tasks = tasks2 } in
      let d = record old { followers = followers; tasks = tasks2 } in
      let m = message.FollowerCheck term in
      let first : Make old a o o1 (drop_all checks Checks) =
      subst (λ (t : Tasks). Make old (record old { tasks = t }) o o1 (drop_all checks Checks)) (sym tasks1_are)
      (subst (λ (x : Shown). Make old (record old { tasks = all_removed old.tasks checks }) o x (drop_all checks Checks)) (sym o1_is) (makes_drops old o checks Checks)) in
      let second : Make a b o1 o2 (drop_all lag Lag) =
      subst (λ (t : Tasks). Make a (record old { tasks = t }) o1 o2 (drop_all lag Lag)) (sym tasks2_are)
      (subst (λ (x : Shown). Make a (record old { tasks = all_removed tasks1 lag }) o1 x (drop_all lag Lag)) (sym o2_is) (makes_drops a o1 lag Lag)) in
      let third : Make b d o2 o2 (Notes FollowersChecked ∷ []) =
      makes_note k b d o2 FollowersChecked refl refl refl (ap (λ (f : Followers). record (view b) { followers = f }) followers_are) in
      let fourth : Make d d o2 o3 (send_all s ask m) =
      subst (λ (x : Shown). Make d d o2 x (send_all s ask m)) (sym o3_is) (makes_sends k d o2 ask m) in
      let rest : Make b d o2 o3 (Notes FollowersChecked ∷ send_all s ask m) = makes_then k b d d o2 o2 o3 (Notes FollowersChecked ∷ []) (send_all s ask m) third fourth in
      let drops : Make old b o o2 (drop_all checks Checks ++ drop_all lag Lag) = makes_then k old a b o o1 o2 (drop_all checks Checks) (drop_all lag Lag) first second in
      makes_as k old d o o3 _ _
      (makes_then k old b d o o2 o3 (drop_all checks Checks ++ drop_all lag Lag) (Notes FollowersChecked ∷ send_all s ask m) drops rest)
      (ap (λ (x : List Id). drop_all x Checks ++ drop_all lag Lag ++ Notes FollowersChecked ∷ send_all s ask m) checks_are
      ∙ ap (λ (x : List Id). drop_all (to_drop_for_checks old.followers.watched old.moment) Checks ++ drop_all x Lag ++ Notes FollowersChecked ∷ send_all s ask m) lag_is
      ∙ ap (λ (x : List Id). drop_all (to_drop_for_checks old.followers.watched old.moment) Checks ++ drop_all (to_drop_for_lag old.followers.watched old.moment) Lag ++ Notes FollowersChecked ∷ send_all s x m) ask_is
      ∙ ap (λ (n : ℕ). drop_all (to_drop_for_checks old.followers.watched old.moment) Checks ++ drop_all (to_drop_for_lag old.followers.watched old.moment) Lag ++ Notes FollowersChecked ∷ send_all s (to_ask old.followers.watched old.moment) (message.FollowerCheck n)) term_is)

  -- where all stay, those that are due are asked
  pub checks_kept : (old : Coordinator K) (followers : Followers) (o o1 : Shown) (ask : List Id) (term : ℕ) → list_all (λ (f : Follower). stays f old.moment) old.followers.watched ≡ true
      → ask ≡ to_ask old.followers.watched old.moment → term ≡ (view old).node.term → followers ≡ followers_ticked old.followers old.moment
      → o1 ≡ record o { frames = o.frames ++ map (λ (to : Id). frame_to old.settings.me (message.FollowerCheck term) to) ask }
      → Make old (record old { followers = followers }) o o1 (checks_followers old.settings (view old))
  checks_kept old followers o o1 ask term all ask_is term_is followers_are o1_is =
      let nobody = nobody_dropped old.followers.watched old.moment all in
      let same : o ≡ record o { drops = o.drops ++ [] } = ap (λ (l : List MemberDrop). record o { drops = l }) (sym (append-nil o.drops)) in
      checks_made old followers old.tasks old.tasks o o o o1 [] [] ask term (sym nobody.0) (sym nobody.1) ask_is term_is followers_are refl refl same same o1_is

  pub ticks_gone : (old mid new : Coordinator K) (o o0 o1 o2 : Shown) → o0 ≡ o → gives_up old.settings (view old) ≡ false → Make old mid o0 o1 (ticks_members old.settings (view old)) → Make mid new o1 o2 (goes_on mid.settings (view mid))
      → Make old new o o2 (ticks_leader old.settings (view old))
  ticks_gone old mid new o o0 o1 o2 same late members next =
      let s = old.settings in
      let v = view old in
      subst (λ (x : Shown). Make old new x o2 (ticks_leader s v)) same
      (subst (λ (is : List Item). Make old new o0 o2 is) (ap (λ (b : Bool). if b then becomes_candidate s v else then_rule s v (ticks_members s v) (goes_on s)) (sym late))
      (ends_rule k old mid new o0 o1 o2 (ticks_members s v) goes_on true members next))
