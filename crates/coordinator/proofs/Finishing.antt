-- A publication is finished by its commit.
use Rattle.std.proofs.Common.{◌≡◌, ◌≤◌, Bool, true, false, ◌&&◌, List, [], ◌∷◌, ◌++◌, length, refl, sym, ap, subst, ◌∙◌, arith}
use Rattle.state_journal.specs.declared.keeper.Keeper.{Ghosts}
use Rattle.std.specs.Prelude.{if◌then◌else◌, Option, None, Some}
use Rattle.std.proofs.lemmas.Bool.{both_ways}
use Rattle.cluster_state.specs.declared.state.StateId.{StateId}
use Rattle.cluster_state.specs.declared.messages.ApplyCommit.{ApplyCommit}
use Rattle.cluster_state.specs.declared.reply.Answer.{Answer}
use Rattle.voting_config.specs.Ids.{Id}
use Rattle.world_model.specs.declared.acts.Act.{Act}
use Rattle.world_model.specs.declared.acts.Act.TheVariants.{Commit}
use Rattle.world_model.specs.declared.acts.ActReply.{ActReply}
use Rattle.world_model.specs.declared.acts.ActReply.TheVariants.{Taken, Refused, Stopped}
use Rattle.world_model.specs.declared.acts.Outcome.TheVariants.{Answered}
use Rattle.world_model.specs.NodeState.{NodeState}
use Rattle.world_model.specs.Replies.{is_taken}
use Rattle.world_model.specs.Moves.{node_state_after}
use Rattle.master_tasks.specs.Queue.{Tasks}
use Rattle.master_tasks.specs.declared.tasks.Applied.{Applied}
use Rattle.master_tasks.specs.declared.waiting.Outgoing.{Outgoing}
use Rattle.master_tasks.specs.declared.waiting.Waiting.{Waiting}
use Rattle.master_tasks.specs.Answering.{answers_by, applied_in, left_by, without_answered}
use Rattle.master_tasks.specs.NextState.{Leader as Master, leader_of}
use Rattle.policy_model.specs.declared.settings.Settings.{Settings}
use Rattle.policy_model.specs.Events.{Item, Notes, AppliedAnswered}
use Rattle.policy_model.specs.Parts.{policy_at}
use Rattle.policy_model.specs.Views.{View}
use Rattle.policy_model.specs.Moves.{moved, moved_all}
use Rattle.policy_model.specs.Doing.{is_leader, reply_all, reply_now, act_now, after_act, takes}
use Rattle.policy_model.specs.Publications.{answers_applied, on_commit}
use Rattle.policy_model.proofs.Sweeps.{moved_all-append, moved_all-replies}
use Rattle.coordinator.specs.Plans.{IsPlanned}
use Rattle.coordinator.specs.Ahead.{HasPlan, IsAnswered, IsAnsweredBy, IsApplied, IsPlannedCommit, finishes, tasks_applied}
use Rattle.coordinator.specs.declared.committing.Finish.{Finish}
use Rattle.coordinator.specs.Showing.{Shown}
use Rattle.coordinator.specs.Views.{view_in}
use Rattle.coordinator.specs.Does.{Makes, Fails}
use Rattle.coordinator.specs.declared.coordinator.Coordinator.{Coordinator}
use Rattle.coordinator.specs.declared.plan.Plan.{Plan}
use Rattle.coordinator.proofs.Composing.{makes_then, fails_before}
use Rattle.coordinator.proofs.Becoming.{makes_as}
use Rattle.coordinator.proofs.Counting.{length-answers}
use Rattle.coordinator.proofs.Quiet.{makes_replies, makes_note}
use Rattle.coordinator.proofs.Foreseen.{has_planned}
use Rattle.coordinator.proofs.Counted.{planned_there}

committed_after : (n : NodeState) (c : ApplyCommit) (r : ActReply) → is_taken r ≡ true → (node_state_after n (Commit c) (Answered r)).committed ≡ n.accepted.config
committed_after n c (Taken sends wins) h = refl
committed_after n c (Refused cause) h = cc
committed_after n c Stopped h = cc

moved-applied : (s : Settings) (u : View) → moved_all s u (answers_applied s u) ≡ moved s u (Notes AppliedAnswered)
moved-applied s u =
    let answers = answers_by (applied_in u.node.committed u.node.accepted) u.tasks.waiting in
    moved_all-append s u (reply_all s answers) (Notes AppliedAnswered ∷ []) ∙ ap (λ (x : View). moved s x (Notes AppliedAnswered)) (moved_all-replies s u answers)

-- the master that goes on once the accepted configuration is this one
abbrev master_on : Settings → View → List Id → Master
master_on s v committed = leader_of s.me v.node.term v.node.accepted committed v.node.join_votes (policy_at s v.led_from v.moment)

-- what is made of the tasks before the act is what is needed after it
answered_after : (s : Settings) (v : View) (c : ApplyCommit) (applied : Option Applied) → takes s v (Commit c) ≡ true → IsApplied v applied → IsAnsweredBy (after_act s v (Commit c)) applied
answered_after s v c None t is = is
answered_after s v c (Some applied) t is =
    subst (λ (ids : List Id). (applied.tasks ≡ without_answered (applied_in ids v.node.accepted) v.tasks) × (applied.replies.sent ≡ answers_by (applied_in ids v.node.accepted) v.tasks.waiting))
    (sym (committed_after v.node c (reply_now s v (Commit c)) t)) is

-- the plan of before is the plan after the commit
commit_planned : (s : Settings) (v : View) (c : ApplyCommit) (plan : Option Plan) → takes s v (Commit c) ≡ true → HasPlan (master_on s v v.node.accepted.config) (tasks_applied v) plan
    → IsPlanned s (moved_all s (after_act s v (Commit c)) (answers_applied s (after_act s v (Commit c)))) plan
commit_planned s v c plan t has =
    let u = after_act s v (Commit c) in
    let committed = committed_after v.node c (reply_now s v (Commit c)) t in
    subst (λ (w : View). IsPlanned s w plan) (sym (moved-applied s u))
    (has_planned s (moved s u (Notes AppliedAnswered)) (master_on s v v.node.accepted.config) (tasks_applied v) plan has
    (ap (λ (x : List Id). master_on s v x) (sym committed))
    (ap (λ (x : List Id). without_answered (applied_in x v.node.accepted) v.tasks) (sym committed)))

no_items : {A : Type 0} (xs : List A) → length xs ≡ 0 → xs ≡ []
no_items [] h = refl
no_items (x ∷ xs) h = absurd cc

-- where no request waits, nothing is answered
none_left : (decide : Waiting → Option Answer) (t : Tasks) → t.waiting ≡ [] → without_answered decide t ≡ t
none_left decide t none =
    ap (λ (ws : List Waiting). record t { waiting = left_by decide ws }) none ∙ ap (λ (ws : List Waiting). record t { waiting = ws }) (sym none)

pub planned_idle : (s : Settings) (v : View) (plan : Option Plan) (committed : List Id) → committed ≡ v.node.accepted.config → length v.tasks.waiting ≡ 0 → HasPlan (master_on s v committed) v.tasks plan
    → IsPlannedCommit s v (record { applied = None; plan = plan })
planned_idle s v plan committed committed_is idle has =
    let none = no_items v.tasks.waiting idle in
    record {
      applied = λ l. none;
      plan = λ l. subst (λ (t : Tasks). HasPlan (master_on s v v.node.accepted.config) t plan) (sym (none_left (applied_in v.node.accepted.config v.node.accepted) v.tasks none))
          (subst (λ (x : List Id). HasPlan (master_on s v x) v.tasks plan) committed_is has);
    }

pub planned_applied : (s : Settings) (v : View) (applied : Applied) (plan : Option Plan) (committed : List Id) → committed ≡ v.node.accepted.config
    → applied.tasks ≡ without_answered (applied_in committed v.node.accepted) v.tasks → applied.replies.sent ≡ answers_by (applied_in committed v.node.accepted) v.tasks.waiting
    → HasPlan (master_on s v committed) applied.tasks plan → IsPlannedCommit s v (record { applied = Some applied; plan = plan })
planned_applied s v applied plan committed committed_is left sent has =
    let left_here : applied.tasks ≡ tasks_applied v = left ∙ ap (λ (x : List Id). without_answered (applied_in x v.node.accepted) v.tasks) committed_is in
    record {
      applied = λ l. (left_here, sent ∙ ap (λ (x : List Id). answers_by (applied_in x v.node.accepted) v.tasks.waiting) committed_is);
      plan = λ l. subst (λ (t : Tasks). HasPlan (master_on s v v.node.accepted.config) t plan) left_here (subst (λ (x : List Id). HasPlan (master_on s v x) applied.tasks plan) committed_is has);
    }

-- a node that leads not needs nothing
pub planned_nothing : (s : Settings) (v : View) → is_leader v.mode ≡ false → IsPlannedCommit s v (record { applied = None; plan = None })
planned_nothing s v l = record { applied = λ h. absurd (both_ways _ l h); plan = λ h. absurd (both_ways _ l h) }

module _ {K : Type 0} (k : Ghosts K) where
  abbrev view : Coordinator K → View
  view c = view_in k c

  abbrev Make : (old new : Coordinator K) (sent sent_now : Shown) → List Item → Type 0
  Make old new sent sent_now is = Makes k old new sent sent_now is

  -- who waited is answered, and the tasks are those that are left
  pub answered_made : (old : Coordinator K) (applied : Applied) (o o1 : Shown) → IsAnswered k old (Some applied) → o1 ≡ record o { replies = o.replies ++ applied.replies.sent }
      → Make old (record old { tasks = applied.tasks }) o o1 (answers_applied old.settings (view old))
  answered_made old applied o o1 is shown =
      let s = old.settings in
      let v = view old in
      let answers = answers_by (applied_in v.node.committed v.node.accepted) old.tasks.waiting in
      let sent_here : record o { replies = o.replies ++ answers } ≡ o1 = ap (λ (xs : List Outgoing). record o { replies = o.replies ++ xs }) (sym is.1) ∙ sym shown in
      let replies : Make old old o o1 (reply_all s answers) = subst (λ (x : Shown). Make old old o x (reply_all s answers)) sent_here (makes_replies k old o answers) in
      makes_then k old old (record old { tasks = applied.tasks }) o o1 o1 (reply_all s answers) (Notes AppliedAnswered ∷ []) replies
      (makes_note k old (record old { tasks = applied.tasks }) o1 AppliedAnswered refl refl refl (ap (λ (t : Tasks). record v { tasks = t }) is.0))

  pub few_answered : (old : Coordinator K) (applied : Applied) → IsAnswered k old (Some applied) → length applied.replies.sent ≤ length old.tasks.waiting
  few_answered old applied is =
      let v = view old in
      let few = length-answers (applied_in v.node.committed v.node.accepted) old.tasks.waiting in
      let same = ap length is.1 in
      omega (arith, few, same)

  -- nobody waits, and all stays as it is
  pub answered_none : (old : Coordinator K) (o : Shown) → IsAnswered k old None → Make old old o o (answers_applied old.settings (view old))
  answered_none old o none =
      let v = view old in
      let decide = applied_in v.node.committed v.node.accepted in
      makes_as k old old o o _ _
      (makes_note k old old o AppliedAnswered refl refl refl (ap (λ (t : Tasks). record v { tasks = t }) (sym (none_left decide v.tasks none))))
      (ap (λ (ws : List Waiting). reply_all old.settings (answers_by decide ws) ++ Notes AppliedAnswered ∷ []) (sym none))

  abbrev committing : Id → StateId → Act
  committing p id = Commit (record { source = p; term = id.term; version = id.version })

  abbrev items_by : Coordinator K → Id → StateId → Bool → List Item
  items_by c p id m =
      act_now c.settings (view c) (committing p id) ∷ (if m then finishes c.settings (after_act c.settings (view c) (committing p id)) else [])

  pub told_finish : (old mid new : Coordinator K) (o o1 o2 : Shown) (p : Id) (id : StateId) → (takes old.settings (view old) (committing p id) && is_leader mid.mode) ≡ true
      → Make old mid o o1 (act_now old.settings (view old) (committing p id) ∷ []) → Make mid new o1 o2 (finishes mid.settings (view mid))
      → Make old new o o2 (on_commit old.settings (view old) p id)
  told_finish old mid new o o1 o2 p id m did next =
      let s = old.settings in
      let v = view old in
      let act = committing p id in
      let m' : (takes s v act && is_leader (after_act s v act).mode) ≡ true = ap (λ (x : View). takes s v act && is_leader x.mode) (sym did.goes.view) ∙ m in
      makes_as k old new o o2 _ _
      (makes_then k old mid new o o1 o2 (act_now s v act ∷ []) (finishes mid.settings (view mid)) did next)
      (ap (λ (x : Settings). act_now s v act ∷ finishes x (view mid)) did.goes.settings ∙ ap (λ (x : View). act_now s v act ∷ finishes s x) did.goes.view
      ∙ ap (λ (b : Bool). items_by old p id b) (sym m'))

  pub told_none : (old mid : Coordinator K) (o o1 : Shown) (p : Id) (id : StateId) → (takes old.settings (view old) (committing p id) && is_leader mid.mode) ≡ false
      → Make old mid o o1 (act_now old.settings (view old) (committing p id) ∷ []) → Make old mid o o1 (on_commit old.settings (view old) p id)
  told_none old mid o o1 p id m did =
      let s = old.settings in
      let v = view old in
      let act = committing p id in
      let m' : (takes s v act && is_leader (after_act s v act).mode) ≡ false = ap (λ (x : View). takes s v act && is_leader x.mode) (sym did.goes.view) ∙ m in
      makes_as k old mid o o1 _ _ did (ap (λ (b : Bool). items_by old p id b) (sym m'))

  pub told_struck : (old new : Coordinator K) (o o1 : Shown) (p : Id) (id : StateId) → Fails k old new o o1 (act_now old.settings (view old) (committing p id) ∷ [])
      → Fails k old new o o1 (on_commit old.settings (view old) p id)
  told_struck old new o o1 p id fails = fails_before k old new o o1 (act_now old.settings (view old) (committing p id) ∷ []) _ fails

  pub plan_for_finish : (old mid : Coordinator K) (o o1 : Shown) (p : Id) (id : StateId) (finish : Finish) → IsPlannedCommit old.settings (view old) finish
      → Make old mid o o1 (act_now old.settings (view old) (committing p id) ∷ []) → takes old.settings (view old) (committing p id) ≡ true → is_leader mid.mode ≡ true
      → IsPlanned mid.settings (moved_all mid.settings (view mid) (answers_applied mid.settings (view mid))) finish.plan
  plan_for_finish old mid o o1 p id finish is did t l =
      planned_there k old mid (act_now old.settings (view old) (committing p id) ∷ []) finish.plan (λ s v. moved_all s v (answers_applied s v)) did.goes
      (commit_planned old.settings (view old) (record { source = p; term = id.term; version = id.version }) finish.plan t (is.plan (ap (λ (x : View). is_leader x.mode) (sym did.goes.view) ∙ l)))

  pub answers_for_finish : (old mid : Coordinator K) (o o1 : Shown) (p : Id) (id : StateId) (finish : Finish) → IsPlannedCommit old.settings (view old) finish
      → Make old mid o o1 (act_now old.settings (view old) (committing p id) ∷ []) → takes old.settings (view old) (committing p id) ≡ true → is_leader mid.mode ≡ true
      → IsAnswered k mid finish.applied
  answers_for_finish old mid o o1 p id finish is did t l =
      subst (λ (v : View). IsAnsweredBy v finish.applied) (sym did.goes.view)
      (answered_after old.settings (view old) (record { source = p; term = id.term; version = id.version }) finish.applied t (is.applied (ap (λ (x : View). is_leader x.mode) (sym did.goes.view) ∙ l)))
