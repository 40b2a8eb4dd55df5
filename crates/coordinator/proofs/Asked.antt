-- Plans of a leader whose tasks change before it goes on.
use Rattle.std.proofs.Common.{◌≡◌, ℕ, Bool, true, false, not, ◌&&◌, List, [], ◌∷◌, refl, sym, ap, subst, ◌∙◌}
use Rattle.state_journal.specs.declared.keeper.Keeper.{Ghosts}
use Rattle.std.specs.Prelude.{Option, if◌then◌else◌}
use Rattle.voting_config.specs.Ids.{Id}
use Rattle.cluster_state.specs.declared.request.Request.{Request}
use Rattle.master_tasks.specs.Queue.{Tasks, to_be_added, offered, arriving}
use Rattle.master_tasks.specs.NextState.{leader_of}
use Rattle.policy_model.specs.declared.settings.Settings.{Settings}
use Rattle.policy_model.specs.Events.{Item, Notes, Joined, Queued}
use Rattle.policy_model.specs.Parts.{policy_at}
use Rattle.policy_model.specs.Views.{View, master_now}
use Rattle.policy_model.specs.Moves.{moved_all}
use Rattle.policy_model.specs.Doing.{is_leader, may_win}
use Rattle.policy_model.specs.NextState.{goes_on, leads_on, hands_over, is_in_flight}
use Rattle.coordinator.specs.Plans.{IsPlanned}
use Rattle.coordinator.specs.Ahead.{HasPlan, queues_one}
use Rattle.coordinator.specs.Showing.{Shown}
use Rattle.coordinator.specs.Views.{view_in}
use Rattle.coordinator.specs.Does.{Makes}
use Rattle.coordinator.specs.declared.coordinator.Coordinator.{Coordinator}
use Rattle.coordinator.specs.declared.plan.Plan.{Plan}
use Rattle.coordinator.proofs.Composing.{ends_rule}
use Rattle.coordinator.proofs.Quiet.{makes_nothing, makes_note}
use Rattle.coordinator.proofs.Foreseen.{has_planned}

pub planned_member : (s : Settings) (v : View) (p : Id) (plan : Option Plan) (copy tasks : Tasks) → copy ≡ v.tasks → tasks ≡ to_be_added copy p
    → HasPlan (master_now s v) tasks plan → IsPlanned s (moved_all s v (Notes (Joined (p ∷ [])) ∷ [])) plan
planned_member s v p plan copy tasks copy_is tasks_is has =
    has_planned s (moved_all s v (Notes (Joined (p ∷ [])) ∷ [])) (master_now s v) tasks plan has refl
    (tasks_is ∙ ap (λ (t : Tasks). to_be_added t p) copy_is)

pub same_plan : (s : Settings) (v : View) (plan : Option Plan) (committed : List Id) (term : ℕ) (votes : List Id) (tasks : Tasks) → term ≡ v.node.term → votes ≡ v.node.join_votes
    → HasPlan (leader_of s.me term v.node.accepted committed votes (policy_at s v.led_from v.moment)) tasks plan → HasPlan (leader_of s.me v.node.term v.node.accepted committed v.node.join_votes (policy_at s v.led_from v.moment)) tasks plan
same_plan s v plan committed term votes tasks term_is votes_is has =
    subst (λ (x : ℕ). HasPlan (leader_of s.me x v.node.accepted committed v.node.join_votes (policy_at s v.led_from v.moment)) tasks plan) term_is
    (subst (λ (x : List Id). HasPlan (leader_of s.me term v.node.accepted committed x (policy_at s v.led_from v.moment)) tasks plan) votes_is has)

module _ {K : Type 0} (k : Ghosts K) where
  abbrev view : Coordinator K → View
  view c = view_in k c

  abbrev Make : (old new : Coordinator K) (sent sent_now : Shown) → List Item → Type 0
  Make old new sent sent_now is = Makes k old new sent sent_now is

  pub queued_whole : (old new : Coordinator K) (o o0 o1 : Shown) (conn : ℕ) (request : Request) (tasks : Tasks) → o0 ≡ o → tasks ≡ offered old.tasks (arriving conn old.moment request)
      → Make (record old { tasks = tasks }) new o0 o1 (goes_on old.settings (view (record old { tasks = tasks })))
      → Make old new o o1 (queues_one old.settings (view old) conn request)
  queued_whole old new o o0 o1 conn request tasks same tasks_is next =
      subst (λ (x : Shown). Make old new x o1 (queues_one old.settings (view old) conn request)) same
      (ends_rule k old (record old { tasks = tasks }) new o0 o0 o1 (Notes (Queued conn request) ∷ []) goes_on true
      (makes_note k old (record old { tasks = tasks }) o0 (Queued conn request) refl refl refl (ap (λ (t : Tasks). record (view old) { tasks = t }) tasks_is)) next)

  -- a leader with a publication in flight goes on with nothing
  pub queued_only : (old : Coordinator K) (o : Shown) (conn : ℕ) (request : Request) (tasks : Tasks) → (is_leader old.mode && not (is_in_flight old.publication)) ≡ false → tasks ≡ offered old.tasks (arriving conn old.moment request)
      → Make old (record old { tasks = tasks }) o o (queues_one old.settings (view old) conn request)
  queued_only old o conn request tasks busy tasks_is =
      let now = record old { tasks = tasks } in
      let s = old.settings in
      let v = view now in
      let rest : Make now now o o (goes_on s v) =
      subst (λ (b : Bool). Make now now o o (if b then (if may_win s v then leads_on s v else hands_over s v) else [])) (sym busy) (makes_nothing k now o) in
      queued_whole old now o o o conn request tasks refl tasks_is rest
