-- Joins that were counted, and what comes of them.
use Rattle.std.proofs.Common.{◌≡◌, ℕ, Bool, true, false, ◌&&◌, List, [], ◌∷◌, refl, sym, ap, subst, ◌∙◌}
use Rattle.state_journal.specs.declared.keeper.Keeper.{Ghosts}
use Rattle.std.specs.Prelude.{if◌then◌else◌, Option}
use Rattle.cluster_state.specs.declared.state.StateId.{StateId}
use Rattle.voting_config.specs.Ids.{Id, has_room}
use Rattle.world_model.specs.declared.acts.Act.{Act}
use Rattle.world_model.specs.declared.acts.Act.TheVariants.{TakeJoin}
use Rattle.policy_model.specs.declared.settings.Settings.{Settings}
use Rattle.policy_model.specs.Events.{Item, Notes, Joined}
use Rattle.policy_model.specs.Views.{View}
use Rattle.policy_model.specs.Moves.{moved_all}
use Rattle.policy_model.specs.Doing.{is_leader, is_voting_only, act_now, after_act, takes, reply_now, raises_term}
use Rattle.policy_model.specs.Joins.{wins_now, join_from, leads, takes_member, takes_join, counts_join, on_join}
use Rattle.coordinator.specs.Plans.{IsPlanned}
use Rattle.coordinator.specs.Ahead.{ahead_of, winning, IsPlannedAhead, IsPlannedJoin}
use Rattle.coordinator.specs.Showing.{Shown}
use Rattle.coordinator.specs.Views.{view_in}
use Rattle.coordinator.specs.Does.{Goes, Makes, Fails}
use Rattle.coordinator.specs.declared.coordinator.Coordinator.{Coordinator}
use Rattle.coordinator.specs.declared.plan.Plan.{Plan}
use Rattle.coordinator.proofs.Composing.{makes_then, ends_rule, fails_before}
use Rattle.coordinator.proofs.Becoming.{makes_as}
use Rattle.coordinator.proofs.Foreseen.{planned_behind}
use Rattle.coordinator.proofs.Quiet.{makes_nothing}

module _ {K : Type 0} (k : Ghosts K) where
  abbrev view : Coordinator K → View
  view c = view_in k c

  abbrev Make : (old new : Coordinator K) (sent sent_now : Shown) → List Item → Type 0
  Make old new sent sent_now is = Makes k old new sent sent_now is

  -- a plan at the view after an act
  pub planned_there : (old mid : Coordinator K) (items : List Item) (plan : Option Plan) (there : Settings → View → View) → Goes k old mid items
      → IsPlanned old.settings (there old.settings (moved_all old.settings (view old) items)) plan → IsPlanned mid.settings (there mid.settings (view mid)) plan
  planned_there old mid items plan there goes is =
      subst (λ (s : Settings). IsPlanned s (there s (view mid)) plan) (sym goes.settings)
      (subst (λ (v : View). IsPlanned old.settings (there old.settings v) plan) (sym goes.view) is)

  abbrev joining : Coordinator K → Id → ℕ → StateId → Act
  joining c p term last = TakeJoin (join_from p c.settings.me term last)

  abbrev items_by : Coordinator K → Id → ℕ → StateId → Bool → Bool → Bool → List Item
  items_by c p term last f w m =
      let s = c.settings in
      let v = view c in
      let act = joining c p term last in
      if f then act_now s v act ∷ (if w then leads s (after_act s v act) else if m then takes_member s (after_act s v act) p else []) else []

  pub joined_win : (old mid new : Coordinator K) (o o1 o2 : Shown) (p : Id) (term : ℕ) (last : StateId) → has_room (view old).node.join_votes p ≡ true → wins_now (reply_now old.settings (view old) (joining old p term last)) ≡ true
      → Make old mid o o1 (act_now old.settings (view old) (joining old p term last) ∷ []) → Make mid new o1 o2 (leads mid.settings (view mid))
      → Make old new o o2 (takes_join old.settings (view old) p term last)
  joined_win old mid new o o1 o2 p term last f w did next =
      let s = old.settings in
      let v = view old in
      let act = joining old p term last in
      makes_as k old new o o2 _ _
      (makes_then k old mid new o o1 o2 (act_now s v act ∷ []) (leads mid.settings (view mid)) did next)
      (ap (λ (x : Settings). act_now s v act ∷ leads x (view mid)) did.goes.settings ∙ ap (λ (x : View). act_now s v act ∷ leads s x) did.goes.view
      ∙ ap (λ (b : Bool). items_by old p term last true b (takes s v act && is_leader (after_act s v act).mode)) (sym w)
      ∙ ap (λ (b : Bool). items_by old p term last b (wins_now (reply_now s v act)) (takes s v act && is_leader (after_act s v act).mode)) (sym f))

  pub joined_member : (old mid new : Coordinator K) (o o1 o2 : Shown) (p : Id) (term : ℕ) (last : StateId) → has_room (view old).node.join_votes p ≡ true → wins_now (reply_now old.settings (view old) (joining old p term last)) ≡ false
      → (takes old.settings (view old) (joining old p term last) && is_leader mid.mode) ≡ true
      → Make old mid o o1 (act_now old.settings (view old) (joining old p term last) ∷ []) → Make mid new o1 o2 (takes_member mid.settings (view mid) p)
      → Make old new o o2 (takes_join old.settings (view old) p term last)
  joined_member old mid new o o1 o2 p term last f w m did next =
      let s = old.settings in
      let v = view old in
      let act = joining old p term last in
      let m' : (takes s v act && is_leader (after_act s v act).mode) ≡ true = ap (λ (x : View). takes s v act && is_leader x.mode) (sym did.goes.view) ∙ m in
      makes_as k old new o o2 _ _
      (makes_then k old mid new o o1 o2 (act_now s v act ∷ []) (takes_member mid.settings (view mid) p) did next)
      (ap (λ (x : Settings). act_now s v act ∷ takes_member x (view mid) p) did.goes.settings ∙ ap (λ (x : View). act_now s v act ∷ takes_member s x p) did.goes.view
      ∙ ap (λ (b : Bool). items_by old p term last true false b) (sym m')
      ∙ ap (λ (b : Bool). items_by old p term last true b (takes s v act && is_leader (after_act s v act).mode)) (sym w)
      ∙ ap (λ (b : Bool). items_by old p term last b (wins_now (reply_now s v act)) (takes s v act && is_leader (after_act s v act).mode)) (sym f))

  pub joined_none : (old mid : Coordinator K) (o o1 : Shown) (p : Id) (term : ℕ) (last : StateId) → has_room (view old).node.join_votes p ≡ true → wins_now (reply_now old.settings (view old) (joining old p term last)) ≡ false
      → (takes old.settings (view old) (joining old p term last) && is_leader mid.mode) ≡ false
      → Make old mid o o1 (act_now old.settings (view old) (joining old p term last) ∷ [])
      → Make old mid o o1 (takes_join old.settings (view old) p term last)
  joined_none old mid o o1 p term last f w m did =
      let s = old.settings in
      let v = view old in
      let act = joining old p term last in
      let m' : (takes s v act && is_leader (after_act s v act).mode) ≡ false = ap (λ (x : View). takes s v act && is_leader x.mode) (sym did.goes.view) ∙ m in
      makes_as k old mid o o1 _ _ did
      (ap (λ (b : Bool). items_by old p term last true false b) (sym m')
      ∙ ap (λ (b : Bool). items_by old p term last true b (takes s v act && is_leader (after_act s v act).mode)) (sym w)
      ∙ ap (λ (b : Bool). items_by old p term last b (wins_now (reply_now s v act)) (takes s v act && is_leader (after_act s v act).mode)) (sym f))

  -- the plan of before is the plan after the raised term
  pub planned_raised : (old mid : Coordinator K) (p : Id) (term : ℕ) (last : StateId) (plan : Option Plan) → Goes k old mid (raises_term old.settings (view old) old.settings.me term)
      → IsPlannedAhead old.settings (view old) (ahead_of (view old) term) p plan → IsPlannedJoin mid.settings (view mid) p (joining mid p term last) plan
  planned_raised old mid p term last plan goes is =
      subst (λ (s : Settings). IsPlannedJoin s (view mid) p (TakeJoin (join_from p s.me term last)) plan) (sym goes.settings)
      (subst (λ (v : View). IsPlannedJoin old.settings v p (TakeJoin (join_from p old.settings.me term last)) plan) (sym goes.view)
      (planned_behind old.settings (view old) term p plan (join_from p old.settings.me term last) refl refl is))

  -- the plan that is needed after a join that wins, and after one that is counted by a leader
  pub plan_for_win : (old mid : Coordinator K) (o o1 : Shown) (p : Id) (term : ℕ) (last : StateId) (plan : Option Plan) → IsPlannedJoin old.settings (view old) p (joining old p term last) plan
      → Make old mid o o1 (act_now old.settings (view old) (joining old p term last) ∷ []) → has_room (view old).node.join_votes p ≡ true → wins_now (reply_now old.settings (view old) (joining old p term last)) ≡ true
      → IsPlanned mid.settings (moved_all mid.settings (view mid) (winning mid.settings (view mid))) plan
  plan_for_win old mid o o1 p term last plan is did f w =
      planned_there old mid (act_now old.settings (view old) (joining old p term last) ∷ []) plan (λ s v. moved_all s v (winning s v)) did.goes (is.wins f w)

  pub plan_for_member : (old mid : Coordinator K) (o o1 : Shown) (p : Id) (term : ℕ) (last : StateId) (plan : Option Plan) → IsPlannedJoin old.settings (view old) p (joining old p term last) plan
      → Make old mid o o1 (act_now old.settings (view old) (joining old p term last) ∷ []) → has_room (view old).node.join_votes p ≡ true → wins_now (reply_now old.settings (view old) (joining old p term last)) ≡ false
      → takes old.settings (view old) (joining old p term last) ≡ true → is_leader mid.mode ≡ true
      → IsPlanned mid.settings (moved_all mid.settings (view mid) (Notes (Joined (p ∷ [])) ∷ [])) plan
  plan_for_member old mid o o1 p term last plan is did f w t l =
      planned_there old mid (act_now old.settings (view old) (joining old p term last) ∷ []) plan (λ s v. moved_all s v (Notes (Joined (p ∷ [])) ∷ [])) did.goes
      (is.member f w t (ap (λ (x : View). is_leader x.mode) (sym did.goes.view) ∙ l))

  -- a voting-only node passes a join by
  pub joined_not : (old : Coordinator K) (o : Shown) (p : Id) (term : ℕ) (last : StateId) → is_voting_only old.settings old.settings.me ≡ true
      → Make old old o o (on_join old.settings (view old) p term last)
  joined_not old o p term last listed =
      makes_as k old old o o _ _ (makes_nothing k old o)
      (ap (λ (b : Bool). if b then [] else counts_join old.settings (view old) p term last) (sym listed))

  -- the whole of a join
  pub joined_whole : (old mid new : Coordinator K) (o o0 o1 o2 : Shown) (p : Id) (term : ℕ) (last : StateId) → is_voting_only old.settings old.settings.me ≡ false → o0 ≡ o → Make old mid o0 o1 (raises_term old.settings (view old) old.settings.me term)
      → Make mid new o1 o2 (takes_join mid.settings (view mid) p term last) → Make old new o o2 (on_join old.settings (view old) p term last)
  joined_whole old mid new o o0 o1 o2 p term last unlisted same raised next =
      subst (λ (b : Bool). Make old new o o2 (if b then [] else counts_join old.settings (view old) p term last)) (sym unlisted)
      (subst (λ (x : Shown). Make old new x o2 (counts_join old.settings (view old) p term last)) same
      (ends_rule k old mid new o0 o1 o2 (raises_term old.settings (view old) old.settings.me term) (λ s v. takes_join s v p term last) true raised next))

  pub joined_struck : (old new : Coordinator K) (o o0 o1 : Shown) (p : Id) (term : ℕ) (last : StateId) → is_voting_only old.settings old.settings.me ≡ false → o0 ≡ o → Fails k old new o0 o1 (raises_term old.settings (view old) old.settings.me term)
      → Fails k old new o o1 (on_join old.settings (view old) p term last)
  joined_struck old new o o0 o1 p term last unlisted same raised =
      subst (λ (b : Bool). Fails k old new o o1 (if b then [] else counts_join old.settings (view old) p term last)) (sym unlisted)
      (subst (λ (x : Shown). Fails k old new x o1 (counts_join old.settings (view old) p term last)) same
      (fails_before k old new o0 o1 (raises_term old.settings (view old) old.settings.me term) _ raised))
