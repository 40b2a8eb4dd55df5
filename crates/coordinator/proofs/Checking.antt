-- Checks of a leader and by a leader.
use Rattle.std.proofs.Common.{◌≡◌, Bool, true, false, Option, None, Some, List, [], ◌∷◌, refl, sym, ap, ◌∙◌}
use Rattle.std.specs.Prelude.{if◌then◌else◌}
use Rattle.std.specs.Option.{option_map}
use Rattle.state_journal.specs.declared.keeper.Keeper.{Ghosts}
use Rattle.voting_config.specs.Ids.{Id}
use Rattle.fault_checks.specs.declared.leader.LeaderTick.{LeaderTick}
use Rattle.fault_checks.specs.Leaders.{LeaderCheck, leader_tick}
use Rattle.policy_model.specs.declared.settings.Settings.{Settings}
use Rattle.policy_model.specs.Events.{Item, Notes, LeaderChecked}
use Rattle.policy_model.specs.Parts.{leader_ticked}
use Rattle.policy_model.specs.Views.{View}
use Rattle.policy_model.specs.Moves.{moved}
use Rattle.policy_model.specs.Doing.{is_leader, follows_node, then_rule, becomes_follower}
use Rattle.policy_model.specs.Checks.{does_check, checks_leader, answers_leader, follows_checker}
use Rattle.coordinator.specs.Showing.{Shown}
use Rattle.coordinator.specs.Views.{view_in}
use Rattle.coordinator.specs.Does.{Makes}
use Rattle.coordinator.specs.declared.coordinator.Coordinator.{Coordinator}
use Rattle.coordinator.proofs.Composing.{makes_then, ends_rule}
use Rattle.coordinator.proofs.Becoming.{makes_as}
use Rattle.coordinator.proofs.Quiet.{makes_note}

-- a check that is due, or quiet
checked : (s : Settings) (v : View) (c : Option LeaderCheck) (leader : Id) (tick : LeaderTick) → option_map (λ (x : LeaderCheck). leader_tick x v.moment) c ≡ Some tick
    → Notes LeaderChecked ∷ does_check s (moved s v (Notes LeaderChecked)) leader tick ≡ checks_leader s v leader c
checked s v None leader tick is = cc
checked s v (Some c) leader tick is =
    let same : leader_tick c v.moment ≡ tick = cc in
    ap (λ (t : LeaderTick). Notes LeaderChecked ∷ does_check s (moved s v (Notes LeaderChecked)) leader t) (sym same)

-- no leader is checked
unchecked : (s : Settings) (v : View) (c : Option LeaderCheck) (leader : Id) → option_map (λ (x : LeaderCheck). leader_tick x v.moment) c ≡ None
    → ([] ≡ checks_leader s v leader c) × (leader_ticked c v.moment ≡ c)
unchecked s v None leader is = (refl, refl)
unchecked s v (Some c) leader is = cc

module _ {K : Type 0} (k : Ghosts K) where
  abbrev view : Coordinator K → View
  view c = view_in k c

  abbrev Make : (old new : Coordinator K) (sent sent_now : Shown) → List Item → Type 0
  Make old new sent sent_now is = Makes k old new sent sent_now is

  pub checks_made : (old new : Coordinator K) (c : Option LeaderCheck) (o o1 : Shown) (leader : Id) (tick : LeaderTick)
      → option_map (λ (x : LeaderCheck). leader_tick x old.moment) old.leader_check ≡ Some tick → c ≡ leader_ticked old.leader_check old.moment
      → Make (record old { leader_check = c }) new o o1 (does_check old.settings (record (view old) { leader_check = c }) leader tick)
      → Make old new o o1 (checks_leader old.settings (view old) leader old.leader_check)
  checks_made old new c o o1 leader tick is c_is does =
      let s = old.settings in
      let v = view old in
      let mid = record old { leader_check = c } in
      let noted = makes_note k old mid o LeaderChecked refl refl refl (ap (λ (x : Option LeaderCheck). record v { leader_check = x }) c_is) in
      makes_as k old new o o1 _ _ (makes_then k old mid new o o o1 (Notes LeaderChecked ∷ []) (does_check s (record v { leader_check = c }) leader tick) noted does)
      (ap (λ (x : Option LeaderCheck). Notes LeaderChecked ∷ does_check s (record v { leader_check = x }) leader tick) c_is ∙ checked s v old.leader_check leader tick is)

  pub checks_nothing : (old : Coordinator K) (c : Option LeaderCheck) (o : Shown) (leader : Id)
      → option_map (λ (x : LeaderCheck). leader_tick x old.moment) old.leader_check ≡ None → c ≡ leader_ticked old.leader_check old.moment
      → Make old (record old { leader_check = c }) o o (checks_leader old.settings (view old) leader old.leader_check)
  checks_nothing old c o leader is c_is =
      let s = old.settings in
      let v = view old in
      let both = unchecked s v old.leader_check leader is in
      let nothing : Make old (record old { leader_check = c }) o o [] =
      record { goes = record { settings = refl; clock = refl; view = ap (λ (x : Option LeaderCheck). record v { leader_check = x }) (c_is ∙ both.1); core = refl }; shown = refl } in
      makes_as k old (record old { leader_check = c }) o o _ _ nothing both.0

  -- in the second profile a check changes no mode
  pub checker_answered : (old : Coordinator K) (o o1 : Shown) (p : Id) (good : Bool) → old.settings.policy.second ≡ true → good ≡ follows_node old.mode p → Make old old o o1 (answers_leader old.settings (view old) p good)
      → Make old old o o1 (follows_checker old.settings (view old) p)
  checker_answered old o o1 p good second good_is answers =
      let s = old.settings in
      let v = view old in
      makes_as k old old o o1 _ _ answers
      (ap (λ (b : Bool). answers_leader s v p b) good_is
      ∙ ap (λ (b : Bool). if b then answers_leader s v p (follows_node v.mode p) else if is_leader v.mode then answers_leader s v p false else then_rule s v (becomes_follower s v p) (λ u. answers_leader s u p true)) (sym second))

  -- a leader answers no
  pub checker_refused : (old : Coordinator K) (o o1 : Shown) (p : Id) → old.settings.policy.second ≡ false → is_leader old.mode ≡ true → Make old old o o1 (answers_leader old.settings (view old) p false)
      → Make old old o o1 (follows_checker old.settings (view old) p)
  checker_refused old o o1 p first leads answers =
      let s = old.settings in
      let v = view old in
      makes_as k old old o o1 _ _ answers
      (ap (λ (b : Bool). if b then answers_leader s v p false else then_rule s v (becomes_follower s v p) (λ u. answers_leader s u p true)) (sym leads)
      ∙ ap (λ (b : Bool). if b then answers_leader s v p (follows_node v.mode p) else if is_leader v.mode then answers_leader s v p false else then_rule s v (becomes_follower s v p) (λ u. answers_leader s u p true)) (sym first))

  -- another node follows, and answers yes
  pub checker_followed : (old mid : Coordinator K) (o o1 o2 : Shown) (p : Id) → old.settings.policy.second ≡ false → is_leader old.mode ≡ false → Make old mid o o1 (becomes_follower old.settings (view old) p)
      → Make mid mid o1 o2 (answers_leader mid.settings (view mid) p true)
      → Make old mid o o2 (follows_checker old.settings (view old) p)
  checker_followed old mid o o1 o2 p first leads follows answers =
      let s = old.settings in
      let v = view old in
      makes_as k old mid o o2 _ _ (ends_rule k old mid mid o o1 o2 (becomes_follower s v p) (λ s u. answers_leader s u p true) true follows answers)
      (ap (λ (b : Bool). if b then answers_leader s v p false else then_rule s v (becomes_follower s v p) (λ u. answers_leader s u p true)) (sym leads)
      ∙ ap (λ (b : Bool). if b then answers_leader s v p (follows_node v.mode p) else if is_leader v.mode then answers_leader s v p false else then_rule s v (becomes_follower s v p) (λ u. answers_leader s u p true)) (sym first))
