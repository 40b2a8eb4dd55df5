-- A state that is accepted.
use Rattle.std.proofs.Common.{◌≡◌, ℕ, Bool, true, false, List, [], ◌∷◌, sym, ap, subst, ◌∙◌}
use Rattle.std.specs.Prelude.{if◌then◌else◌}
use Rattle.state_journal.specs.declared.keeper.Keeper.{Ghosts}
use Rattle.cluster_state.specs.declared.state.StateId.{StateId}
use Rattle.cluster_state.specs.declared.state.ClusterState.{ClusterState}
use Rattle.cluster_state.specs.States.{id_of}
use Rattle.voting_config.specs.Ids.{Id}
use Rattle.world_model.specs.declared.acts.Act.{Act}
use Rattle.world_model.specs.declared.acts.Act.TheVariants.{Publish}
use Rattle.policy_model.specs.declared.settings.Settings.{Settings}
use Rattle.policy_model.specs.Events.{Item}
use Rattle.policy_model.specs.Views.{View}
use Rattle.policy_model.specs.Doing.{act_now, after_act, takes, raises_term}
use Rattle.policy_model.specs.Publications.{accepts, on_publish}
use Rattle.coordinator.specs.Accepts.{responds}
use Rattle.coordinator.specs.Showing.{Shown}
use Rattle.coordinator.specs.Views.{view_in}
use Rattle.coordinator.specs.Does.{Makes, Fails, Ends}
use Rattle.coordinator.specs.declared.coordinator.Coordinator.{Coordinator}
use Rattle.coordinator.proofs.Composing.{makes_then, ends_rule, fails_before}
use Rattle.coordinator.proofs.Becoming.{makes_as}

module _ {K : Type 0} (k : Ghosts K) where
  abbrev view : Coordinator K → View
  view c = view_in k c

  abbrev Make : (old new : Coordinator K) (sent sent_now : Shown) → List Item → Type 0
  Make old new sent sent_now is = Makes k old new sent sent_now is

  abbrev publishing : Id → ClusterState → Act
  publishing p state = Publish (record { source = p; state = state })

  abbrev items_by : Coordinator K → Id → ClusterState → Bool → List Item
  items_by c p state b =
      act_now c.settings (view c) (publishing p state) ∷ (if b then responds c.settings (after_act c.settings (view c) (publishing p state)) p (id_of state) else [])

  pub accepts_taken : (old mid new : Coordinator K) (o o1 o2 : Shown) (p : Id) (state : ClusterState) (id : StateId) → id ≡ id_of state → takes old.settings (view old) (publishing p state) ≡ true
      → Make old mid o o1 (act_now old.settings (view old) (publishing p state) ∷ []) → Make mid new o1 o2 (responds mid.settings (view mid) p id)
      → Make old new o o2 (accepts old.settings (view old) p state)
  accepts_taken old mid new o o1 o2 p state id id_is taken did next =
      let s = old.settings in
      let v = view old in
      let act = publishing p state in
      makes_as k old new o o2 _ _
      (makes_then k old mid new o o1 o2 (act_now s v act ∷ []) (responds mid.settings (view mid) p id) did next)
      (ap (λ (x : Settings). act_now s v act ∷ responds x (view mid) p id) did.goes.settings
      ∙ ap (λ (x : View). act_now s v act ∷ responds s x p id) did.goes.view
      ∙ ap (λ (i : StateId). act_now s v act ∷ responds s (after_act s v act) p i) id_is
      ∙ ap (λ (b : Bool). items_by old p state b) (sym taken))

  pub accepts_refused : (old new : Coordinator K) (o o1 : Shown) (p : Id) (state : ClusterState) → takes old.settings (view old) (publishing p state) ≡ false
      → Make old new o o1 (act_now old.settings (view old) (publishing p state) ∷ [])
      → Make old new o o1 (accepts old.settings (view old) p state)
  accepts_refused old new o o1 p state refused did = makes_as k old new o o1 _ _ did (ap (λ (b : Bool). items_by old p state b) (sym refused))

  pub accepts_struck : (old new : Coordinator K) (o o1 : Shown) (p : Id) (state : ClusterState) → Fails k old new o o1 (act_now old.settings (view old) (publishing p state) ∷ [])
      → Fails k old new o o1 (accepts old.settings (view old) p state)
  accepts_struck old new o o1 p state fails = fails_before k old new o o1 (act_now old.settings (view old) (publishing p state) ∷ []) _ fails

  -- the whole of a published state
  pub published_whole : (old mid new : Coordinator K) (o o1 o2 : Shown) (p : Id) (state : ClusterState) (term : ℕ) (fine : Bool) → term ≡ state.term → Make old mid o o1 (raises_term old.settings (view old) p term)
      → Ends k fine mid new o1 o2 (accepts mid.settings (view mid) p state) → Ends k fine old new o o2 (on_publish old.settings (view old) p state)
  published_whole old mid new o o1 o2 p state term fine term_is raised next =
      ends_rule k old mid new o o1 o2 (raises_term old.settings (view old) p state.term) (λ s v. accepts s v p state) fine
      (makes_as k old mid o o1 _ _ raised (ap (λ (n : ℕ). raises_term old.settings (view old) p n) term_is)) next

  pub published_struck : (old new : Coordinator K) (o o1 : Shown) (p : Id) (state : ClusterState) (term : ℕ) → term ≡ state.term → Fails k old new o o1 (raises_term old.settings (view old) p term)
      → Fails k old new o o1 (on_publish old.settings (view old) p state)
  published_struck old new o o1 p state term term_is raised =
      fails_before k old new o o1 (raises_term old.settings (view old) p state.term) _
      (subst (λ (n : ℕ). Fails k old new o o1 (raises_term old.settings (view old) p n)) term_is raised)
