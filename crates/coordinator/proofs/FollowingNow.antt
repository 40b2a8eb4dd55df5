-- Following a node from now on.
use Rattle.std.proofs.Common.{◌≡◌, Bool, true, false, List, [], ◌∷◌, ◌++◌, sym, ap, ◌∙◌}
use Rattle.std.specs.Prelude.{if◌then◌else◌}
use Rattle.state_journal.specs.declared.keeper.Keeper.{Ghosts}
use Rattle.voting_config.specs.Ids.{Id}
use Rattle.coord_state.specs.declared.coord.CoordState.{CoordState}
use Rattle.policy_model.specs.Events.{Item, ChangesMode}
use Rattle.policy_model.specs.declared.events.Mode.TheVariants.{Follower}
use Rattle.policy_model.specs.Views.{View}
use Rattle.policy_model.specs.Doing.{is_leader, follows_node, becomes_candidate, becomes_follower}
use Rattle.coordinator.specs.Showing.{Shown}
use Rattle.coordinator.specs.Views.{view_in}
use Rattle.coordinator.specs.Does.{Makes}
use Rattle.coordinator.specs.declared.coordinator.Coordinator.{Coordinator}
use Rattle.coordinator.proofs.Composing.{makes_then}
use Rattle.coordinator.proofs.Becoming.{makes_as}
use Rattle.coordinator.proofs.Quiet.{makes_nothing}

module _ {K : Type 0} (k : Ghosts K) where
  abbrev view : Coordinator K → View
  view c = view_in k c

  abbrev Make : (old new : Coordinator K) (sent sent_now : Shown) → List Item → Type 0
  Make old new sent sent_now is = Makes k old new sent sent_now is

  -- it does already
  pub follows_still : (c : Coordinator K) (o : Shown) (p : Id) → follows_node c.mode p ≡ true → Make c c o o (becomes_follower c.settings (view c) p)
  follows_still c o p follows =
      makes_as k c c o o _ _ (makes_nothing k c o)
      (ap (λ (b : Bool). if b then [] else (if is_leader c.mode then becomes_candidate c.settings (view c) else []) ++ ChangesMode (Follower p) (view c).node.term ∷ []) (sym follows))

  -- a leader becomes a candidate first
  pub follows_led : (old mid new : Coordinator K) (o o1 o2 : Shown) (p : Id) → follows_node old.mode p ≡ false → is_leader old.mode ≡ true → mid.core ≡ old.core
      → Make old mid o o1 (becomes_candidate old.settings (view old)) → Make mid new o1 o2 (ChangesMode (Follower p) (view mid).node.term ∷ [])
      → Make old new o o2 (becomes_follower old.settings (view old) p)
  follows_led old mid new o o1 o2 p follows leads core first turns =
      let s = old.settings in
      let v = view old in
      makes_as k old new o o2 _ _ (makes_then k old mid new o o1 o2 (becomes_candidate s v) (ChangesMode (Follower p) (view mid).node.term ∷ []) first turns)
      (ap (λ (c : CoordState K). becomes_candidate s v ++ ChangesMode (Follower p) (k.record_of c.keeper).term ∷ []) core
      ∙ ap (λ (b : Bool). (if b then becomes_candidate s v else []) ++ ChangesMode (Follower p) v.node.term ∷ []) (sym leads)
      ∙ ap (λ (b : Bool). if b then [] else (if is_leader old.mode then becomes_candidate s v else []) ++ ChangesMode (Follower p) v.node.term ∷ []) (sym follows))

  pub follows_now : (old new : Coordinator K) (o o1 : Shown) (p : Id) → follows_node old.mode p ≡ false → is_leader old.mode ≡ false → Make old new o o1 (ChangesMode (Follower p) (view old).node.term ∷ [])
      → Make old new o o1 (becomes_follower old.settings (view old) p)
  follows_now old new o o1 p follows leads turns =
      let s = old.settings in
      let v = view old in
      makes_as k old new o o1 _ _ turns
      (ap (λ (b : Bool). (if b then becomes_candidate s v else []) ++ ChangesMode (Follower p) v.node.term ∷ []) (sym leads)
      ∙ ap (λ (b : Bool). if b then [] else (if is_leader old.mode then becomes_candidate s v else []) ++ ChangesMode (Follower p) v.node.term ∷ []) (sym follows))
