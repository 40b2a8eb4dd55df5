-- Rules after rules.
use Rattle.std.proofs.Common.{◌≡◌, Bool, true, false, List, ◌++◌, sym, ap, subst, ◌∙◌}
use Rattle.state_journal.specs.declared.keeper.Keeper.{Ghosts}
use Rattle.std.proofs.lemmas.List.{append_assoc}
use Rattle.std.specs.Prelude.{Result, Ok, Err, IsErr, is_ok}
use Rattle.std.specs.List.{flat_map}
use Rattle.policy_model.specs.declared.settings.Settings.{Settings}
use Rattle.policy_model.specs.declared.events.Deed.{Deed}
use Rattle.policy_model.specs.declared.events.MemberDrop.{MemberDrop}
use Rattle.policy_model.specs.Entries.{deeds_in, drops_in}
use Rattle.policy_model.specs.Events.{Item}
use Rattle.policy_model.specs.Views.{View}
use Rattle.policy_model.specs.Moves.{moved_all}
use Rattle.policy_model.specs.Doing.{then_rule}
use Rattle.policy_model.proofs.Sweeps.{moved_all-append}
use Rattle.coordinator.specs.Showing.{Shown, showing_all}
use Rattle.coordinator.specs.Views.{view_in, IsReady}
use Rattle.coordinator.specs.Does.{Goes, Makes, Fails, Ends}
use Rattle.coordinator.specs.declared.coordinator.Coordinator.{Coordinator}
use Rattle.coordinator.proofs.Appending.{showing_all-append, behind, struck_behind, struck_before, moved_all-behind, deeds-behind, drops-behind, deeds-shown, drops-shown, did-append, did-behind, did_me}

module _ {K : Type 0} (k : Ghosts K) where
  abbrev view : Coordinator K → View
  view c = view_in k c

  abbrev Go : (old new : Coordinator K) → List Item → Type 0
  Go old new is = Goes k old new is

  abbrev Make : (old new : Coordinator K) (sent sent_now : Shown) → List Item → Type 0
  Make old new sent sent_now is = Makes k old new sent sent_now is

  abbrev Fail : (old new : Coordinator K) (sent sent_now : Shown) → List Item → Type 0
  Fail old new sent sent_now is = Fails k old new sent sent_now is

  abbrev End : Bool → (old new : Coordinator K) (sent sent_now : Shown) → List Item → Type 0
  End fine old new sent sent_now is = Ends k fine old new sent sent_now is

  -- the view after more items
  view_then : (a b c : Coordinator K) (xs ys : List Item) → Go a b xs → Go b c ys → view c ≡ moved_all a.settings (moved_all a.settings (view a) xs) ys
  view_then a b c xs ys first then =
      then.view ∙ ap (λ (s : Settings). moved_all s (view b) ys) first.settings ∙ ap (λ (v : View). moved_all a.settings v ys) first.view

  pub goes_then : (a b c : Coordinator K) (xs ys : List Item) → Go a b xs → Go b c ys → Go a c (xs ++ ys)
  goes_then a b c xs ys first then = record {
    settings = then.settings ∙ first.settings;
    clock = then.clock ∙ first.clock;
    view = view_then a b c xs ys first then ∙ sym (moved_all-append a.settings (view a) xs ys);
    core = did-append k a.core b.core c.core xs ys first.core then.core;
  }

  goes_behind : (a b c : Coordinator K) (xs ys : List Item) → Go a b xs → Go b c ys → Go a c (behind xs ys)
  goes_behind a b c xs ys first then = record {
    settings = then.settings ∙ first.settings;
    clock = then.clock ∙ first.clock;
    view = view_then a b c xs ys first then ∙ sym (moved_all-behind a.settings (view a) xs ys);
    core = did-behind k a.core b.core c.core xs ys first.core then.core;
  }

  pub makes_then : (a b c : Coordinator K) (o1 o2 o3 : Shown) (xs ys : List Item) → Make a b o1 o2 xs → Make b c o2 o3 ys → Make a c o1 o3 (xs ++ ys)
  makes_then a b c o1 o2 o3 xs ys first then = record {
    goes = goes_then a b c xs ys first.goes then.goes;
    shown = then.shown ∙ ap (λ (o : Shown). showing_all o ys) first.shown ∙ sym (showing_all-append o1 xs ys);
  }

  fails_behind : (a b c : Coordinator K) (o1 o2 o3 : Shown) (xs ys : List Item) → Make a b o1 o2 xs → Fail b c o2 o3 ys → Fail a c o1 o3 (xs ++ ys)
  fails_behind a b c o1 o2 o3 xs ys first then = record {
    left = behind xs then.left;
    struck = struck_behind xs ys then.left then.struck;
    goes = goes_behind a b c xs then.left first.goes then.goes;
    deeds = then.deeds ∙ ap (λ (l : List Deed). l ++ flat_map deeds_in then.left) (ap (λ (o : Shown). o.deeds) first.shown ∙ deeds-shown o1 xs)
        ∙ append_assoc o1.deeds (flat_map deeds_in xs) (flat_map deeds_in then.left)
        ∙ ap (λ (l : List Deed). o1.deeds ++ l) (sym (deeds-behind xs then.left));
    drops = then.drops ∙ ap (λ (l : List MemberDrop). l ++ flat_map drops_in then.left) (ap (λ (o : Shown). o.drops) first.shown ∙ drops-shown o1 xs)
        ∙ append_assoc o1.drops (flat_map drops_in xs) (flat_map drops_in then.left)
        ∙ ap (λ (l : List MemberDrop). o1.drops ++ l) (sym (drops-behind xs then.left));
  }

  -- a rule that fails has failed with those after it
  pub fails_before : (a b : Coordinator K) (o1 o2 : Shown) (xs ys : List Item) → Fail a b o1 o2 xs → Fail a b o1 o2 (xs ++ ys)
  fails_before a b o1 o2 xs ys first = record { left = first.left; struck = struck_before xs ys first.left first.struck; goes = first.goes; deeds = first.deeds; drops = first.drops }

  pub ends_then : (a b c : Coordinator K) (o1 o2 o3 : Shown) (xs ys : List Item) (fine : Bool) → Make a b o1 o2 xs → End fine b c o2 o3 ys → End fine a c o1 o3 (xs ++ ys)
  ends_then a b c o1 o2 o3 xs ys true first then = makes_then a b c o1 o2 o3 xs ys first then
  ends_then a b c o1 o2 o3 xs ys false first then = fails_behind a b c o1 o2 o3 xs ys first then

  -- a rule at the view after the first
  pub ends_rule : (a b c : Coordinator K) (o1 o2 o3 : Shown) (xs : List Item) (rule : Settings → View → List Item) (fine : Bool) → Make a b o1 o2 xs → End fine b c o2 o3 (rule b.settings (view b))
      → End fine a c o1 o3 (then_rule a.settings (view a) xs (rule a.settings))
  ends_rule a b c o1 o2 o3 xs rule fine first then =
      let here : rule b.settings (view b) ≡ rule a.settings (moved_all a.settings (view a) xs) =
      ap (λ (s : Settings). rule s (view b)) first.goes.settings ∙ ap (λ (v : View). rule a.settings v) first.goes.view in
      ends_then a b c o1 o2 o3 xs (rule a.settings (moved_all a.settings (view a) xs)) fine first (subst (λ (is : List Item). End fine b c o2 o3 is) here then)

  -- a node that is ready stays so
  pub ready_then : (a b : Coordinator K) (xs : List Item) → IsReady a → Go a b xs → IsReady b
  ready_then a b xs ready go = record {
    me = did_me k a.core b.core xs go.core ∙ ready.me ∙ ap (λ (s : Settings). s.me) (sym go.settings);
    moment = rw go.clock ready.moment;
  }

  -- a call that failed was an error
  pub ends_err : {A E : Type 0} (r : Result A E) (a b : Coordinator K) (o1 o2 : Shown) (items : List Item) → IsErr r → Fail a b o1 o2 items → End (is_ok r) a b o1 o2 items
  ends_err (Ok x) a b o1 o2 items e fails = cc
  ends_err (Err x) a b o1 o2 items e fails = fails
