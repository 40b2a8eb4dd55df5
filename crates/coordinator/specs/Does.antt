-- For the contracts inside: when a node does what a rule says.
use Rattle.std.specs.Prelude.{◌≡◌, Bool, true, false, Result, Ok, Err, List, ◌++◌}
use Rattle.state_journal.specs.declared.keeper.Keeper.{Ghosts}
use Rattle.std.specs.List.{flat_map}
use Rattle.policy_model.specs.declared.settings.Settings.{Settings}
use Rattle.policy_model.specs.Entries.{deeds_in, drops_in}
use Rattle.policy_model.specs.Events.{Item}
use Rattle.policy_model.specs.Views.{View}
use Rattle.policy_model.specs.Moves.{moved_all}
use Rattle.policy_model.specs.Follows.{IsStruck}
use Rattle.coordinator.specs.Showing.{Shown, shown_in, showing_all}
use Rattle.zen_disk.specs.Moments.{LeavesOnly}
use Rattle.world_model.specs.Acts.{NodeHistory}
use Rattle.coord_state.specs.StandsFor.{StandsFor}
use Rattle.coordinator.specs.CoreActs.{CoreDid, IsAlong}
use Rattle.coordinator.specs.Views.{view_in}
use Rattle.coordinator.specs.declared.coordinator.Coordinator.{Coordinator}
use Rattle.coordinator.specs.declared.output.Output.{Output}
use Rattle.coordinator.specs.declared.coordinator.EventError.{EventError}
use Rattle.coordinator.specs.declared.coordinator.EventError.TheVariants as error

module _ {K : Type 0} (k : Ghosts K) where
  -- the items are what came to the node
  pub record Goes (old new : Coordinator K) (items : List Item) : Type 0 where
    pub settings : new.settings ≡ old.settings
    pub clock : new.moment ≡ old.moment
    pub view : view_in k new ≡ moved_all old.settings (view_in k old) items
    pub core : CoreDid k old.core new.core items

  -- and they were shown
  pub record Makes (old new : Coordinator K) (sent sent_now : Shown) (items : List Item) : Type 0 where
    pub goes : Goes old new items
    pub shown : sent_now ≡ showing_all sent items

  -- the disk failed on the way
  pub record Fails (old new : Coordinator K) (sent sent_now : Shown) (items : List Item) : Type 0 where
    pub left : List Item
    pub struck : IsStruck items left
    pub goes : Goes old new left
    pub deeds : sent_now.deeds ≡ sent.deeds ++ flat_map deeds_in left
    pub drops : sent_now.drops ≡ sent.drops ++ flat_map drops_in left

  abbrev pub Ends : Bool → (old new : Coordinator K) (sent sent_now : Shown) → List Item → Type 0
  Ends true old new sent sent_now items = Makes old new sent sent_now items
  Ends false old new sent sent_now items = Fails old new sent sent_now items

  -- the node did what the rule says, to the end where it is fine
  abbrev pub Does : (old new : Coordinator K) (out out_now : Output) → (Settings → View → List Item) → Bool → Type 0
  Does old new out out_now rule fine =
      Ends fine old new (shown_in out) (shown_in out_now) (rule old.settings (view_in k old))

  -- the same of a whole event: where memory was lacking, nothing was done
  abbrev pub EndsAll : Result (Unit {0}) EventError → (old new : Coordinator K) (sent sent_now : Shown) → List Item → Type 0
  EndsAll (Ok u) old new sent sent_now items = Makes old new sent sent_now items
  EndsAll (Err error.Struck) old new sent sent_now items = Fails old new sent sent_now items
  EndsAll (Err error.Memory) old new sent sent_now items = new ≡ old

  abbrev pub DoesAll : (old new : Coordinator K) (out out_now : Output) → (Settings → View → List Item) → Result (Unit {0}) EventError
      → Type 0
  DoesAll old new out out_now rule result =
      EndsAll result old new (shown_in out) (shown_in out_now) (rule old.settings (view_in k old))

  -- a crash at any moment leaves the record of the acts so far, without the act in hand or with it
  abbrev pub Leaves : (old new : Coordinator K) → List Item → Type 0
  Leaves old new items =
      k.told → (g : NodeHistory) → StandsFor k old.core g
      → LeavesOnly k.moment k.left_since old.core.keeper new.core.keeper (IsAlong g items)
