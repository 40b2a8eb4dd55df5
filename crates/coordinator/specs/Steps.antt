-- For the contracts inside: what a whole event comes to.
use Rattle.std.specs.Prelude.{◌≡◌, ◌≤◌, ℕ, true, false, Result, Ok, Err, List}
use Rattle.state_journal.specs.declared.keeper.Keeper.{Ghosts}
use Rattle.zen_disk.specs.Faults.{Rose}
use Rattle.policy_model.specs.declared.events.Event.{Event}
use Rattle.policy_model.specs.declared.events.Event.TheVariants.{Start, Tick, Frame as FrameCame, Client as LineCame, Disconnected as PeerGone}
use Rattle.policy_model.specs.Events.{Item}
use Rattle.policy_model.specs.Entries.{deeds_of, drops_of, frames_of, replies_of, by_member, by_receiver}
use Rattle.policy_model.specs.Follows.{IsStruck}
use Rattle.coordinator.specs.Lives.{Enters}
use Rattle.coordinator.specs.Rooms.{event_deeds, loss_deeds, tick_drops, to_set, to_set_and_one, to_three_sets}
use Rattle.coordinator.specs.Showing.{Shown}
use Rattle.coordinator.specs.declared.coordinator.Coordinator.{Coordinator}
use Rattle.coordinator.specs.declared.coordinator.EventError.{EventError}
use Rattle.coordinator.specs.declared.coordinator.EventError.TheVariants as error
use Rattle.coordinator.specs.declared.step.Sealed.{Sealed}
use Rattle.coordinator.specs.declared.step.Entries.{Entries}
use Rattle.coordinator.specs.declared.step.StepError.{StepError}
use Rattle.coordinator.specs.declared.step.StepError.TheVariants as step_error

-- how many deeds, drops and frames an event comes to at most; of a client's line, where room is made once it is known to need any, none
abbrev pub deeds_for : Event → ℕ
deeds_for Start = 0
deeds_for (Tick now word) = event_deeds
deeds_for (FrameCame frame) = event_deeds
deeds_for (LineCame conn line) = 0
deeds_for (PeerGone peer) = loss_deeds

abbrev pub drops_for : Event → ℕ
drops_for Start = 0
drops_for (Tick now word) = tick_drops
drops_for (FrameCame frame) = 0
drops_for (LineCame conn line) = 0
drops_for (PeerGone peer) = 1

-- room for three sets of ids at a tick, of which one asks for peers, one for pre-votes and one starts joins; no node sends more than 190
-- (most_frames of policy_model)
abbrev pub frames_for : Event → ℕ
frames_for Start = 0
frames_for (Tick now word) = to_three_sets
frames_for (FrameCame frame) = to_set_and_one
frames_for (LineCame conn line) = 0
frames_for (PeerGone peer) = to_set

-- the entries are the deeds and the drops of these items
pub record AreEntries (e : Event) (items : List Item) (entries : Entries) : Type 0 where
  pub event : entries.event ≡ e
  pub deeds : entries.deeds.list ≡ deeds_of items
  pub drops : entries.drops.list ≡ drops_of items

-- what is sealed is what these items show
pub record IsSealed (e : Event) (items : List Item) (sealed : Sealed) : Type 0 where
  pub entries : AreEntries e items sealed.entries
  pub sends : sealed.sends.list ≡ frames_of items
  pub replies : sealed.replies.sent ≡ replies_of items

-- what was shown is in its order
pub record AreOrdered (e : Event) (shown : Shown) (entries : Entries) : Type 0 where
  pub event : entries.event ≡ e
  pub deeds : entries.deeds.list ≡ shown.deeds
  pub drops : entries.drops.list ≡ by_member shown.drops

pub record IsOrdered (e : Event) (shown : Shown) (sealed : Sealed) : Type 0 where
  pub entries : AreOrdered e shown sealed.entries
  pub sends : sealed.sends.list ≡ by_receiver shown.frames
  pub replies : sealed.replies.sent ≡ shown.replies

abbrev pub Seals : Result (Unit {0}) EventError → Event → Shown → Result Sealed StepError → Type 0
Seals (Ok u) event shown (Ok sealed) = IsOrdered event shown sealed
Seals (Ok u) event shown (Err e) = ⊥
Seals (Err error.Struck) event shown (Err (step_error.Disk entries)) = AreOrdered event shown entries
Seals (Err error.Struck) event shown (Err step_error.Stopped) = ⊥
Seals (Err error.Struck) event shown (Err step_error.Memory) = ⊥
Seals (Err error.Struck) event shown (Ok sealed) = ⊥
Seals (Err error.Memory) event shown r = r ≡ Err step_error.Memory

module _ {K : Type 0} (k : Ghosts K) where
  -- the event came to its end
  pub record Done (old new : Coordinator K) (event : Event) (items : List Item) (sealed : Sealed) : Type 0 where
    pub enters : Enters k old new event items
    pub seals : IsSealed event items sealed
    pub runs : k.has_stopped new.core.keeper ≡ false

  -- the disk failed at an act: those up to it are done
  pub record Failed (old new : Coordinator K) (event : Event) (items : List Item) (told : Entries) : Type 0 where
    pub left : List Item
    pub struck : IsStruck items left
    pub enters : Enters k old new event left
    pub entries : AreEntries event left told
    pub rose : Rose (k.faults old.core.keeper) (k.faults new.core.keeper)
    pub stopped : k.has_stopped new.core.keeper ≡ true

  -- the settings stay, and the disk's count of faults never falls
  pub record GoesOn (old new : Coordinator K) : Type 0 where
    pub settings : new.settings ≡ old.settings
    pub later : k.faults old.core.keeper ≤ k.faults new.core.keeper

  -- the disk failed: its count of faults rose, and the node writes no more
  pub record Halts (old new : Coordinator K) : Type 0 where
    pub goes_on : GoesOn old new
    pub rose : Rose (k.faults old.core.keeper) (k.faults new.core.keeper)
    pub stopped : k.has_stopped new.core.keeper ≡ true

  -- of any node, whatever it stood for; where nothing was done, nothing changed
  abbrev pub Stays : (old new : Coordinator K) → Result Sealed StepError → Type 0
  Stays old new (Ok sealed) = GoesOn old new
  Stays old new (Err (step_error.Disk entries)) = Halts old new
  Stays old new (Err step_error.Stopped) = new ≡ old
  Stays old new (Err step_error.Memory) = new ≡ old

  -- at an event for which the rules give these items
  abbrev pub Steps : (old new : Coordinator K) → Event → List Item → Result Sealed StepError → Type 0
  Steps old new event items (Ok sealed) = Done old new event items sealed
  Steps old new event items (Err (step_error.Disk entries)) = Failed old new event items entries
  Steps old new event items (Err step_error.Stopped) = new ≡ old
  Steps old new event items (Err step_error.Memory) = new ≡ old
