-- For the contracts inside: when a node stands for a life, and what an event adds to it.
use Rattle.std.specs.Prelude.{◌≡◌, ◌≤◌, ◌↔◌, Option, Some, Result, Ok, Err, List, [], ◌∷◌, ◌++◌}
use Rattle.std.specs.List.{flat_map}
use Rattle.zen_disk.specs.Moments.{LeavesOnly}
use Rattle.state_journal.specs.declared.keeper.Keeper.{Ghosts}
use Rattle.cluster_state.specs.declared.state.Kept.{Kept}
use Rattle.world_model.specs.NodeState.{durable_of}
use Rattle.coord_state.specs.Writes.{WritesBy}
use Rattle.policy_model.specs.declared.events.Event.{Event}
use Rattle.policy_model.specs.Events.{Item, Opens, Begins, Acts, ChangesMode, Drops, Sends, Replies, Notes, acts_of}
use Rattle.policy_model.specs.Entries.{Life, Lived, Did, log_of, deeds_in, drops_in}
use Rattle.policy_model.specs.Views.{view_of}
use Rattle.policy_model.specs.Moves.{begun, moved_all}
use Rattle.policy_model.specs.Follows.{IsStruck, items_of}
use Rattle.policy_model.specs.Rules.{next_of}
use Rattle.coordinator.specs.Showing.{Shown, shown_in, showing_all}
use Rattle.coordinator.specs.CoreActs.{CoreDid, IsAlong}
use Rattle.coordinator.specs.Views.{view_in}
use Rattle.coordinator.specs.declared.coordinator.Coordinator.{Coordinator}
use Rattle.coordinator.specs.declared.coordinator.EventError.{EventError}
use Rattle.coordinator.specs.declared.coordinator.EventError.TheVariants as error
use Rattle.coordinator.specs.declared.output.Output.{Output}

module _ {K : Type 0} (k : Ghosts K) where
  -- the node is what its life so far makes of it
  abbrev pub StandsForLife : Coordinator K → Life → Type 0
  StandsForLife c life = view_in k c ≡ view_of c.settings (log_of life)

  -- what the keeper wrote at the acts among the items, one after the other
  abbrev pub WroteAll : K → List Item → K → Type 0
  WroteAll old [] new = new ≡ old
  WroteAll old (Acts act o ∷ is) new = (mid : K) × WritesBy k old act mid o × WroteAll mid is new
  WroteAll old (Opens found ∷ is) new = WroteAll old is new
  WroteAll old (Begins event ∷ is) new = WroteAll old is new
  WroteAll old (ChangesMode mode term ∷ is) new = WroteAll old is new
  WroteAll old (Drops member cause ∷ is) new = WroteAll old is new
  WroteAll old (Sends frame ∷ is) new = WroteAll old is new
  WroteAll old (Replies answer ∷ is) new = WroteAll old is new
  WroteAll old (Notes note ∷ is) new = WroteAll old is new

  -- an event came, and these items are what came to the node
  pub record Passes (old new : Coordinator K) (event : Event) (items : List Item) : Type 0 where
    pub settings : new.settings ≡ old.settings
    pub clock : new.moment ≡ (begun (view_in k old) event).moment
    pub view : view_in k new ≡ moved_all old.settings (begun (view_in k old) event) items
    pub core : CoreDid k old.core new.core items

  -- they were shown
  pub record Brings (old new : Coordinator K) (event : Event) (sent sent_now : Shown) (items : List Item) : Type 0 where
    pub passes : Passes old new event items
    pub shown : sent_now ≡ showing_all sent items

  -- the disk failed on the way
  pub record Breaks (old new : Coordinator K) (event : Event) (sent sent_now : Shown) (items : List Item) : Type 0 where
    pub left : List Item
    pub struck : IsStruck items left
    pub passes : Passes old new event left
    pub deeds : sent_now.deeds ≡ sent.deeds ++ flat_map deeds_in left
    pub drops : sent_now.drops ≡ sent.drops ++ flat_map drops_in left

  abbrev pub EventEnds : Result (Unit {0}) EventError → (old new : Coordinator K) → Event → (sent sent_now : Shown) → List Item → Type 0
  EventEnds (Ok u) old new event sent sent_now items = Brings old new event sent sent_now items
  EventEnds (Err error.Struck) old new event sent sent_now items = Breaks old new event sent sent_now items
  EventEnds (Err error.Memory) old new event sent sent_now items = new ≡ old

  -- what the rules say is done at this event
  abbrev pub DoesEvent : (old new : Coordinator K) → Event → (out out_now : Output) → Result (Unit {0}) EventError → Type 0
  DoesEvent old new event out out_now r =
      EventEnds r old new event (shown_in out) (shown_in out_now) (next_of old.settings (begun (view_in k old) event) event)

  -- a crash at any moment leaves the record of the acts so far in the node's life, without the act in hand or with it
  abbrev pub Survives : (old new : Coordinator K) → Event → Type 0
  Survives old new event =
      (life : Life) → StandsForLife old life → k.told
      → LeavesOnly k.moment k.left_since old.core.keeper new.core.keeper
      (IsAlong (acts_of (log_of life)) (items_of old.settings (log_of life) event))

  -- a crash now leaves the record of the acts in the node's life with this event, and nothing else
  abbrev pub Lasts : (old new : Coordinator K) → Event → Type 0
  Lasts old new event =
      (life : Life) → StandsForLife old life → k.told → (found : Option Kept)
      → k.left_since new.core.keeper (k.moment new.core.keeper) found
      ↔ (found ≡ Some (durable_of (acts_of (log_of (Lived life (Did event (items_of old.settings (log_of life) event)))))))

  -- the event's entry in the node's life, the acts of the core in it, and what the keeper wrote for them
  pub record Enters (old new : Coordinator K) (event : Event) (items : List Item) : Type 0 where
    pub settings : new.settings ≡ old.settings
    pub stands : (life : Life) → StandsForLife old life → StandsForLife new (Lived life (Did event items))
    pub core : CoreDid k old.core new.core items
    pub wrote : WroteAll old.core.keeper items new.core.keeper
    pub later : k.faults old.core.keeper ≤ k.faults new.core.keeper
