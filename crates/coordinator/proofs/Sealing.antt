-- An event whose output is sealed.
use Rattle.std.proofs.Common.{◌≡◌, true, false, List, [], ◌∷◌, ◌++◌, refl, sym, ap, subst, ◌∙◌}
use Rattle.std.specs.Prelude.{◌↔◌, Option, Some, Result, Ok, Err, IfOk, is_ok}
use Rattle.cluster_state.specs.declared.state.Kept.{Kept}
use Rattle.world_model.specs.NodeState.{durable_of}
use Rattle.std.specs.List.{flat_map}
use Rattle.std.proofs.lemmas.List.{append_assoc, append-nil}
use Rattle.state_journal.specs.declared.keeper.Keeper.{Ghosts}
use Rattle.wire_frames.specs.declared.frame.Frame.{Frame}
use Rattle.policy_model.specs.declared.events.Event.{Event}
use Rattle.policy_model.specs.declared.events.MemberDrop.{MemberDrop}
use Rattle.policy_model.specs.Events.{Item, Opens, Begins, Acts, ChangesMode, Drops, Sends, Replies, Notes, acts_of}
use Rattle.policy_model.specs.Views.{View}
use Rattle.policy_model.specs.Entries.{Life, Lived, Did, log_of, frames_in, replies_in, by_member, by_receiver}
use Rattle.policy_model.specs.Follows.{items_of}
use Rattle.policy_model.specs.Moves.{begun}
use Rattle.policy_model.specs.Rules.{next_of}
use Rattle.policy_model.proofs.Faults.{next-fault}
use Rattle.coordinator.specs.Showing.{Shown, showing, showing_all, nothing_shown}
use Rattle.coordinator.specs.Lives.{StandsForLife, Passes, EventEnds, Lasts}
use Rattle.coordinator.specs.Steps.{Done, IsSealed, IsOrdered, Seals, GoesOn, Stays, Steps}
use Rattle.coordinator.specs.Views.{view_in}
use Rattle.coordinator.specs.declared.coordinator.Coordinator.{Coordinator}
use Rattle.coordinator.specs.declared.coordinator.EventError.{EventError}
use Rattle.coordinator.specs.declared.coordinator.EventError.TheVariants as error
use Rattle.coordinator.specs.declared.step.Sealed.{Sealed}
use Rattle.coordinator.specs.declared.step.StepError.{StepError}
use Rattle.coordinator.specs.declared.step.StepError.TheVariants as step_error
use Rattle.coordinator.proofs.Appending.{deeds-shown, drops-shown}
use Rattle.coordinator.proofs.Entering.{own_next, own_struck, items_now, enters, did_later, did_rise, did_run, did_halts}

frames-shown : (o : Shown) (is : List Item) → (showing_all o is).frames ≡ o.frames ++ flat_map frames_in is
frames-shown o [] = sym (append-nil o.frames)
frames-shown o (Opens found ∷ is) = frames-shown o is
frames-shown o (Begins event ∷ is) = frames-shown o is
frames-shown o (Acts act outcome ∷ is) = frames-shown (showing o (Acts act outcome)) is
frames-shown o (ChangesMode mode term ∷ is) = frames-shown (showing o (ChangesMode mode term)) is
frames-shown o (Drops member cause ∷ is) = frames-shown (showing o (Drops member cause)) is
frames-shown o (Sends frame ∷ is) = frames-shown (showing o (Sends frame)) is ∙ append_assoc o.frames (frame ∷ []) (flat_map frames_in is)
frames-shown o (Replies answer ∷ is) = frames-shown (showing o (Replies answer)) is
frames-shown o (Notes note ∷ is) = frames-shown o is

replies-shown : (o : Shown) (is : List Item) → (showing_all o is).replies ≡ o.replies ++ flat_map replies_in is
replies-shown o [] = sym (append-nil o.replies)
replies-shown o (Opens found ∷ is) = replies-shown o is
replies-shown o (Begins event ∷ is) = replies-shown o is
replies-shown o (Acts act outcome ∷ is) = replies-shown (showing o (Acts act outcome)) is
replies-shown o (ChangesMode mode term ∷ is) = replies-shown (showing o (ChangesMode mode term)) is
replies-shown o (Drops member cause ∷ is) = replies-shown (showing o (Drops member cause)) is
replies-shown o (Sends frame ∷ is) = replies-shown (showing o (Sends frame)) is
replies-shown o (Replies answer ∷ is) = replies-shown (showing o (Replies answer)) is ∙ append_assoc o.replies (answer ∷ []) (flat_map replies_in is)
replies-shown o (Notes note ∷ is) = replies-shown o is

-- what the items show, in its order
pub sealed_so : (event : Event) (items : List Item) (shown : Shown) (sealed : Sealed) → shown ≡ showing_all nothing_shown items → IsOrdered event shown sealed → IsSealed event items sealed
sealed_so event items shown sealed is ordered = record {
  entries = record {
    event = ordered.entries.event;
    deeds = ordered.entries.deeds ∙ ap (λ (o : Shown). o.deeds) is ∙ deeds-shown nothing_shown items;
    drops = ordered.entries.drops ∙ ap (λ (o : Shown). by_member o.drops) is ∙ ap (λ (l : List MemberDrop). by_member l) (drops-shown nothing_shown items);
  };
  sends = ordered.sends ∙ ap (λ (o : Shown). by_receiver o.frames) is ∙ ap (λ (l : List Frame). by_receiver l) (frames-shown nothing_shown items);
  replies = ordered.replies ∙ ap (λ (o : Shown). o.replies) is ∙ replies-shown nothing_shown items;
}

-- an event that was begun is not refused as `Stopped`
pub sealed_not_halted : (ended : Result (Unit {0}) EventError) (event : Event) (shown : Shown) (r : Result Sealed StepError) → Seals ended event shown r → r ≡ Err step_error.Stopped → ⊥
sealed_not_halted (Ok u) event shown (Ok sealed) seals e = cc
sealed_not_halted (Ok u) event shown (Err x) seals e = absurd seals
sealed_not_halted (Err error.Struck) event shown (Ok sealed) seals e = absurd seals
sealed_not_halted (Err error.Struck) event shown (Err (step_error.Disk entries)) seals e = cc
sealed_not_halted (Err error.Struck) event shown (Err step_error.Stopped) seals e = absurd seals
sealed_not_halted (Err error.Struck) event shown (Err step_error.Memory) seals e = absurd seals
sealed_not_halted (Err error.Memory) event shown r seals e = cc

module _ {K : Type 0} (k : Ghosts K) where
  steps_by : (ended : Result (Unit {0}) EventError) (r : Result Sealed StepError) (old new : Coordinator K) (event : Event) (shown : Shown)
      → EventEnds k ended old new event nothing_shown shown (next_of old.settings (begun (view_in k old) event) event) → Seals ended event shown r
      → k.has_stopped old.core.keeper ≡ false
      → Steps k old new event (next_of old.settings (begun (view_in k old) event) event) r
  steps_by (Ok u) (Ok sealed) old new event shown brings seals up = record {
    enters = enters k old new event _ (own_next old.settings (begun (view_in k old) event) event) brings.passes;
    seals = sealed_so event _ shown sealed brings.shown seals;
    runs = did_run k old.core new.core (next_of old.settings (begun (view_in k old) event) event) (next-fault old.settings (begun (view_in k old) event) event) brings.passes.core ∙ up;
  }
  steps_by (Ok u) (Err e) old new event shown brings seals up = absurd seals
  steps_by (Err error.Struck) (Ok sealed) old new event shown breaks seals up = absurd seals
  steps_by (Err error.Struck) (Err (step_error.Disk entries)) old new event shown breaks seals up = record {
    left = breaks.left;
    struck = breaks.struck;
    enters = enters k old new event breaks.left (own_struck _ breaks.left breaks.struck (own_next old.settings (begun (view_in k old) event) event)) breaks.passes;
    entries = record { event = seals.event; deeds = seals.deeds ∙ breaks.deeds; drops = seals.drops ∙ ap (λ (l : List MemberDrop). by_member l) breaks.drops };
    rose = did_rise k old.core new.core _ breaks.left breaks.struck breaks.passes.core;
    stopped = did_halts k old.core new.core _ breaks.left breaks.struck breaks.passes.core;
  }
  steps_by (Err error.Struck) (Err step_error.Stopped) old new event shown breaks seals up = absurd seals
  steps_by (Err error.Struck) (Err step_error.Memory) old new event shown breaks seals up = absurd seals
  steps_by (Err error.Memory) r old new event shown same seals up =
      subst (λ (x : Result Sealed StepError). Steps k old new event (next_of old.settings (begun (view_in k old) event) event) x) (sym seals) same

  goes_on : (old new : Coordinator K) (event : Event) (items : List Item) → Passes k old new event items → GoesOn k old new
  goes_on old new event items passes = record { settings = passes.settings; later = did_later k old.core new.core items passes.core }

  -- what holds whatever the node stood for
  pub stays : (ended : Result (Unit {0}) EventError) (r : Result Sealed StepError) (old new : Coordinator K) (event : Event) (sent shown : Shown) (items : List Item)
      → EventEnds k ended old new event sent shown items → Seals ended event shown r → Stays k old new r
  stays (Ok u) (Ok sealed) old new event sent shown items brings seals = goes_on old new event items brings.passes
  stays (Ok u) (Err e) old new event sent shown items brings seals = absurd seals
  stays (Err error.Struck) (Ok sealed) old new event sent shown items breaks seals = absurd seals
  stays (Err error.Struck) (Err (step_error.Disk entries)) old new event sent shown items breaks seals =
      record {
        goes_on = goes_on old new event breaks.left breaks.passes;
        rose = did_rise k old.core new.core items breaks.left breaks.struck breaks.passes.core;
        stopped = did_halts k old.core new.core items breaks.left breaks.struck breaks.passes.core;
      }
  stays (Err error.Struck) (Err step_error.Stopped) old new event sent shown items breaks seals = absurd seals
  stays (Err error.Struck) (Err step_error.Memory) old new event sent shown items breaks seals = absurd seals
  stays (Err error.Memory) r old new event sent shown items same seals = subst (λ (x : Result Sealed StepError). Stays k old new x) (sym seals) same

  -- whatever life the node stood for, the event is the one of that life
  pub deeds : (ended : Result (Unit {0}) EventError) (r : Result Sealed StepError) (old new : Coordinator K) (event : Event) (sent shown : Shown) → sent ≡ nothing_shown
      → EventEnds k ended old new event sent shown (next_of old.settings (begun (view_in k old) event) event) → Seals ended event shown r → k.has_stopped old.core.keeper ≡ false
      → (life : Life) → StandsForLife k old life → Steps k old new event (items_of old.settings (log_of life) event) r
  deeds ended r old new event sent shown none does seals up life stands =
      subst (λ (items : List Item). Steps k old new event items r) (items_now k old life event stands)
      (steps_by ended r old new event shown
      (subst (λ (o : Shown). EventEnds k ended old new event o shown (next_of old.settings (begun (view_in k old) event) event)) none does) seals up)

  -- what a crash between two calls leaves
  abbrev LeavesRecord : Coordinator K → Type 0
  LeavesRecord c = k.told → k.has_stopped c.core.keeper ≡ false → (found : Option Kept) → k.left_since c.core.keeper (k.moment c.core.keeper) found ↔ (found ≡ Some (k.record_of c.core.keeper))

  -- once an event came to its end, that is the record of the acts with it
  lasts : (old new : Coordinator K) (event : Event) (items : List Item) (sealed : Sealed) → LeavesRecord new → (life : Life) → StandsForLife k old life → Done k old new event items sealed → k.told → (found : Option Kept)
      → k.left_since new.core.keeper (k.moment new.core.keeper) found ↔ (found ≡ Some (durable_of (acts_of (log_of (Lived life (Did event items))))))
  lasts old new event items sealed leaves life stands done told found =
      subst (λ (r : Kept). k.left_since new.core.keeper (k.moment new.core.keeper) found ↔ (found ≡ Some r))
      (ap (λ (v : View). let r : Kept = record { term = v.node.term; accepted = v.node.accepted; committed = v.node.committed } in r) (done.enters.stands life stands))
      (leaves told done.runs found)

  pub lasting : (ended : Result (Unit {0}) EventError) (r : Result Sealed StepError) (old new : Coordinator K) (event : Event) (sent shown : Shown) → sent ≡ nothing_shown
      → EventEnds k ended old new event sent shown (next_of old.settings (begun (view_in k old) event) event) → Seals ended event shown r → k.has_stopped old.core.keeper ≡ false
      → LeavesRecord new → IfOk r (λ (sealed : Sealed). Lasts k old new event)
  lasting ended (Ok sealed) old new event sent shown none does seals up leaves = λ life stands told found.
      lasts old new event (items_of old.settings (log_of life) event) sealed leaves life stands (deeds ended (Ok sealed) old new event sent shown none does seals up life stands) told found
  lasting ended (Err e) old new event sent shown none does seals up leaves = tt

-- an event that came to its end is sealed
pub sealed_fine : (ended : Result (Unit {0}) EventError) (event : Event) (shown : Shown) (r : Result Sealed StepError) → Seals ended event shown r → is_ok ended ≡ true → is_ok r ≡ true
sealed_fine (Ok u) event shown (Ok sealed) seals e = refl
sealed_fine (Ok u) event shown (Err x) seals e = absurd seals
sealed_fine (Err x) event shown r seals e = cc
