-- What is sealed is short, and within the limits, and its frames are few.
use Rattle.std.proofs.Common.{◌≡◌, ℕ, ◌≤◌, List, length, refl, sym, ap, subst}
use Rattle.std.specs.Prelude.{Result, Ok, Err, IfOk}
use Rattle.std.specs.List.{AllByRecursion}
use Rattle.state_journal.specs.declared.keeper.Keeper.{Ghosts}
use Rattle.wire_frames.specs.declared.frame.Frame.{Frame}
use Rattle.wire_frames.specs.Frames.{IsFitFrame}
use Rattle.master_tasks.specs.declared.waiting.Outgoing.{Outgoing}
use Rattle.master_tasks.specs.Queue.{most_open}
use Rattle.policy_model.specs.declared.events.Event.{Event}
use Rattle.policy_model.specs.declared.events.Event.TheVariants.{Start, Tick, Frame as FrameCame, Client as LineCame, Disconnected as PeerGone}
use Rattle.policy_model.specs.declared.events.Deed.{Deed}
use Rattle.policy_model.specs.Bounds.{IsSmallView, EventHoldsSet, most_frames}
use Rattle.policy_model.specs.Fitting.{IsFitView, IsFitEvent, EventHoldsSettings}
use Rattle.policy_model.specs.Moves.{begun}
use Rattle.policy_model.specs.Rules.{next_of}
use Rattle.policy_model.specs.Views.{View}
use Rattle.policy_model.proofs.Fits.{stays_fit}
use Rattle.policy_model.proofs.Frames.{sends_few}
use Rattle.policy_model.proofs.Shortness.{event_short}
use Rattle.policy_model.proofs.Spending.{answers_few}
use Rattle.coordinator.specs.Lives.{EventEnds}
use Rattle.coordinator.specs.Limits.{IsWithin, IsFew}
use Rattle.coordinator.specs.Showing.{Shown, showing_all, nothing_shown}
use Rattle.coordinator.specs.Steps.{Seals}
use Rattle.coordinator.specs.Views.{view_in}
use Rattle.coordinator.specs.declared.coordinator.Coordinator.{Coordinator}
use Rattle.coordinator.specs.declared.coordinator.EventError.{EventError}
use Rattle.coordinator.specs.declared.coordinator.EventError.TheVariants as error
use Rattle.coordinator.specs.declared.step.Sealed.{Sealed}
use Rattle.coordinator.specs.declared.step.StepError.{StepError}
use Rattle.coordinator.proofs.Sealing.{sealed_so}

-- the moment is within no limit that matters here
fit_begun : (v : View) (event : Event) → IsFitView v → IsFitView (begun v event)
fit_begun v Start fit = fit
fit_begun v (Tick now word) fit = record { term = fit.term; accepted = fit.accepted; older = fit.older; settings = fit.settings; applied_id = fit.applied_id; terms = fit.terms; good = fit.good }
fit_begun v (FrameCame frame) fit = fit
fit_begun v (LineCame conn line) fit = fit
fit_begun v (PeerGone peer) fit = fit

waiting_begun : (v : View) (event : Event) → (begun v event).tasks.waiting ≡ v.tasks.waiting
waiting_begun v Start = refl
waiting_begun v (Tick now word) = refl
waiting_begun v (FrameCame frame) = refl
waiting_begun v (LineCame conn line) = refl
waiting_begun v (PeerGone peer) = refl

small_begun : (v : View) (event : Event) → IsSmallView v → IsSmallView (begun v event)
small_begun v Start small = small
small_begun v (Tick now word) small = small
small_begun v (FrameCame frame) small = small
small_begun v (LineCame conn line) small = small
small_begun v (PeerGone peer) small = small

module _ {K : Type 0} (k : Ghosts K) where
  -- what is sealed
  pub within : (ended : Result (Unit {0}) EventError) (r : Result Sealed StepError) (old new : Coordinator K) (event : Event) (sent shown : Shown) → sent ≡ nothing_shown
      → EventEnds k ended old new event sent shown (next_of old.settings (begun (view_in k old) event) event) → Seals ended event shown r
      → IsFitEvent event → EventHoldsSettings event → length old.tasks.waiting ≤ most_open
      → IfOk r (λ (sealed : Sealed). IsWithin k old new sealed)
  within (Ok u) (Ok sealed) old new event sent shown none brings seals fit holds few =
      let s = old.settings in
      let v = begun (view_in k old) event in
      let items = next_of s v event in
      let is = sealed_so event items shown sealed (subst (λ (o : Shown). shown ≡ showing_all o items) none brings.shown) seals in
      let answers = answers_few s v event (subst (λ (n : ℕ). n ≤ most_open) (sym (ap (λ l. length l) (waiting_begun (view_in k old) event))) few) in
      record {
        deeds = subst (λ (l : List Deed). length l ≤ 6) (sym is.entries.deeds) (event_short s v event).deeds;
        replies = subst (λ (l : List Outgoing). length l ≤ most_open) (sym is.replies) answers.replies;
        sends = λ fit_before. subst (λ (l : List Frame). AllByRecursion IsFitFrame l) (sym is.sends) (stays_fit s v event (fit_begun (view_in k old) event fit_before) fit holds).frames;
        after = λ fit_before. subst (λ (u : View). IsFitView u) (sym brings.passes.view) (stays_fit s v event (fit_begun (view_in k old) event fit_before) fit holds).after;
      }
  within (Ok u) (Err e) old new event sent shown none brings seals fit holds few = tt
  within (Err error.Struck) (Ok sealed) old new event sent shown none breaks seals fit holds few = absurd seals
  within (Err error.Struck) (Err e) old new event sent shown none breaks seals fit holds few = tt
  within (Err error.Memory) (Ok sealed) old new event sent shown none same seals fit holds few = cc
  within (Err error.Memory) (Err e) old new event sent shown none same seals fit holds few = tt

  -- how many frames
  pub few : (ended : Result (Unit {0}) EventError) (r : Result Sealed StepError) (old new : Coordinator K) (event : Event) (sent shown : Shown) → sent ≡ nothing_shown
      → EventEnds k ended old new event sent shown (next_of old.settings (begun (view_in k old) event) event) → Seals ended event shown r
      → EventHoldsSet event → IfOk r (λ (sealed : Sealed). IsFew k old new event sealed)
  few (Ok u) (Ok sealed) old new event sent shown none brings seals holds =
      let s = old.settings in
      let v = begun (view_in k old) event in
      let items = next_of s v event in
      let is = sealed_so event items shown sealed (subst (λ (o : Shown). shown ≡ showing_all o items) none brings.shown) seals in
      record {
        sends = λ small. subst (λ (l : List Frame). length l ≤ most_frames event) (sym is.sends) (sends_few s v event (small_begun (view_in k old) event small) holds).frames;
        after = λ small. subst (λ (u : View). IsSmallView u) (sym brings.passes.view) (sends_few s v event (small_begun (view_in k old) event small) holds).after;
      }
  few (Ok u) (Err e) old new event sent shown none brings seals holds = tt
  few (Err error.Struck) (Ok sealed) old new event sent shown none breaks seals holds = absurd seals
  few (Err error.Struck) (Err e) old new event sent shown none breaks seals holds = tt
  few (Err error.Memory) (Ok sealed) old new event sent shown none same seals holds = cc
  few (Err error.Memory) (Err e) old new event sent shown none same seals holds = tt
