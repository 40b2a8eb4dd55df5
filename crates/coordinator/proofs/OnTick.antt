-- A tick, whose moment is kept first.
use Rattle.std.proofs.Common.{◌≡◌, ℕ, List, ap, subst, ◌∙◌}
use Rattle.std.specs.Prelude.{max, min}
use Rattle.state_journal.specs.declared.keeper.Keeper.{Ghosts}
use Rattle.policy_model.specs.declared.events.Event.TheVariants.{Tick}
use Rattle.policy_model.specs.Events.{Item}
use Rattle.policy_model.specs.Moves.{begun}
use Rattle.policy_model.specs.Parts.{last_moment}
use Rattle.policy_model.specs.Rules.{ticks, next_of}
use Rattle.policy_model.specs.Views.{View}
use Rattle.coordinator.specs.Does.{Makes, Fails}
use Rattle.coordinator.specs.Lives.{Brings, Breaks}
use Rattle.coordinator.specs.Showing.{Shown}
use Rattle.coordinator.specs.Views.{view_in}
use Rattle.coordinator.specs.declared.coordinator.Coordinator.{Coordinator}
use Rattle.coordinator.proofs.Entering.{event_fine, event_struck}

module _ {K : Type 0} (k : Ghosts K) where
  -- a node that keeps the tick's moment, and nothing else
  pub record Begins (old mid : Coordinator K) (now : ℕ) : Type 0 where
    pub rest : mid ≡ record old { moment = mid.moment }
    pub moment : mid.moment ≡ max old.moment (min now last_moment)

  begins : (old mid : Coordinator K) (now word : ℕ) → Begins old mid now → view_in k mid ≡ begun (view_in k old) (Tick now word)
  begins old mid now word b = ap (λ (c : Coordinator K). view_in k c) b.rest ∙ ap (λ (m : ℕ). record (view_in k old) { moment = m }) b.moment

  items_are : (old mid : Coordinator K) (now word : ℕ) → Begins old mid now
      → ticks mid.settings (view_in k mid) word (view_in k mid).mode ≡ next_of old.settings (begun (view_in k old) (Tick now word)) (Tick now word)
  items_are old mid now word b =
      ap (λ (c : Coordinator K). ticks c.settings (view_in k mid) word (view_in k mid).mode) b.rest
      ∙ ap (λ (v : View). ticks old.settings v word v.mode) (begins old mid now word b)

  pub tick_fine : (old mid new : Coordinator K) (now word : ℕ) (o o1 : Shown) → Begins old mid now → Makes k mid new o o1 (ticks mid.settings (view_in k mid) word (view_in k mid).mode)
      → Brings k old new (Tick now word) o o1 (next_of old.settings (begun (view_in k old) (Tick now word)) (Tick now word))
  tick_fine old mid new now word o o1 b makes =
      subst (λ (is : List Item). Brings k old new (Tick now word) o o1 is) (items_are old mid now word b)
      (event_fine k old mid new (Tick now word) o o1 (ticks mid.settings (view_in k mid) word (view_in k mid).mode)
      (ap (λ (c : Coordinator K). c.settings) b.rest) (ap (λ (c : Coordinator K). c.core) b.rest) (begins old mid now word b) makes)

  pub tick_struck : (old mid new : Coordinator K) (now word : ℕ) (o o1 : Shown) → Begins old mid now → Fails k mid new o o1 (ticks mid.settings (view_in k mid) word (view_in k mid).mode)
      → Breaks k old new (Tick now word) o o1 (next_of old.settings (begun (view_in k old) (Tick now word)) (Tick now word))
  tick_struck old mid new now word o o1 b fails =
      subst (λ (is : List Item). Breaks k old new (Tick now word) o o1 is) (items_are old mid now word b)
      (event_struck k old mid new (Tick now word) o o1 (ticks mid.settings (view_in k mid) word (view_in k mid).mode)
      (ap (λ (c : Coordinator K). c.settings) b.rest) (ap (λ (c : Coordinator K). c.core) b.rest) (begins old mid now word b) fails)

  -- without memory the moment is the one of before
  pub tick_undone : (old mid new : Coordinator K) (now : ℕ) → Begins old mid now → new ≡ mid → record new { moment = old.moment } ≡ old
  tick_undone old mid new now b same = ap (λ (c : Coordinator K). record c { moment = old.moment }) (same ∙ b.rest)
