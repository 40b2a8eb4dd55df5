use Rattle.std.proofs.Common.{true≢false, sym, ap, subst, ◌∙◌, arith}
use Rattle.std.specs.Prelude.{Option}
use Rattle.cluster_state.specs.declared.state.Kept.{Kept}
use Rattle.coordinator.proofs.Entering.{event_ready, event_leaves, life_leaves}
use Rattle.coordinator.proofs.Limiting.{within, few}
use Rattle.coordinator.proofs.Sealing.{deeds, stays, lasting, sealed_fine, sealed_not_halted}
use Rattle.coordinator.proofs.coordinator.Coordinator.step.Goals as goal

pub returns-clause-does : goal.returns-clause-does
returns-clause-does g c =
    deeds g.K.Keeper c.take_event-ended.result c.seal.result c.args.self.now c.take_event-ended.new.self c.args.event _ _ (c.in-Ok.ensures.shown ∙ c.no_output-output.ensures) c.take_event-ended.ensures.does c.seal.ensures (ap (λ x. g.K.Keeper.has_stopped x) (sym c.keeper.ensures) ∙ sym c.stopped.ensures ∙ c.if-stopped.false)

pub returns-clause-stays : goal.returns-clause-stays
returns-clause-stays g c =
    stays g.K.Keeper c.take_event-ended.result c.seal.result c.args.self.now c.take_event-ended.new.self c.args.event _ _ _ c.take_event-ended.ensures.does c.seal.ensures

pub returns-clause-crash : goal.returns-clause-crash
returns-clause-crash g c =
    life_leaves g.K.Keeper c.args.self.now c.take_event-ended.new.self c.args.event (event_leaves g.K.Keeper c.take_event-ended.result c.args.self.now c.take_event-ended.new.self c.args.event _ _ _ c.take_event-ended.ensures.does)

pub returns-clause-ready : goal.returns-clause-ready
returns-clause-ready g c =
    event_ready g.K.Keeper c.take_event-ended.result c.args.self.now c.take_event-ended.new.self c.args.event _ _ _ c.requires.ready c.take_event-ended.ensures.does

pub returns-clause-within : goal.returns-clause-within
returns-clause-within g c =
    within g.K.Keeper c.take_event-ended.result c.seal.result c.args.self.now c.take_event-ended.new.self c.args.event _ _ (c.in-Ok.ensures.shown ∙ c.no_output-output.ensures) c.take_event-ended.ensures.does c.seal.ensures c.requires.fit c.law_event_holds_settings.ensures (rw (← c.open_count.ensures.count) c.open_count.ensures.few)

pub returns-clause-stopped : goal.returns-clause-stopped
returns-clause-stopped g c =
    (λ e. absurd (sealed_not_halted c.take_event-ended.result c.args.event _ c.seal.result c.seal.ensures e), λ stopped. absurd (true≢false (sym stopped ∙ ap (λ x. g.K.Keeper.has_stopped x) (sym c.keeper.ensures) ∙ sym c.stopped.ensures ∙ c.if-stopped.false)))

pub returns-clause-durable : goal.returns-clause-durable
returns-clause-durable g c =
    let keeper = c.take_event-ended.new.self.core.keeper in
    let now = g.K.Keeper.moment keeper in
    lasting g.K.Keeper c.take_event-ended.result c.seal.result c.args.self.now c.take_event-ended.new.self c.args.event _ _ (c.in-Ok.ensures.shown ∙ c.no_output-output.ensures) c.take_event-ended.ensures.does c.seal.ensures (ap (λ x. g.K.Keeper.has_stopped x) (sym c.keeper.ensures) ∙ sym c.stopped.ensures ∙ c.if-stopped.false)
    (λ told running found. (
      λ left. g.met.K.Keeper.only_kept keeper found told running left,
      λ is. subst (λ (f : Option Kept). g.K.Keeper.left_since keeper now f) (sym is) (g.met.K.Keeper.may_stay keeper now told (omega arith) running),
    ))

pub returns-clause-start : goal.returns-clause-start
returns-clause-start g c = λ start up. sealed_fine c.take_event-ended.result c.args.event _ c.seal.result c.seal.ensures (c.take_event-ended.ensures.start start)

pub returns-clause-few : goal.returns-clause-few
returns-clause-few g c =
    few g.K.Keeper c.take_event-ended.result c.seal.result c.args.self.now c.take_event-ended.new.self c.args.event _ _ (c.in-Ok.ensures.shown ∙ c.no_output-output.ensures) c.take_event-ended.ensures.does c.seal.ensures c.law_event_holds_set.ensures
