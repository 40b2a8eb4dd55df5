use Rattle.std.proofs.Common.{List, arith, ap, sym, ◌∙◌}
use Rattle.voting_config.specs.Ids.{Id}
use Rattle.coordinator.specs.Asks.{asks_of}
use Rattle.coordinator.proofs.Discovering.{few_asks}
use Rattle.coordinator.proofs.coordinator.Coordinator.plan_asks.Goals as goal

pub returns-then-not-is_due : goal.returns-then-not-is_due
returns-then-not-is_due g c = sym c.is_due.ensures ∙ c.if-not-is_due.true

pub returns : goal.returns
returns g c =
    let me = c.args.self.now.settings.me in
    record {
      due = sym c.is_due.ensures ∙ c.if-not-is_due.false;
      frames = c.in_ok-asks.ensures ∙ ap (λ (l : List Id). asks_of me l) c.known_set-known.ensures.value;
      few = few_asks me c.known_set-known.result c.in_ok-asks.asks.list c.in_ok-asks.ensures (omega (arith, c.known_set-known.ensures.few));
    }
