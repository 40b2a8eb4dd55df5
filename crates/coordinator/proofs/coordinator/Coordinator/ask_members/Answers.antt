use Rattle.std.proofs.Common.{◌+◌, ◌<◌, ◌∙◌, ap, arith}
use Rattle.cluster_state.specs.Field.{last_number}
use Rattle.coordinator.proofs.Going.{asks_found, asks_late}
use Rattle.coordinator.proofs.coordinator.Coordinator.ask_members.Goals as goal

pub returns-then-term-le-LAST_NUMBER : goal.returns-then-term-le-LAST_NUMBER
returns-then-term-le-LAST_NUMBER g c =
    asks_found g.K.Keeper c.args.self.now _ _ c.args.id _ c.in-Some.publication c.as_slice.result.now c.in-Some.is (ap (λ n. n + 1) c.term-term.ensures.term) c.if-term-le-LAST_NUMBER.true (c.as_slice.ensures.value ∙ c.targets-targets.ensures) c.send_all.ensures.shown

pub returns-else-term-le-LAST_NUMBER : goal.returns-else-term-le-LAST_NUMBER
returns-else-term-le-LAST_NUMBER g c =
    let late : last_number < c.term-term.result + 1 = omega (arith, c.if-term-le-LAST_NUMBER.false) in
    asks_late g.K.Keeper c.args.self.now _ c.args.id _ (ap (λ n. n + 1) c.term-term.ensures.term) late
