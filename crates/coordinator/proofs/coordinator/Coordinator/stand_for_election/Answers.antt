use Rattle.std.proofs.Common.{List, arith, ◌∙◌, ap}
use Rattle.voting_config.specs.Ids.{Id, with_id}
use Rattle.coordinator.proofs.Electing.{stands, stands_not}
use Rattle.coordinator.proofs.coordinator.Coordinator.stand_for_election.Goals as goal

pub returns-then-term-gt-LAST_NUMBER-clause-does : goal.returns-then-term-gt-LAST_NUMBER-clause-does
returns-then-term-gt-LAST_NUMBER-clause-does g c =
    stands_not g.K.Keeper c.args.self.now _ c.args.term c.if-term-gt-LAST_NUMBER.true

pub returns-clause-does : goal.returns-clause-does
returns-clause-does g c =
    stands g.K.Keeper c.args.self.now _ _ c.args.term c.with-all.result (omega (arith, c.if-term-gt-LAST_NUMBER.false)) (c.with-all.ensures ∙ ap (λ (l : List Id). with_id c.args.self.now.settings.me l) c.known_set.ensures.value) c.send_all.ensures.does
