use Rattle.std.proofs.Common.{◌+◌, ℕ, List, ap, sym, ◌∙◌}
use Rattle.voting_config.specs.Ids.{Id, with_id}
use Rattle.coordinator.proofs.Electing.{alone_stands, alone_waits}
use Rattle.coordinator.proofs.coordinator.Coordinator.stand_alone.Goals as goal

pub returns-then-not-elects-clause-does : goal.returns-then-not-elects-clause-does
returns-then-not-elects-clause-does g c =
    alone_waits g.K.Keeper c.args.self.now _ c.with-alone.result (c.with-alone.ensures ∙ ap (λ (l : List Id). with_id c.args.self.now.settings.me l) c.new.ensures) (sym c.elects.ensures ∙ c.if-not-elects.true)

pub returns-clause-does : goal.returns-clause-does
returns-clause-does g c =
    alone_stands g.K.Keeper c.args.self.now c.stand_for_election.new.self _ _ c.with-alone.result _ (c.with-alone.ensures ∙ ap (λ (l : List Id). with_id c.args.self.now.settings.me l) c.new.ensures) (sym c.elects.ensures ∙ c.if-not-elects.false) (ap (λ (n : ℕ). n + 1) c.term-term.ensures.term) c.stand_for_election.ensures.does
