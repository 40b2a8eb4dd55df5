use Rattle.std.proofs.Common.{ℕ, ◌+◌, ap}
use Rattle.coordinator.proofs.OfLosses.{led_anew}
use Rattle.coordinator.proofs.coordinator.Coordinator.lead_anew.Goals as goal

pub returns : goal.returns
returns g c =
    record { does = led_anew g.K.Keeper c.args.self.now c.become_candidate.new.self c.stand_for_election.new.self _ _ _ _ c.become_candidate.ensures.does (ap (λ (n : ℕ). n + 1) c.term-term.ensures.term) c.stand_for_election.ensures.does }
