use Rattle.coordinator.proofs.OfLosses.{leader_lost}
use Rattle.coordinator.proofs.coordinator.Coordinator.lose_leader.Goals as goal

pub returns : goal.returns
returns g c =
    record { does = leader_lost g.K.Keeper c.args.self.now c.become_candidate.new.self c.note_loss.new.self _ _ _ c.in-Ok.ensures.shown c.become_candidate.ensures.does (c.note_loss.ensures.does c.become_candidate.new.out) }
