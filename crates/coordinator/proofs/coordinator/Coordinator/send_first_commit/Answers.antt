use Rattle.coordinator.proofs.Committed.{first_commit}
use Rattle.coordinator.proofs.coordinator.Coordinator.send_first_commit.Goals as goal

pub returns : goal.returns
returns g c =
    record { does = first_commit g.K.Keeper c.args.self.now c.ack_commit.new.self _ _ _ c.args.id c.broadcast_commit.ensures.shown c.ack_commit.ensures.does }
