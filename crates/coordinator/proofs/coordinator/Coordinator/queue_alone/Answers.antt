use Rattle.coordinator.specs.Showing.{shown_in}
use Rattle.coordinator.proofs.Asked.{queued_only}
use Rattle.coordinator.proofs.coordinator.Coordinator.queue_alone.Goals as goal

pub returns : goal.returns
returns g c =
    record { does = λ out. queued_only g.K.Keeper c.args.self.now (shown_in out) c.args.conn c.args.request c.add_request.new.tasks c.requires.busy c.in-Ok.ensures.ok }
