use Rattle.std.proofs.Common.{ap, arith}
use Rattle.master_tasks.specs.Answering.{timed_out}
use Rattle.master_tasks.specs.Replying.{Replies}
use Rattle.coordinator.specs.Showing.{shown_in}
use Rattle.coordinator.proofs.Counting.{length-answers}
use Rattle.coordinator.proofs.Ticked.{times_out}
use Rattle.coordinator.proofs.coordinator.Coordinator.time_out_exclusions.Goals as goal

pub returns-clause-does : goal.returns-clause-does
returns-clause-does g c =
    times_out g.K.Keeper c.args.self.now c.time_out_exclusions.new.self _ _ c.committed.result.now c.committed.ensures c.time_out_exclusions.ensures.left (ap (λ (r : Replies). record (shown_in c.args.out.now) { replies = r.sent }) c.time_out_exclusions.ensures.sent)

pub returns-clause-uses : goal.returns-clause-uses
returns-clause-uses g c =
    let room = ap (λ (r : Replies). r.room) c.time_out_exclusions.ensures.sent in record { deeds = omega arith; frames = omega arith; replies = omega (arith, room, length-answers (timed_out c.committed.result.now c.args.self.now.moment) c.args.self.now.tasks.waiting) }
