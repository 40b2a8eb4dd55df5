use Rattle.std.proofs.Common.{ℕ, arith, ap, ◌∙◌}
use Rattle.master_tasks.specs.Answering.{committed_in}
use Rattle.master_tasks.specs.Replying.{Replies}
use Rattle.coordinator.specs.Showing.{shown_in}
use Rattle.coordinator.proofs.Counting.{length-answers}
use Rattle.coordinator.proofs.Committed.{commit_acked}
use Rattle.coordinator.proofs.coordinator.Coordinator.ack_commit.Goals as goal

pub returns-clause-does : goal.returns-clause-does
returns-clause-does g c =
    commit_acked g.K.Keeper c.args.self.now c.ack_committed.new.self _ _ _ (ap (λ (t : ℕ). record { term = t; version = c.published-version.result.0 }) c.term.ensures.term ∙ ap (λ (n : ℕ). record { term = (g.K.Keeper.record_of c.args.self.now.core.keeper).term; version = n }) c.published-version.ensures.version)
    c.ack_committed.ensures.left (ap (λ (r : Replies). record (shown_in c.args.out.now) { replies = r.sent }) c.ack_committed.ensures.sent)

pub returns-clause-uses : goal.returns-clause-uses
returns-clause-uses g c =
    let room = ap (λ (r : Replies). r.room) c.ack_committed.ensures.sent in record { deeds = omega arith; frames = omega arith; replies = omega (arith, room, length-answers (committed_in (record { term = c.term.result; version = c.published-version.result.0 })) c.args.self.now.tasks.waiting) }
