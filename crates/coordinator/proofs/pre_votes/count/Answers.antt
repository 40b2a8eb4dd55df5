use Rattle.std.proofs.Common.{sym, ◌∙◌}
use Rattle.coordinator.proofs.PreVoting.{counted_some}
use Rattle.coordinator.proofs.pre_votes.count.Goals as goal

pub returns-then-fits-clause-added : goal.returns-then-fits-clause-added
returns-then-fits-clause-added c =
    rw (c.add.ensures.answer, c.add.ensures.round)
    (sym (counted_some c.args.round.now c.in-Some.round c.args.from c.args.term c.args.last c.args.committed.now c.args.accepted.now c.in-Some.is (sym c.fits.ensures.round ∙ c.if-fits.true)))
