use Rattle.std.proofs.Common.{ap, ◌∙◌}
use Rattle.pre_vote.specs.Rounds.{Round, fits}
use Rattle.pre_vote.proofs.Participants.{fits_is}
use Rattle.pre_vote.proofs.rounds.PreVotes.fits.Goals as goal

pub returns-clause-calls : goal.returns-clause-calls
returns-clause-calls c = λ calls e. c.has_place.ensures ∙ ap (λ (r : Round). fits c.args.source r) e ∙ fits_is c.args.source calls
