use Rattle.voting_config.proofs.Words.{marked_zero}
use Rattle.voting_config.proofs.join_votes.JoinVotes.clear.Goals as goal

pub returns : goal.returns
returns c = marked_zero c.self.inside.roster
