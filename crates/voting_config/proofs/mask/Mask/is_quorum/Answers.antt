use Rattle.voting_config.proofs.Rosters.{distinct_of}
use Rattle.voting_config.proofs.mask.Mask.is_quorum.Goals as goal

pub returns-clause-distinct : goal.returns-clause-distinct
returns-clause-distinct c = distinct_of c.args.self.now.config c.as_slice.ensures.is_set.ascending
