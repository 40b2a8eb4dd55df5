use Rattle.voting_config.proofs.Rosters.{quorum_mask}
use Rattle.voting_config.proofs.laws.law_quorum_mask.Goals as goal

pub returns : goal.returns
returns c = quorum_mask
