use Rattle.policy_model.proofs.VotingOnly.{no_voting_only}
use Rattle.policy_model.proofs.laws.law_no_voting_only.Goals as goal

pub returns : goal.returns
returns c = no_voting_only
