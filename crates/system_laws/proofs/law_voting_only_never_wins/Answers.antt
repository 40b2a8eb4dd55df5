use Rattle.system_laws.proofs.VotingOnly.{voting_only_never_wins}
use Rattle.system_laws.proofs.law_voting_only_never_wins.Goals as goal

pub returns : goal.returns
returns c = voting_only_never_wins
