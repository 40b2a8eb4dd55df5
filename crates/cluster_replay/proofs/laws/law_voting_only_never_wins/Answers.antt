use Rattle.cluster_replay.proofs.Schedules.{voting_only_never_wins}
use Rattle.cluster_replay.proofs.laws.law_voting_only_never_wins.Goals as goal

pub returns : goal.returns
returns c = voting_only_never_wins
