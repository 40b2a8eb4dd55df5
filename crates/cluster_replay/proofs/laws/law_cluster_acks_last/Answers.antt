use Rattle.cluster_replay.proofs.Lasting.{cluster_acks_last}
use Rattle.cluster_replay.proofs.laws.law_cluster_acks_last.Goals as goal

pub returns : goal.returns
returns c = cluster_acks_last
