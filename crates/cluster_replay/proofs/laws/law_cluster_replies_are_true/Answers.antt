use Rattle.cluster_replay.proofs.Schedules.{cluster_replies_are_true}
use Rattle.cluster_replay.proofs.laws.law_cluster_replies_are_true.Goals as goal

pub returns : goal.returns
returns c = cluster_replies_are_true
