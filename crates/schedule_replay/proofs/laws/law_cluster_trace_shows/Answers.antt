use Rattle.schedule_replay.proofs.ClusterLaws.{shows}
use Rattle.schedule_replay.proofs.laws.law_cluster_trace_shows.Goals as goal

pub returns : goal.returns
returns c = shows
