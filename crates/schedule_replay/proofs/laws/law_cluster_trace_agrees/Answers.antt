use Rattle.schedule_replay.proofs.ClusterLaws.{agrees}
use Rattle.schedule_replay.proofs.laws.law_cluster_trace_agrees.Goals as goal

pub returns : goal.returns
returns c = agrees
