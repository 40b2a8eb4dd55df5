use Rattle.schedule_replay.proofs.ClusterLaws.{tells}
use Rattle.schedule_replay.proofs.laws.law_cluster_trace_gives_history.Goals as goal

pub returns : goal.returns
returns c = tells
