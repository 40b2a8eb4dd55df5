use Rattle.cluster_replay.proofs.Lasting.{restarted_acks_last}
use Rattle.cluster_replay.proofs.laws.law_restarted_acks_last.Goals as goal

pub returns : goal.returns
returns c = restarted_acks_last
