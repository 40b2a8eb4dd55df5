use Rattle.cluster_replay.proofs.Lasting.{system_acks_last}
use Rattle.cluster_replay.proofs.laws.law_system_acks_last.Goals as goal

pub returns : goal.returns
returns c = system_acks_last
