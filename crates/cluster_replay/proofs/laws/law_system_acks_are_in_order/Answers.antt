use Rattle.cluster_replay.proofs.InOrder.{system_acks_are_in_order}
use Rattle.cluster_replay.proofs.laws.law_system_acks_are_in_order.Goals as goal

pub returns : goal.returns
returns c = system_acks_are_in_order
