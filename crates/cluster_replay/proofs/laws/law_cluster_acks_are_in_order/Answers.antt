use Rattle.cluster_replay.proofs.InOrder.{cluster_acks_are_in_order}
use Rattle.cluster_replay.proofs.laws.law_cluster_acks_are_in_order.Goals as goal

pub returns : goal.returns
returns c = cluster_acks_are_in_order
