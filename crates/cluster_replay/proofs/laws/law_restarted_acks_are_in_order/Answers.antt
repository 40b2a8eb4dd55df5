use Rattle.cluster_replay.proofs.InOrder.{restarted_acks_are_in_order}
use Rattle.cluster_replay.proofs.laws.law_restarted_acks_are_in_order.Goals as goal

pub returns : goal.returns
returns c = restarted_acks_are_in_order
