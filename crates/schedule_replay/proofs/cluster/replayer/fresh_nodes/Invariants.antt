use Rattle.std.proofs.Common.{take}
use Rattle.replay_node.specs.Clusters.{fresh_cluster}
use Rattle.schedule_replay.specs.ClusterStands.{AllFor}
use Rattle.schedule_replay.proofs.cluster.replayer.fresh_nodes.Given as goal

abbrev pub invariant-loop-id : goal.invariant-loop-id
invariant-loop-id l = AllFor l.ids l.names l.voting_only l.second (take l.id-index l.listed) l.nodes.items (fresh_cluster l.ids l.names l.voting_only l.second)
