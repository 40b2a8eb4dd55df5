use Rattle.std.proofs.Common.{take}
use Rattle.replay_node.specs.Worlds.{fresh_world}
use Rattle.schedule_replay.specs.WorldStands.{AllStand}
use Rattle.schedule_replay.proofs.replayer.fresh_nodes.Given as goal

abbrev pub invariant-loop-id : goal.invariant-loop-id
invariant-loop-id l = AllStand (take l.id-index l.ids) l.nodes.items fresh_world
