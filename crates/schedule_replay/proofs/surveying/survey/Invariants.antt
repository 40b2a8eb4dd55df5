use Rattle.std.proofs.Common.{take}
use Rattle.replay_node.specs.Worlds.{fresh_world}
use Rattle.schedule_replay.specs.Replayed.{replayed_from}
use Rattle.schedule_replay.specs.WorldStands.{Stands}
use Rattle.schedule_replay.proofs.surveying.survey.Given as goal

abbrev pub invariant-loop-line : goal.invariant-loop-line
invariant-loop-line l = Stands l.schedule.nodes l.replayer.nodes.items l.replayer.sent (replayed_from l.schedule.initial fresh_world (take l.line-index l.lines))
