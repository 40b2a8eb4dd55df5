use Rattle.std.proofs.Common.{take}
use Rattle.schedule_replay.proofs.SurveyLaws.{FindsEach}
use Rattle.schedule_replay.proofs.surveying.surveyed_nodes.Given as goal

abbrev pub invariant-loop-node : goal.invariant-loop-node
invariant-loop-node l = FindsEach (take l.node-index l.nodes) l.found.items
