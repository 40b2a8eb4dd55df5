use Rattle.std.proofs.Common.{◌≤◌, [], drop, take}
use Rattle.schedule_replay.specs.ClusterTrace.{trace}
use Rattle.schedule_replay.specs.ClusterSoFar.{ClusterSoFar}
use Rattle.schedule_replay.specs.Tallied.{ClusterTallied}
use Rattle.schedule_replay.proofs.replaying.replay_nodes.Given as goal

abbrev pub invariant-loop-line : goal.invariant-loop-line
invariant-loop-line g l =
    (g.S.Sink.faults l.initial.out ≤ g.S.Sink.faults l.out)
    × ClusterSoFar l.schedule.nodes l.schedule.initial l.schedule.voting_only l.schedule.second l.cluster.nodes.items l.cluster.frames.items (g.S.Sink.written l.initial.out) (g.S.Sink.written l.out) l.held (drop l.line-index l.lines) (trace l.schedule)
    × (g.T.Observer.saw l.initial.observer [] → ClusterTallied g.T.Observer.saw l.schedule.nodes l.schedule.initial l.schedule.voting_only l.schedule.second l.cluster.nodes.items l.cluster.frames.items l.observer (take l.line-index l.lines))
