use Rattle.std.proofs.Common.{◌≤◌, [], drop, take}
use Rattle.schedule_replay.specs.SoFar.{SoFar}
use Rattle.schedule_replay.specs.Trace.{trace}
use Rattle.schedule_replay.proofs.Progress.{last_world}
use Rattle.schedule_replay.specs.Tallied.{Tallied}
use Rattle.schedule_replay.proofs.replaying.replay_core.Given as goal

abbrev pub invariant-loop-line : goal.invariant-loop-line
invariant-loop-line g l =
    (g.S.Sink.faults l.initial.out ≤ g.S.Sink.faults l.out)
    × SoFar l.schedule.nodes l.schedule.initial l.replayer.nodes.items l.replayer.sent (g.S.Sink.written l.initial.out) (g.S.Sink.written l.out) l.held (drop l.line-index l.lines) (trace l.schedule) (last_world l.schedule)
    × (g.T.Observer.saw l.initial.observer [] → Tallied g.T.Observer.saw l.schedule.nodes l.schedule.initial l.replayer.nodes.items l.replayer.sent l.observer (take l.line-index l.lines))
