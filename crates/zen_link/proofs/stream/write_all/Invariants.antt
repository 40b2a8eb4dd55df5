use Rattle.std.proofs.Common.{◌≤◌, ◌-◌, length, take}
use Rattle.zen_link.specs.Streams.{Appended}
use Rattle.zen_link.proofs.stream.write_all.Given as goal

abbrev pub invariant-loop-at : goal.invariant-loop-at
invariant-loop-at g l = (l.at ≤ length l.bytes) × Appended (g.S.Sink.written l.initial.out) (g.S.Sink.written l.out) (take l.at l.bytes) × (g.S.Sink.faults l.initial.out ≤ g.S.Sink.faults l.out)

abbrev pub decreases-loop-at : goal.decreases-loop-at
decreases-loop-at g l = length l.bytes - l.at
