use Rattle.std.proofs.Common.{◌≤◌, ◌-◌, length, vec_len}
use Rattle.zen_link.specs.Reading.{IsReadSoFar}
use Rattle.zen_link.proofs.reading.read_input.Given as goal

abbrev pub invariant-loop-chunk : goal.invariant-loop-chunk
invariant-loop-chunk g l =
    IsReadSoFar (g.S.Source.left l.initial.input) (g.S.Source.left l.input) l.bytes.items
    × (length l.bytes.items ≤ l.most) × (g.S.Source.faults l.initial.input ≤ g.S.Source.faults l.input)

abbrev pub decreases-loop-chunk : goal.decreases-loop-chunk
decreases-loop-chunk g l = l.most - vec_len l.bytes
