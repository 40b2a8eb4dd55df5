use Rattle.std.proofs.Common.{◌-◌, length}
use Rattle.client_lines.specs.Ends.{IsEnding}
use Rattle.client_lines.proofs.lines.lines_in.Given as goal

abbrev pub invariant-loop-more : goal.invariant-loop-more
invariant-loop-more l = IsEnding l.lines.items l.used l.seen l.bytes

abbrev pub decreases-loop-more : goal.decreases-loop-more
decreases-loop-more l = length l.bytes - l.seen
