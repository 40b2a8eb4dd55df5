use Rattle.std.proofs.Common.{◌≡◌, ◌+◌, ◌≤◌, ◌∷◌, length}
use Rattle.voting_config.specs.Lists.{parts_in, left_in}
use Rattle.trace_reader.specs.Limits.{most_trace_lines}
use Rattle.trace_reader.specs.Reading.{lines_at, trace_at}
use Rattle.trace_reader.proofs.reading.read_trace.Given as goal

abbrev pub invariant-loop-rest : goal.invariant-loop-rest
invariant-loop-rest l = record {
  same : lines_at l.progress l.lines.items (l.line ∷ parts_in 10 l.rest) ≡ trace_at l.bytes;
  sizes : l.progress.before + length l.line + left_in l.rest ≡ length l.bytes;
  count : length l.lines.items + 1 ≡ l.progress.number;
  few : length l.lines.items ≤ most_trace_lines;
  messages : l.progress.next ≤ l.progress.number;
}

abbrev pub decreases-loop-rest : goal.decreases-loop-rest
decreases-loop-rest l = left_in l.rest
