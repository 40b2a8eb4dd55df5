use Rattle.std.proofs.Common.{◌≡◌, ◌∷◌}
use Rattle.voting_config.specs.Lists.{left_in, parts_in}
use Rattle.trace_summary.specs.Counted.{after_lines, lines_of}
use Rattle.trace_summary.proofs.counts.Counts.with_lines.Given as goal

abbrev pub invariant-loop-rest : goal.invariant-loop-rest
invariant-loop-rest l = after_lines l.counts (l.line ∷ parts_in 10 l.rest) ≡ after_lines l.fn.self (lines_of l.text)

abbrev pub decreases-loop-rest : goal.decreases-loop-rest
decreases-loop-rest l = left_in l.rest
