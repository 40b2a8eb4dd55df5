use Rattle.std.proofs.Common.{◌≡◌, [], drop}
use Rattle.sequence_chart.specs.Columns.{nodes_from}
use Rattle.sequence_chart.proofs.columns.nodes_of.Given as goal

abbrev pub invariant-loop-line : goal.invariant-loop-line
invariant-loop-line l = nodes_from l.nodes (drop l.line-index l.lines) ≡ nodes_from [] l.lines
