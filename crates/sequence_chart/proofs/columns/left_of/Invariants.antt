use Rattle.std.proofs.Common.{◌≡◌, drop}
use Rattle.sequence_chart.specs.Columns.{left_of}
use Rattle.sequence_chart.proofs.columns.left_of.Given as goal

abbrev pub invariant-loop-column : goal.invariant-loop-column
invariant-loop-column l = left_of l.columns l.node ≡ left_of (drop l.column-index l.columns) l.node
