use Rattle.std.proofs.Common.{◌≡◌, ◌≤◌, drop, length}
use Rattle.sequence_chart.specs.Columns.{widest_from}
use Rattle.sequence_chart.proofs.columns.widest.Given as goal

abbrev pub invariant-loop-line : goal.invariant-loop-line
invariant-loop-line l = record {
  same : widest_from l.most l.node (drop l.line-index l.lines) ≡ widest_from (length l.node) l.node l.lines;
  few : l.most ≤ 48;
}
