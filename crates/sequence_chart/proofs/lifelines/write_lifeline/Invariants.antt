use Rattle.std.proofs.Common.{◌≡◌, ◌≤◌, ◌++◌, drop}
use Rattle.sequence_chart.specs.Rows.{first_cursor}
use Rattle.sequence_chart.specs.Lifelines.{first_pen, lifeline_from}
use Rattle.sequence_chart.proofs.lifelines.write_lifeline.Given as goal

abbrev pub invariant-loop-line : goal.invariant-loop-line
invariant-loop-line l = record {
  text : l.text ++ lifeline_from l.column.left l.column.node l.bottom l.pen l.cursor (drop l.line-index l.lines)
      ≡ l.initial.text ++ lifeline_from l.column.left l.column.node l.bottom first_pen first_cursor l.lines;
  row : l.cursor.row ≤ l.line-index;
  sent : l.cursor.sent ≤ l.line-index;
}
