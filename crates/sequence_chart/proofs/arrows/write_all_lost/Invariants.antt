use Rattle.std.proofs.Common.{◌≡◌, ◌≤◌, ◌++◌, drop}
use Rattle.sequence_chart.specs.Rows.{first_cursor, walk}
use Rattle.sequence_chart.specs.Chart.{lost_in}
use Rattle.sequence_chart.proofs.arrows.write_all_lost.Given as goal

abbrev pub invariant-loop-line : goal.invariant-loop-line
invariant-loop-line l = record {
  text : l.text ++ walk (lost_in l.columns l.handed) l.cursor (drop l.line-index l.lines) ≡ l.initial.text ++ walk (lost_in l.columns l.handed) first_cursor l.lines;
  row : l.cursor.row ≤ l.line-index;
  sent : l.cursor.sent ≤ l.line-index;
}
