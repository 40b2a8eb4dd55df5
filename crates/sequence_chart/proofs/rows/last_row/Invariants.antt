use Rattle.std.proofs.Common.{◌≡◌, ◌≤◌, drop}
use Rattle.sequence_chart.specs.Rows.{first_cursor}
use Rattle.sequence_chart.specs.Chart.{last_row}
use Rattle.sequence_chart.proofs.rows.last_row.Given as goal

abbrev pub invariant-loop-line : goal.invariant-loop-line
invariant-loop-line l = record {
  same : last_row l.cursor (drop l.line-index l.lines) ≡ last_row first_cursor l.lines;
  row : l.cursor.row ≤ l.line-index;
  sent : l.cursor.sent ≤ l.line-index;
}
