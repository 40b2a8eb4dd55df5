use Rattle.std.proofs.Common.{◌≡◌, ◌≤◌, ◌++◌, drop}
use Rattle.sequence_chart.specs.Rows.{first_cursor, walk}
use Rattle.sequence_chart.specs.Elements.{event_row_in}
use Rattle.sequence_chart.proofs.event_rows.write_event_rows.Given as goal

abbrev pub invariant-loop-line : goal.invariant-loop-line
invariant-loop-line l = record {
  text : l.text ++ walk (event_row_in l.origins) l.cursor (drop l.line-index l.lines) ≡ l.initial.text ++ walk (event_row_in l.origins) first_cursor l.lines;
  row : l.cursor.row ≤ l.line-index;
  sent : l.cursor.sent ≤ l.line-index;
}
