use Rattle.std.proofs.Common.{◌≡◌, ◌≤◌, ◌++◌, drop}
use Rattle.sequence_chart.specs.Rows.{first_cursor, walk}
use Rattle.sequence_chart.specs.Elements.{label_in}
use Rattle.sequence_chart.proofs.marks.write_labels.Given as goal

abbrev pub invariant-loop-line : goal.invariant-loop-line
invariant-loop-line l = record {
  text : l.text ++ walk (label_in l.columns) l.cursor (drop l.line-index l.lines) ≡ l.initial.text ++ walk (label_in l.columns) first_cursor l.lines;
  row : l.cursor.row ≤ l.line-index;
  sent : l.cursor.sent ≤ l.line-index;
}
