use Rattle.std.proofs.Common.{◌≡◌, ◌≤◌, ◌++◌, drop}
use Rattle.sequence_chart.specs.Rows.{first_cursor, walk}
use Rattle.sequence_chart.specs.Elements.{arrow_in}
use Rattle.sequence_chart.proofs.arrows.write_arrows.Given as goal

abbrev pub invariant-loop-line : goal.invariant-loop-line
invariant-loop-line l = record {
  text : l.text ++ walk (arrow_in l.columns l.origins) l.cursor (drop l.line-index l.lines) ≡ l.initial.text ++ walk (arrow_in l.columns l.origins) first_cursor l.lines;
  row : l.cursor.row ≤ l.line-index;
  sent : l.cursor.sent ≤ l.line-index;
}
