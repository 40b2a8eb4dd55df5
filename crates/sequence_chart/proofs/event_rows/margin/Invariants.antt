use Rattle.std.proofs.Common.{◌≤◌}
use Rattle.sequence_chart.proofs.event_rows.margin.Given as goal

abbrev pub invariant-loop-line : goal.invariant-loop-line
invariant-loop-line l = record { row : l.cursor.row ≤ l.line-index; sent : l.cursor.sent ≤ l.line-index; few : l.most ≤ 100 }
