use Rattle.std.proofs.Common.{◌≡◌, ◌≤◌, ◌++◌, drop}
use Rattle.sequence_chart.specs.Rows.{walk}
use Rattle.sequence_chart.specs.Messages.{origin_in, origins_of}
use Rattle.sequence_chart.proofs.messages.origins_of.Given as goal

abbrev pub invariant-loop-line : goal.invariant-loop-line
invariant-loop-line l = record {
  same : l.origins.items ++ walk origin_in l.cursor (drop l.line-index l.lines) ≡ origins_of l.lines;
  row : l.cursor.row ≤ l.line-index;
  sent : l.cursor.sent ≤ l.line-index;
}
