use Rattle.std.proofs.Common.{◌≡◌, ◌≤◌, ◌+◌, ◌*◌, ◌++◌, drop}
use Rattle.sequence_chart.specs.Columns.{columns_from}
use Rattle.sequence_chart.proofs.columns.columns_of.Given as goal

abbrev pub invariant-loop-node : goal.invariant-loop-node
invariant-loop-node l = record {
  same : l.columns.items ++ columns_from l.left (drop l.node-index l.node-items) l.lines ≡ columns_from l.fn.left l.nodes l.lines;
  few : l.left ≤ 1000 + 332 * l.node-index;
}
