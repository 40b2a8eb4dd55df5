use Rattle.std.proofs.Common.{◌≡◌, ◌++◌, drop}
use Rattle.std.specs.List.{flat_map}
use Rattle.sequence_chart.specs.Lifelines.{head}
use Rattle.sequence_chart.proofs.lifelines.write_heads.Given as goal

abbrev pub invariant-loop-column : goal.invariant-loop-column
invariant-loop-column l = l.text ++ flat_map (head l.y) (drop l.column-index l.columns) ≡ l.initial.text ++ flat_map (head l.y) l.columns
