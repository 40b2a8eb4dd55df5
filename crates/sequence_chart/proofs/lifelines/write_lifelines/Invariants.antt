use Rattle.std.proofs.Common.{◌≡◌, ◌++◌, drop}
use Rattle.std.specs.List.{flat_map}
use Rattle.sequence_chart.specs.Lifelines.{lifeline}
use Rattle.sequence_chart.proofs.lifelines.write_lifelines.Given as goal

abbrev pub invariant-loop-column : goal.invariant-loop-column
invariant-loop-column l = l.text ++ flat_map (lifeline l.lines l.bottom) (drop l.column-index l.columns) ≡ l.initial.text ++ flat_map (lifeline l.lines l.bottom) l.columns
