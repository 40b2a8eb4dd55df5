use Rattle.std.proofs.Common.{◌≡◌, ◌++◌, drop}
use Rattle.sequence_chart.specs.Words.{escaped}
use Rattle.sequence_chart.proofs.escaping.write_escaped.Given as goal

abbrev pub invariant-loop-b : goal.invariant-loop-b
invariant-loop-b l = l.text ++ escaped (drop l.b-index l.bytes) ≡ l.initial.text ++ escaped l.bytes
