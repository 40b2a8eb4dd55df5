use Rattle.std.proofs.Common.{◌≡◌, ◌++◌, drop}
use Rattle.std.specs.List.{flat_map}
use Rattle.trace_audit.specs.Printed.{won_line}
use Rattle.trace_audit.proofs.printing.write_winners.Given as goal

abbrev pub invariant-loop-winner : goal.invariant-loop-winner
invariant-loop-winner l = l.text ++ flat_map won_line (drop l.winner-index l.winners) ≡ l.initial.text ++ flat_map won_line l.winners
