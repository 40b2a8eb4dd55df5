use Rattle.std.proofs.Common.{◌≡◌, ◌++◌}
use Rattle.trace_audit.specs.Contents.{number_bytes}
use Rattle.trace_audit.proofs.contents.write_number.Given as goal

abbrev pub invariant-loop-left : goal.invariant-loop-left
invariant-loop-left l = l.out.items ++ number_bytes l.left ≡ l.fn.out.items ++ number_bytes l.number

abbrev pub decreases-loop-left : goal.decreases-loop-left
decreases-loop-left l = l.left
