use Rattle.std.proofs.Common.{◌≡◌, drop}
use Rattle.gate_log.specs.Opened.{lists}
use Rattle.state_journal.specs.Bodies.{holds_old}
use Rattle.state_journal.proofs.journal.holds_old.Given as goal

abbrev pub invariant-loop-body : goal.invariant-loop-body
invariant-loop-body l = holds_old (lists l.bodies) ≡ holds_old (lists (drop l.body-index l.bodies))
