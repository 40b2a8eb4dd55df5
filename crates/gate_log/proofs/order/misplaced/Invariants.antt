use Rattle.std.proofs.Common.{◌≡◌, ◌+◌, ◌<◌, ◌^◌, length, drop}
use Rattle.gate_log.specs.Generations.{misplaced_from}
use Rattle.gate_log.specs.Journal.{laid}
use Rattle.gate_log.specs.Opened.{lists}
use Rattle.gate_log.proofs.order.misplaced.Given as goal

abbrev pub invariant-loop-body : goal.invariant-loop-body
invariant-loop-body l = record {
  so_far : l.first + length (laid (lists l.bodies)) < 2 ^ 63
      → misplaced_from l.first (lists l.bodies) ≡ misplaced_from l.at (lists (drop l.body-index l.bodies));
  place : l.first + length (laid (lists l.bodies)) < 2 ^ 63
      → l.at + length (laid (lists (drop l.body-index l.bodies))) ≡ l.first + length (laid (lists l.bodies));
}
