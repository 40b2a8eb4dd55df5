use Rattle.std.proofs.Common.{◌≡◌, ◌∙◌, length, ap, sym, arith, Some, List, ℕ}
use Rattle.gate_log.specs.Generations.{disorder as spec_disorder, in_order, checked}
use Rattle.gate_log.specs.Journal.{laid}
use Rattle.gate_log.specs.Opened.{lists}
use Rattle.gate_log.proofs.Laid.{gate_is, stands_for}
use Rattle.gate_log.proofs.open.scan_side.Goals as goal

pub returns-in-Some-clause-fault : goal.returns-in-Some-clause-fault
returns-in-Some-clause-fault c =
    let side = c.args.side in
    let laid_out = c.in-Ok.ensures.ok in
    let bodies = lists c.in-Ok.scanned.bodies.items in
    let same : lists c.deref.result.now ≡ bodies = ap lists c.deref.ensures.value in
    let size : length (laid (lists c.deref.result.now)) ≡ length (laid bodies) = ap (λ (l : List (List ℕ)). length (laid l)) same in
    let found : spec_disorder side bodies ≡ Some c.in-Some.at =
    sym (ap (spec_disorder side) same)
    ∙ sym (c.disorder.ensures (omega (arith, size, gate_is bodies c.args.bytes.now c.in-Ok.scanned.gate laid_out, laid_out.inside, c.requires.short)))
    ∙ c.in-Some.is in
    ap (in_order side) (stands_for bodies c.args.bytes.now c.in-Ok.scanned.gate laid_out) ∙ ap (λ p. checked p bodies) found
