use Rattle.std.proofs.Common.{sym}
use Rattle.std.proofs.lemmas.Result.{err_from_is_err_and}
use Rattle.cluster_state.specs.Fields.{id}
use Rattle.voting_config.specs.Ids.{comes_after}
use Rattle.cluster_state.proofs.Passing.{passed_more, passed_ends, passed_stops, comes_after-end}
use Rattle.cluster_state.proofs.fields.Reader.pass_elements.Goals as goal

pub returns-in_err-next : goal.returns-in_err-next
returns-in_err-next c =
    let p = err_from_is_err_and c.from_residual.result c.from_residual.ensures.1 in
    rw (p.1, p.2) (passed_ends comes_after id.at (λ x. x) c.args.count c.loop.counter c.loop.last c.loop.self c.args.self.now c.in_err-next.field-0.0 c.loop.invariant c.loop-test.true c.in_err-next.ensures)

pub returns-then-not-is_after_id : goal.returns-then-not-is_after_id
returns-then-not-is_after_id c =
    passed_stops comes_after id.at (λ x. x) c.args.count c.loop.counter c.loop.last c.loop.self c.id.new.self c.args.self.now c.in_ok-next.next c.loop.invariant c.loop-test.true c.in_ok-next.ensures (sym c.if-not-is_after_id.ensures)

pub loop-preserved : goal.loop-preserved
loop-preserved c =
    passed_more comes_after id.at (λ x. x) c.args.count c.loop.counter c.loop.last c.loop.self c.id.new.self c.args.self.now c.in_ok-next.next c.loop.invariant c.loop-test.true c.in_ok-next.ensures (sym c.if-not-is_after_id.ensures)
    (λ y prefix. comes_after-end y c.in_ok-next.next prefix)
