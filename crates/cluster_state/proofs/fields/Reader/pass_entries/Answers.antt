use Rattle.std.proofs.Common.{sym}
use Rattle.std.specs.Option.{option_copied}
use Rattle.std.proofs.lemmas.Result.{err_from_is_err_and}
use Rattle.cluster_state.specs.Fields.{setting}
use Rattle.cluster_state.specs.Settings.{comes_after_keys}
use Rattle.cluster_state.proofs.Passing.{passed_more, passed_ends, passed_stops, comes_after_keys-end}
use Rattle.cluster_state.proofs.fields.Reader.pass_entries.Goals as goal

pub returns-in_err-key : goal.returns-in_err-key
returns-in_err-key c =
    let p = err_from_is_err_and c.from_residual.result c.from_residual.ensures.1 in
    rw (p.1, p.2) (passed_ends comes_after_keys setting.at (λ s. s.0) c.args.count c.loop.counter (option_copied c.loop.last) c.loop.self c.args.self.now c.in_err-key.field-0.0 c.loop.invariant c.loop-test.true c.in_err-key.ensures)

pub returns-then-not-is_after_key : goal.returns-then-not-is_after_key
returns-then-not-is_after_key c =
    passed_stops comes_after_keys setting.at (λ s. s.0) c.args.count c.loop.counter (option_copied c.loop.last) c.loop.self c.setting.new.self c.args.self.now _ c.loop.invariant c.loop-test.true c.in_ok-key.ensures (sym c.if-not-is_after_key.ensures)

pub loop-preserved : goal.loop-preserved
loop-preserved c =
    passed_more comes_after_keys setting.at (λ s. s.0) c.args.count c.loop.counter (option_copied c.loop.last) c.loop.self c.setting.new.self c.args.self.now (c.in_ok-key.key.now, c.in_ok-key.field-0-1.now) c.loop.invariant c.loop-test.true c.in_ok-key.ensures (sym c.if-not-is_after_key.ensures)
    (λ y prefix. comes_after_keys-end y (c.in_ok-key.key.now, c.in_ok-key.field-0-1.now) prefix)
