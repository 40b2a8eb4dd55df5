use Rattle.std.proofs.Common.{sym, arith}
use Rattle.std.proofs.lemmas.List.{take_all, length-take-le}
use Rattle.client_lines.proofs.lines.kept.Goals as goal

pub returns-then-line-le-MAX_KEPT : goal.returns-then-line-le-MAX_KEPT
returns-then-line-le-MAX_KEPT c = sym (take_all 8193 c.args.line.now c.if-line-le-MAX_KEPT.true)

pub slice_bounds-result-end : goal.slice_bounds-result-end
slice_bounds-result-end c = sym (length-take-le 8193 c.args.line.now (omega (arith, c.if-line-le-MAX_KEPT.false)))
