use Rattle.std.proofs.Common.{arith}
use Rattle.schedule_text.proofs.Verbs.{alone, followed, is_other}
use Rattle.schedule_text.proofs.lines.after_verb.Goals as goal

pub returns-then-line : goal.returns-then-line
returns-then-line g c = is_other c.args.line.now c.args.verb.now (λ begins. omega (arith, begins.long))

pub returns-then-line-i : goal.returns-then-line-i
returns-then-line-i g c = is_other c.args.line.now c.args.verb.now (λ begins. omega (arith, begins.same c.loop-i.i (omega arith)))

pub returns-then-line-2 : goal.returns-then-line-2
returns-then-line-2 g c = alone c.args.line.now c.args.verb.now c.requires (omega arith) (λ k within. c.loop-i.invariant k (omega arith))

pub returns-then-line-ne32 : goal.returns-then-line-ne32
returns-then-line-ne32 g c = is_other c.args.line.now c.args.verb.now (λ begins. omega (arith, begins.ends g.row.N (omega arith) (omega arith)))

pub returns : goal.returns
returns g c = followed c.args.line.now c.args.verb.now g.row.N (omega arith) c.requires (omega arith) (λ k within. c.loop-i.invariant k (omega arith)) (omega arith)
