use Rattle.std.proofs.Common.{arith}
use Rattle.std.proofs.lemmas.Grind.{common_steps}
use Rattle.wire_frames.proofs.Sizes.{body_short}
use Rattle.wire_frames.proofs.writing.write_frame.Goals as goal

pub overflow_cast-len : goal.overflow_cast-len
overflow_cast-len c = omega (arith, c.len.ensures, body_short c.args.frame.now c.in_ok-body.body.items c.in_ok-body.ensures)

pub returns-clause-short : goal.returns-clause-short
returns-clause-short c = grind (arith, common_steps, body_short c.args.frame.now c.in_ok-body.body.items c.in_ok-body.ensures)
