use Rattle.std.proofs.Common.{arith}
use Rattle.state_journal.proofs.Reading.{fit_generation_of}
use Rattle.state_journal.proofs.body.read_generation.Goals as goal

pub returns-clause-fit : goal.returns-clause-fit
returns-clause-fit c = fit_generation_of c.args.old c.args.bytes.now c.whole_generation.result (λ i. omega (arith, c.type_inv.bytes i)) c.whole_generation.ensures
