use Rattle.std.proofs.Common.{arith}
use Rattle.cluster_state.specs.States.{state}
use Rattle.cluster_state.proofs.StateLaws.{state_law}
use Rattle.cluster_state.proofs.Whole.{whole_takes, is_fit}
use Rattle.cluster_state.proofs.view.spelled.Goals as goal

pub returns-clause-is : goal.returns-clause-is
returns-clause-is c = λ s e. whole_takes state state_law c.args.bytes.now s (λ i. omega (arith, c.type_inv.bytes i)) e

pub returns-clause-fits : goal.returns-clause-fits
returns-clause-fits c = λ s e. is_fit s (whole_takes state state_law c.args.bytes.now s (λ i. omega (arith, c.type_inv.bytes i)) e).0
