use Rattle.client_guarantees.proofs.Folding.{next_meets_each}
use Rattle.client_guarantees.proofs.law_next_meets_each.Goals as goal

pub returns : goal.returns
returns c = next_meets_each
