use Rattle.client_guarantees.proofs.Coming.{processed_came}
use Rattle.client_guarantees.proofs.law_processed_came.Goals as goal

pub returns : goal.returns
returns c = processed_came
