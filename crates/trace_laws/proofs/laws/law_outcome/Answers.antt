use Rattle.trace_laws.proofs.Reading.{outcome_read}
use Rattle.trace_laws.proofs.laws.law_outcome.Goals as goal

pub returns : goal.returns
returns c = outcome_read
