use Rattle.trace_laws.proofs.Reading.{won_read}
use Rattle.trace_laws.proofs.laws.law_won.Goals as goal

pub returns : goal.returns
returns c = won_read
