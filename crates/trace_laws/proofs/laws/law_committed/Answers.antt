use Rattle.trace_laws.proofs.Reading.{committed_read}
use Rattle.trace_laws.proofs.laws.law_committed.Goals as goal

pub returns : goal.returns
returns c = committed_read
