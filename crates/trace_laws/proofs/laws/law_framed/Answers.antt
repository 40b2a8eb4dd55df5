use Rattle.trace_laws.proofs.Reading.{framed_read}
use Rattle.trace_laws.proofs.laws.law_framed.Goals as goal

pub returns : goal.returns
returns c = framed_read
