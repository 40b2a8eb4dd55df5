use Rattle.trace_laws.proofs.Reading.{sent_read}
use Rattle.trace_laws.proofs.laws.law_sent.Goals as goal

pub returns : goal.returns
returns c = sent_read
