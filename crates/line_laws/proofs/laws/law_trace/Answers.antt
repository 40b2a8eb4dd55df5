use Rattle.line_laws.proofs.Traces.{trace_read}
use Rattle.line_laws.proofs.laws.law_trace.Goals as goal

pub returns : goal.returns
returns c = trace_read
