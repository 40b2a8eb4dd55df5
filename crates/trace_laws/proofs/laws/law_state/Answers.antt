use Rattle.trace_laws.proofs.Reading.{state_read}
use Rattle.trace_laws.proofs.laws.law_state.Goals as goal

pub returns : goal.returns
returns c = state_read
