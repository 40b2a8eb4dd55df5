use Rattle.line_laws.proofs.Skips.{event_read}
use Rattle.line_laws.proofs.laws.law_event.Goals as goal

pub returns : goal.returns
returns c = event_read
