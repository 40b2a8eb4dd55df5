use Rattle.trace_laws.proofs.Reading.{delivery_read}
use Rattle.trace_laws.proofs.laws.law_delivery.Goals as goal

pub returns : goal.returns
returns c = delivery_read
