use Rattle.line_laws.proofs.Acts.{record_read}
use Rattle.line_laws.proofs.laws.law_record.Goals as goal

pub returns : goal.returns
returns c = record_read
