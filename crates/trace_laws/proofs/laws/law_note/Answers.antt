use Rattle.trace_laws.proofs.Reading.{note_read}
use Rattle.trace_laws.proofs.laws.law_note.Goals as goal

pub returns : goal.returns
returns c = note_read
