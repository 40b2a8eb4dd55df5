use Rattle.schedule_text.proofs.FirstBadLaws.{law_first_bad_line}
use Rattle.schedule_text.proofs.laws.law_first_bad_line.Goals as goal

pub returns : goal.returns
returns c = law_first_bad_line
