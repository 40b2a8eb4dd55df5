use Rattle.line_laws.proofs.Skips.{shown_read}
use Rattle.line_laws.proofs.laws.law_shown.Goals as goal

pub returns : goal.returns
returns c = shown_read
