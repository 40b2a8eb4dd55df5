use Rattle.line_laws.proofs.Acts.{act_read}
use Rattle.line_laws.proofs.laws.law_act.Goals as goal

pub returns : goal.returns
returns c = act_read
