use Rattle.agreement.proofs.Laws.{safe_before}
use Rattle.agreement.proofs.law_agree_before.Goals as goal

pub returns : goal.returns
returns c = safe_before
