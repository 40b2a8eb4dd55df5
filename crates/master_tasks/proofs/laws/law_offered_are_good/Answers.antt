use Rattle.master_tasks.proofs.Limits.{good_offered}
use Rattle.master_tasks.proofs.laws.law_offered_are_good.Goals as goal

pub returns : goal.returns
returns c = good_offered
