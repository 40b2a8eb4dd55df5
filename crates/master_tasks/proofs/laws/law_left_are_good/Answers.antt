use Rattle.master_tasks.proofs.Limits.{good_left}
use Rattle.master_tasks.proofs.laws.law_left_are_good.Goals as goal

pub returns : goal.returns
returns c = good_left
