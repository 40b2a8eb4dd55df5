use Rattle.master_tasks.proofs.Counting.{counted}
use Rattle.master_tasks.proofs.laws.law_answered_or_left.Goals as goal

pub returns : goal.returns
returns c = counted
