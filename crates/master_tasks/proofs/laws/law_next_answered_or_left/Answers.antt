use Rattle.master_tasks.proofs.Counting.{counted_next}
use Rattle.master_tasks.proofs.laws.law_next_answered_or_left.Goals as goal

pub returns : goal.returns
returns c = counted_next
