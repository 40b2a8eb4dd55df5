use Rattle.master_tasks.proofs.Sameness.{stays_accepted}
use Rattle.master_tasks.proofs.laws.law_nothing_new.Goals as goal

pub returns : goal.returns
returns c = stays_accepted
