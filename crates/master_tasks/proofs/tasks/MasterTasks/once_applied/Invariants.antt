use Rattle.master_tasks.specs.Answering.{applied_in}
use Rattle.master_tasks.proofs.Applying.{Applies}
use Rattle.master_tasks.proofs.tasks.MasterTasks.once_applied.Given as goal

abbrev pub invariant-loop-w : goal.invariant-loop-w
invariant-loop-w l = Applies (applied_in l.committed l.accepted) l.self.waiting l.w-index l.waiting.items l.replies
