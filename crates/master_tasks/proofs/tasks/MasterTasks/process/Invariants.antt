use Rattle.master_tasks.proofs.Stepping.{Processes}
use Rattle.master_tasks.proofs.tasks.MasterTasks.process.Given as goal

abbrev pub invariant-loop-w : goal.invariant-loop-w
invariant-loop-w l = Processes l.second l.accepted l.initial.value l.self.waiting l.w-index l.value l.waiting.items l.anew l.replies
