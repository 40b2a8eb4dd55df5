use Rattle.std.proofs.Common.{ap, ◌∙◌}
use Rattle.master_tasks.specs.Queue.{only}
use Rattle.master_tasks.specs.NextState.{tasks_after}
use Rattle.master_tasks.proofs.tasks.MasterTasks.next_state.Goals as goal

pub returns-clause-tasks : goal.returns-clause-tasks
unfolding tasks_after
returns-clause-tasks c = c.leave_only.ensures ∙ ap only c.in_ok-next.ensures.waiting
