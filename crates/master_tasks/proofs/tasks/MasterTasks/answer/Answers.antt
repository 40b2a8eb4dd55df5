use Rattle.std.proofs.Common.{◌≤◌, length, arith}
use Rattle.master_tasks.specs.Queue.{most_open}
use Rattle.master_tasks.proofs.tasks.MasterTasks.answer.Goals as goal

pub invariant_of-self : goal.invariant_of-self
invariant_of-self c =
    let before : length c.self.inside.waiting.items ≤ most_open = c.self.invariant in
    omega (arith, before, c.answer_by.ensures.few)
