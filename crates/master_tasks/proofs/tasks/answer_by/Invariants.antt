use Rattle.std.proofs.Common.{◌-◌, length}
use Rattle.master_tasks.specs.Deciding.{decided}
use Rattle.master_tasks.proofs.Settling.{Settles}
use Rattle.master_tasks.proofs.tasks.answer_by.Given as goal

abbrev pub invariant-loop-place : goal.invariant-loop-place
invariant-loop-place l =
    Settles (decided l.decision) l.initial.waiting.items l.waiting.items l.place l.initial.out l.out

abbrev pub decreases-loop-place : goal.decreases-loop-place
decreases-loop-place l = length l.waiting.items - l.place
