-- For the contracts inside: each request that waits is answered once, or waits on.
use Rattle.std.specs.Prelude.{◌≡◌, ◌+◌, Option, List, length}
use Rattle.cluster_state.specs.declared.reply.Answer.{Answer}
use Rattle.master_tasks.specs.declared.waiting.Waiting.{Waiting}
use Rattle.master_tasks.specs.Queue.{Tasks}
use Rattle.master_tasks.specs.Answering.{answers_by, left_by}
use Rattle.master_tasks.specs.NextState.{Leader, next_answers, tasks_after}

-- the answers and who waits on are together as many as waited
abbrev pub AreCounted : (Waiting → Option Answer) → List Waiting → Type 0
AreCounted decide waiting = length (answers_by decide waiting) + length (left_by decide waiting) ≡ length waiting

-- the same of the next state
abbrev pub NextIsCounted : Leader → Tasks → Type 0
NextIsCounted l t = length (next_answers l t) + length (tasks_after l t).waiting ≡ length t.waiting
