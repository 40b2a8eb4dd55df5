use Rattle.std.proofs.Common.{◌≡◌, ◌<◌, ◌∙◌, ap, sym, length, get_or, List, [], ◌∷◌, ◌++◌, Option, arith}
use Rattle.cluster_state.specs.declared.reply.Answer.{Answer}
use Rattle.master_tasks.specs.declared.waiting.Waiting.{Waiting}
use Rattle.master_tasks.specs.Queue.{Tasks}
use Rattle.master_tasks.specs.Answering.{applied_in}
use Rattle.master_tasks.proofs.Applying.{applies-some, applies-none}
use Rattle.master_tasks.proofs.tasks.MasterTasks.once_applied.Goals as goal
use Rattle.master_tasks.proofs.tasks.MasterTasks.once_applied.Goals.{in-Some, in-None+in_ok-copy-in-None+in_ok-push-in-None}

pub loop-w-preserved : goal.loop-w-preserved
loop-w-preserved c =
    let decide : Waiting → Option Answer = applied_in c.args.committed.now c.args.accepted.now in
    let all : c.deref-w-items.result.now ≡ c.args.self.now.waiting = c.deref-w-items.ensures.value ∙ ap (λ (t : Tasks). t.waiting) c.self.view_is in
    let same_length = ap length all in
    let less : c.loop-w.w-index < length c.args.self.now.waiting = omega (arith, same_length, c.loop-w-test.true) in
    let at : c.w-item.result ≡ get_or c.args.self.now.waiting c.loop-w.w-index c.w-item.result =
    c.w-item.is ∙ ap (λ (ws : List Waiting). get_or ws c.loop-w.w-index c.w-item.result) all in
    elim c.match-branch-3.branch [
      | in-Some w ↦
          rw (w.waiting-is, w.replies-is, w.push.ensures, w.answer.ensures)
          (applies-some decide c.args.self.now.waiting c.loop-w.w-index c.loop-w.waiting.items c.loop-w.replies c.w-item.result w.in-Some.answer
          c.loop-w.invariant less at (sym w.in-Some.is ∙ c.in_ok-answer.ensures))
      | in-None+in_ok-copy-in-None+in_ok-push-in-None w ↦
          rw (w.waiting-is, w.replies-is)
          (applies-none decide c.args.self.now.waiting c.loop-w.w-index c.loop-w.waiting.items _ c.loop-w.replies c.w-item.result
          c.loop-w.invariant less at (sym w.in-None.is ∙ c.in_ok-answer.ensures)
          (w.in_ok-push-in-None.ensures.items ∙ ap (λ (x : Waiting). c.loop-w.waiting.items ++ x ∷ []) w.in_ok-copy-in-None.ensures))
    ]
