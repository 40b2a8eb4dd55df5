use Rattle.std.proofs.Common.{◌≡◌, ◌<◌, ◌≤◌, ◌∙◌, ap, false, refl, sym, length, get_or, List, [], ◌∷◌, ◌++◌, arith}
use Rattle.master_tasks.specs.declared.waiting.Waiting.{Waiting}
use Rattle.master_tasks.specs.Queue.{Tasks, most_open}
use Rattle.master_tasks.specs.Replying.{room_for}
use Rattle.master_tasks.proofs.Stepping.{AllProcessed, processes-start, processes-some, processes-none, processes-end}
use Rattle.master_tasks.proofs.tasks.MasterTasks.process.Goals as goal
use Rattle.master_tasks.proofs.tasks.MasterTasks.process.Goals.{in-Some, in-None+in_ok-processed-in-None+in_ok-push-in-None}

pub loop-w-init : goal.loop-w-init
loop-w-init c =
    processes-start c.args.second c.args.accepted.now c.args.value.now c.args.self.now.waiting c.new-waiting.result.items false c.in_ok-replies.replies c.new-waiting.ensures.items refl
    (c.in_ok-replies.ensures ∙ ap room_for (c.len.ensures ∙ sym c.deref-w-items.ensures.len ∙ ap length c.deref-w-items.ensures.value ∙ ap (λ (t : Tasks). length t.waiting) c.self.view_is))

pub push-requires : goal.push-requires
push-requires c =
    let room = c.loop-w.invariant.room in
    let count = c.loop-w.invariant.count in
    let all = ap length (c.deref-w-items.ensures.value ∙ ap (λ (t : Tasks). t.waiting) c.self.view_is) in
    omega (arith, room, count, all, c.loop-w-test.true)

pub loop-w-preserved : goal.loop-w-preserved
loop-w-preserved c =
    let all : c.deref-w-items.result.now ≡ c.args.self.now.waiting = c.deref-w-items.ensures.value ∙ ap (λ (t : Tasks). t.waiting) c.self.view_is in
    let same_length = ap length all in
    let less : c.loop-w.w-index < length c.args.self.now.waiting = omega (arith, same_length, c.loop-w-test.true) in
    let at : c.w-item.result ≡ get_or c.args.self.now.waiting c.loop-w.w-index c.w-item.result =
    c.w-item.is ∙ ap (λ (ws : List Waiting). get_or ws c.loop-w.w-index c.w-item.result) all in
    elim c.match-branch-3.branch [
      | in-Some w ↦
          rw (w.waiting-is, w.anew-is, w.replies-is, w.push.ensures, w.answer.ensures)
          (processes-some c.args.second c.args.accepted.now c.args.value.now c.args.self.now.waiting c.loop-w.w-index c.loop-w.value c.process_once.new.value c.loop-w.waiting.items c.loop-w.anew c.loop-w.replies c.w-item.result w.in-Some.answer
          c.loop-w.invariant less at c.in_ok-answer.ensures.value (sym w.in-Some.is ∙ c.in_ok-answer.ensures.answer))
      | in-None+in_ok-processed-in-None+in_ok-push-in-None w ↦
          rw (w.waiting-is, w.anew-is, w.replies-is)
          (processes-none c.args.second c.args.accepted.now c.args.value.now c.args.self.now.waiting c.loop-w.w-index c.loop-w.value c.process_once.new.value c.loop-w.waiting.items _ c.loop-w.anew _ c.loop-w.replies c.w-item.result
          c.loop-w.invariant less at c.in_ok-answer.ensures.value (sym w.in-None.is ∙ c.in_ok-answer.ensures.answer)
          (w.in_ok-push-in-None.ensures.items ∙ ap (λ (x : Waiting). c.loop-w.waiting.items ++ x ∷ []) w.in_ok-processed-in-None.ensures) refl)
    ]

ended : (c : goal.After-loop-w) → AllProcessed c.args.second c.args.accepted.now c.args.value.now c.args.self.now.waiting c.loop-w.value c.loop-w.waiting.items c.loop-w.anew c.loop-w.replies
ended c =
    let all = ap length (c.deref-w-items.ensures.value ∙ ap (λ (t : Tasks). t.waiting) c.self.view_is) in
    processes-end c.args.second c.args.accepted.now c.args.value.now c.args.self.now.waiting c.loop-w.w-index c.loop-w.value c.loop-w.waiting.items c.loop-w.anew c.loop-w.replies c.loop-w.invariant
    (omega (arith, all, c.loop-w-test.false)) (omega (arith, all, c.loop-w.auto.w-index-end))

pub returns-clause-value : goal.returns-clause-value
returns-clause-value c = (ended c).value_is

pub returns-clause-waiting : goal.returns-clause-waiting
returns-clause-waiting c = (ended c).waiting_is

pub returns-clause-anew : goal.returns-clause-anew
returns-clause-anew c = (ended c).anew_is

pub returns-clause-replies : goal.returns-clause-replies
returns-clause-replies c = (ended c).replies_are

pub returns-clause-fits : goal.returns-clause-fits
returns-clause-fits c = (ended c).fits

pub returns-clause-few : goal.returns-clause-few
returns-clause-few c =
    let before : length c.self.inside.waiting.items ≤ most_open = c.self.invariant in
    let same = ap (λ (t : Tasks). length t.waiting) c.self.view_is in
    omega (arith, before, same, (ended c).few)
