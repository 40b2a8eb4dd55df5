-- Each request that waits is answered once, or waits on.
use Rattle.std.proofs.Common.{◌≡◌, ◌∙◌, ℕ, suc, ◌+◌, Bool, true, false, Option, None, Some, List, [], ◌∷◌, ◌++◌, length, fold, refl, ap, arith}
use Rattle.std.specs.Prelude.{if◌then◌else◌}
use Rattle.std.proofs.lemmas.List.{append-nil, length-append}
use Rattle.cluster_state.specs.declared.state.ClusterState.{ClusterState}
use Rattle.cluster_state.specs.declared.reply.Answer.{Answer}
use Rattle.cluster_state.specs.States.{id_of}
use Rattle.master_tasks.specs.declared.waiting.Waiting.{Waiting}
use Rattle.master_tasks.specs.Queue.{Tasks}
use Rattle.master_tasks.specs.Replying.{answer_to}
use Rattle.master_tasks.specs.Answering.{answers_by, left_by, nothing_new}
use Rattle.master_tasks.specs.Processing.{Processing, AnsweredAtOnce, Makes, Processed, and_then, before_all, processing_once, with_next}
use Rattle.master_tasks.specs.NextState.{Leader, acks, unacked, value_before, processed_by, is_nothing_new, next_answers, tasks_after}
use Rattle.master_tasks.specs.Counts.{AreCounted, NextIsCounted}

counted-one : (decide : Waiting → Option Answer) (w : Waiting) (ws : List Waiting) (o : Option Answer) → decide w ≡ o → AreCounted decide ws → AreCounted decide (w ∷ ws)
counted-one decide w ws None e rest =
    let stays : left_by decide (w ∷ ws) ≡ w ∷ left_by decide ws = rw e refl in
    let silent : answers_by decide (w ∷ ws) ≡ answers_by decide ws = rw e refl in
    rw (stays, silent) (omega (arith, rest))
counted-one decide w ws (Some a) e rest =
    let goes : left_by decide (w ∷ ws) ≡ left_by decide ws = rw e refl in
    let replied : answers_by decide (w ∷ ws) ≡ answer_to w a ∷ answers_by decide ws = rw e refl in
    rw (goes, replied) (omega (arith, rest))

pub counted : (decide : Waiting → Option Answer) (ws : List Waiting) → AreCounted decide ws
counted decide [] = refl
counted decide (w ∷ ws) = counted-one decide w ws (decide w) refl (counted decide ws)

-- a request that is processed is answered or waits
counted_then : (p : Processed) (w : Waiting) (step : Processing) (n : ℕ) → length p.answers + length p.waiting ≡ n → length (and_then p w step).answers + length (and_then p w step).waiting ≡ suc n
counted_then p w (AnsweredAtOnce a) n h = let longer = length-append p.answers (answer_to w a ∷ []) in omega (arith, h, longer)
counted_then p w (Makes v) n h = let longer = length-append p.waiting (record w { processed = true } ∷ []) in omega (arith, h, longer)

counted_all : (second : Bool) (accepted : ClusterState) (p : Processed) (ws : List Waiting) (n : ℕ) → length p.answers + length p.waiting ≡ n
    → length (fold (with_next second accepted) p ws).answers + length (fold (with_next second accepted) p ws).waiting ≡ n + length ws
counted_all second accepted p [] n h = omega (arith, h)
counted_all second accepted p (w ∷ ws) n h =
    let rest = counted_all second accepted (with_next second accepted p w) ws (suc n) (counted_then p w (processing_once second accepted p.value w) n h) in
    omega (arith, rest)

counted_if : (l : Leader) (p : Processed) (b : Bool)
    → length (p.answers ++ (if b then acks l p.waiting else [])) + length (if b then unacked l p.waiting else p.waiting) ≡ length p.answers + length p.waiting
counted_if l p true =
    let longer = length-append p.answers (acks l p.waiting) in
    let each = counted (nothing_new l.committed (id_of l.accepted)) p.waiting in
    omega (arith, longer, each)
counted_if l p false = ap (λ n. n + length p.waiting) (ap length (append-nil p.answers))

pub counted_next : (l : Leader) (t : Tasks) → NextIsCounted l t
unfolding next_answers tasks_after processed_by
counted_next l t =
    let whole : 0 + length t.waiting ≡ length t.waiting = omega arith in
    counted_if l (processed_by l t) (is_nothing_new l t)
    ∙ counted_all l.policy.second l.accepted (before_all (value_before l.me t l.accepted.value)) t.waiting 0 refl
    ∙ whole
