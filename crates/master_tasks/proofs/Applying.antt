-- One turn of the loop that looks at who is answered once the leader has taken a commit.
use Rattle.std.proofs.Common.{◌≡◌, ℕ, ◌+◌, ◌<◌, ◌≤◌, List, [], ◌∷◌, ◌++◌, length, take, get_or, Option, None, Some, refl, sym, ap, ◌∙◌, arith}
use Rattle.std.proofs.lemmas.List.{append-nil, length-append, take_all, take_more}
use Rattle.std.proofs.lemmas.List.Elements.{filter-append, filter_map-append}
use Rattle.cluster_state.specs.declared.reply.Answer.{Answer}
use Rattle.master_tasks.specs.declared.waiting.Waiting.{Waiting}
use Rattle.master_tasks.specs.Replying.{Replies, answer_to, room_for, with_sent}
use Rattle.master_tasks.specs.Answering.{answers_by, left_by}

-- who of the requests before a place waits on, and what the others are answered
pub record Applies (decide : Waiting → Option Answer) (all : List Waiting) (place : ℕ) (waiting : List Waiting) (out : Replies) : Type 0 where
  pub left : waiting ≡ left_by decide (take place all)
  pub sent : out.sent ≡ answers_by decide (take place all)
  pub count : length waiting + length out.sent ≡ place
  pub room : out.room + length out.sent ≡ length all

-- no request is looked at yet
pub applies-start : (decide : Waiting → Option Answer) (all waiting : List Waiting) (out : Replies) → waiting ≡ [] → out ≡ room_for (length all) → Applies decide all 0 waiting out
applies-start decide all waiting out none room = rw (none, room) record { left = refl; sent = refl; count = omega arith; room = omega arith }

-- one more is looked at
abbrev left_more : (decide : Waiting → Option Answer) (all : List Waiting) (place : ℕ) (w : Waiting) → place < length all → w ≡ get_or all place w → left_by decide (take (place + 1) all) ≡ left_by decide (take place all) ++ left_by decide (w ∷ [])
left_more decide all place w less at =
    ap (left_by decide) (take_more all place w less ∙ ap (λ (x : Waiting). take place all ++ x ∷ []) (sym at))
    ∙ filter-append _ (take place all) (w ∷ [])

abbrev answers_more : (decide : Waiting → Option Answer) (all : List Waiting) (place : ℕ) (w : Waiting) → place < length all → w ≡ get_or all place w → answers_by decide (take (place + 1) all) ≡ answers_by decide (take place all) ++ answers_by decide (w ∷ [])
answers_more decide all place w less at =
    ap (answers_by decide) (take_more all place w less ∙ ap (λ (x : Waiting). take place all ++ x ∷ []) (sym at))
    ∙ filter_map-append _ (take place all) (w ∷ [])

-- the request is answered
pub applies-some : (decide : Waiting → Option Answer) (all : List Waiting) (place : ℕ) (waiting : List Waiting) (out : Replies) (w : Waiting) (a : Answer)
    → Applies decide all place waiting out → place < length all → w ≡ get_or all place w → Some a ≡ decide w
    → Applies decide all (place + 1) waiting (with_sent out (answer_to w a ∷ []))
applies-some decide all place waiting out w a p less at is =
    let longer : length (out.sent ++ answer_to w a ∷ []) ≡ length out.sent + 1 = simp length-append (omega arith) in
    let goes : left_by decide (w ∷ []) ≡ [] = rw (← is) refl in
    let replied : answers_by decide (w ∷ []) ≡ answer_to w a ∷ [] = rw (← is) refl in
    record {
      left = p.left ∙ sym (left_more decide all place w less at ∙ ap (λ (ws : List Waiting). left_by decide (take place all) ++ ws) goes ∙ append-nil (left_by decide (take place all)));
      sent = rw p.sent (sym (answers_more decide all place w less at ∙ rw replied refl));
      count = omega (arith, p.count, longer);
      room = omega (arith, p.count, p.room, longer);
    }

-- the request waits on
pub applies-none : (decide : Waiting → Option Answer) (all : List Waiting) (place : ℕ) (waiting more : List Waiting) (out : Replies) (w : Waiting)
    → Applies decide all place waiting out → place < length all → w ≡ get_or all place w → None ≡ decide w → more ≡ waiting ++ w ∷ []
    → Applies decide all (place + 1) more out
applies-none decide all place waiting more out w p less at is pushed =
    let longer : length more ≡ length waiting + 1 = rw pushed (simp length-append (omega arith)) in
    let stays : left_by decide (w ∷ []) ≡ w ∷ [] = rw (← is) refl in
    let silent : answers_by decide (w ∷ []) ≡ [] = rw (← is) refl in
    record {
      left = rw (pushed, p.left) (sym (left_more decide all place w less at ∙ rw stays refl));
      sent = p.sent ∙ sym (answers_more decide all place w less at ∙ rw silent (append-nil (answers_by decide (take place all))));
      count = omega (arith, p.count, longer);
      room = p.room;
    }

-- all were looked at
pub record AllApplied (decide : Waiting → Option Answer) (all waiting : List Waiting) (out : Replies) : Type 0 where
  pub left : waiting ≡ left_by decide all
  pub sent : out.sent ≡ answers_by decide all
  pub few : length waiting ≤ length all

pub applies-end : (decide : Waiting → Option Answer) (all : List Waiting) (place : ℕ) (waiting : List Waiting) (out : Replies) → Applies decide all place waiting out → length all ≤ place → place ≤ length all → AllApplied decide all waiting out
applies-end decide all place waiting out p whole within =
    record {
      left = p.left ∙ ap (left_by decide) (take_all place all whole);
      sent = p.sent ∙ ap (answers_by decide) (take_all place all whole);
      few = omega (arith, p.count, within);
    }
