-- One turn of the loop that processes requests.
use Rattle.std.proofs.Common.{◌≡◌, ℕ, ◌+◌, ◌-◌, ◌<◌, ◌≤◌, Bool, true, false, not, ◌||◌, List, [], ◌∷◌, ◌++◌, length, take, get_or, None, Some, refl, sym, ap, ◌∙◌, arith}
use Rattle.std.proofs.lemmas.List.{length-append, take_all}
use Rattle.std.proofs.lemmas.List.Sums.{fold_more}
use Rattle.cluster_state.specs.declared.state.ClusterState.{ClusterState}
use Rattle.cluster_state.specs.declared.state.ClusterValue.{ClusterValue}
use Rattle.cluster_state.specs.declared.reply.Answer.{Answer}
use Rattle.master_tasks.specs.declared.waiting.Waiting.{Waiting}
use Rattle.master_tasks.specs.Replying.{Replies, room_for, with_sent, answer_to}
use Rattle.master_tasks.specs.Processing.{Processing, AnsweredAtOnce, Makes, Processed, and_then, answer_after, before_all, processed_all, processing_once, value_after, with_next}

-- what is processed so far
pub record Processes (second : Bool) (accepted : ClusterState) (before : ClusterValue) (all : List Waiting) (place : ℕ) (value : ClusterValue) (waiting : List Waiting) (anew : Bool) (out : Replies) : Type 0 where
  pub so_far : processed_all second accepted before (take place all) ≡ record { value = value; waiting = waiting; anew = anew; answers = out.sent }
  pub count : length waiting + length out.sent ≡ place
  pub room : out.room + length out.sent ≡ length all

answered_step : (p : Processed) (w : Waiting) (step : Processing) (a : Answer) → answer_after step ≡ Some a → and_then p w step ≡ record { value = value_after p.value step; waiting = p.waiting; anew = p.anew; answers = p.answers ++ answer_to w a ∷ [] }
answered_step p w (AnsweredAtOnce b) a h = let e : b ≡ a = cc in rw e refl
answered_step p w (Makes made) a h = absurd cc

waiting_step : (p : Processed) (w : Waiting) (step : Processing) → answer_after step ≡ None → and_then p w step ≡ record { value = value_after p.value step; waiting = p.waiting ++ record w { processed = true } ∷ []; anew = p.anew || not w.processed; answers = p.answers }
waiting_step p w (AnsweredAtOnce b) h = absurd cc
waiting_step p w (Makes made) h = refl

-- one more request is looked at
next_step : (second : Bool) (accepted : ClusterState) (before : ClusterValue) (all : List Waiting) (place : ℕ) (p : Processed) (w : Waiting) → processed_all second accepted before (take place all) ≡ p → place < length all → w ≡ get_or all place w
    → processed_all second accepted before (take (place + 1) all) ≡ and_then p w (processing_once second accepted p.value w)
next_step second accepted before all place p w so_far less at =
    fold_more (with_next second accepted) (before_all before) all place w less ∙ rw (so_far, ← at) refl

-- the request is answered
pub processes-some : (second : Bool) (accepted : ClusterState) (before : ClusterValue) (all : List Waiting) (place : ℕ) (value made : ClusterValue) (waiting : List Waiting) (anew : Bool) (out : Replies) (w : Waiting) (a : Answer)
    → Processes second accepted before all place value waiting anew out → place < length all → w ≡ get_or all place w
    → made ≡ value_after value (processing_once second accepted value w) → Some a ≡ answer_after (processing_once second accepted value w)
    → Processes second accepted before all (place + 1) made waiting anew (with_sent out (answer_to w a ∷ []))
processes-some second accepted before all place value made waiting anew out w a p less at is answers =
    let longer : length (out.sent ++ answer_to w a ∷ []) ≡ length out.sent + 1 = simp length-append (omega arith) in
    record {
      so_far = next_step second accepted before all place (record { value = value; waiting = waiting; anew = anew; answers = out.sent }) w p.so_far less at
          ∙ answered_step (record { value = value; waiting = waiting; anew = anew; answers = out.sent }) w (processing_once second accepted value w) a (sym answers)
          ∙ rw is refl;
      count = omega (arith, p.count, longer);
      room = omega (arith, p.count, p.room, longer);
    }

-- the request waits
pub processes-none : (second : Bool) (accepted : ClusterState) (before : ClusterValue) (all : List Waiting) (place : ℕ) (value made : ClusterValue) (waiting more : List Waiting) (anew again : Bool) (out : Replies) (w : Waiting)
    → Processes second accepted before all place value waiting anew out → place < length all → w ≡ get_or all place w
    → made ≡ value_after value (processing_once second accepted value w) → None ≡ answer_after (processing_once second accepted value w)
    → more ≡ waiting ++ record w { processed = true } ∷ [] → again ≡ (anew || not w.processed)
    → Processes second accepted before all (place + 1) made more again out
processes-none second accepted before all place value made waiting more anew again out w p less at is answers pushed so =
    let longer : length more ≡ length waiting + 1 = rw pushed (simp length-append (omega arith)) in
    record {
      so_far = next_step second accepted before all place (record { value = value; waiting = waiting; anew = anew; answers = out.sent }) w p.so_far less at
          ∙ waiting_step (record { value = value; waiting = waiting; anew = anew; answers = out.sent }) w (processing_once second accepted value w) (sym answers)
          ∙ rw (is, pushed, so) refl;
      count = omega (arith, p.count, longer);
      room = p.room;
    }

-- no request is processed yet
pub processes-start : (second : Bool) (accepted : ClusterState) (before : ClusterValue) (all waiting : List Waiting) (anew : Bool) (out : Replies) → waiting ≡ [] → anew ≡ false → out ≡ room_for (length all) → Processes second accepted before all 0 before waiting anew out
processes-start second accepted before all waiting anew out none fresh room = rw (none, fresh, room) record { so_far = refl; count = omega arith; room = omega arith }

-- all requests were looked at
pub record AllProcessed (second : Bool) (accepted : ClusterState) (before : ClusterValue) (all : List Waiting) (value : ClusterValue) (waiting : List Waiting) (anew : Bool) (out : Replies) : Type 0 where
  pub value_is : value ≡ (processed_all second accepted before all).value
  pub waiting_is : waiting ≡ (processed_all second accepted before all).waiting
  pub anew_is : anew ≡ (processed_all second accepted before all).anew
  pub replies_are : out ≡ with_sent (room_for (length all)) (processed_all second accepted before all).answers
  pub fits : length waiting ≤ out.room
  pub few : length waiting ≤ length all

pub processes-end : (second : Bool) (accepted : ClusterState) (before : ClusterValue) (all : List Waiting) (place : ℕ) (value : ClusterValue) (waiting : List Waiting) (anew : Bool) (out : Replies) → Processes second accepted before all place value waiting anew out → length all ≤ place → place ≤ length all
    → AllProcessed second accepted before all value waiting anew out
processes-end second accepted before all place value waiting anew out p whole within =
    let done : processed_all second accepted before all ≡ record { value = value; waiting = waiting; anew = anew; answers = out.sent } =
    ap (processed_all second accepted before) (sym (take_all place all whole)) ∙ p.so_far in
    let answers : out.sent ≡ (processed_all second accepted before all).answers = sym (ap (λ (q : Processed). q.answers) done) in
    let room : out.room ≡ length all - length out.sent = omega (arith, p.room) in
    record {
      value_is = sym (ap (λ (q : Processed). q.value) done);
      waiting_is = sym (ap (λ (q : Processed). q.waiting) done);
      anew_is = sym (ap (λ (q : Processed). q.anew) done);
      replies_are = same_replies out (room_for (length all)) room ∙ ap (with_sent (room_for (length all))) answers;
      fits = omega (arith, p.room, p.count);
      few = omega (arith, p.count, within);
    }
  where
    same_replies : (out first : Replies) → out.room ≡ first.room - length out.sent → out ≡ record { sent = out.sent; room = first.room - length out.sent }
    same_replies out first room = rw (← room) refl
