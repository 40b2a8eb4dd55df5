-- What answers make of a queue.
use Rattle.std.proofs.Common.{◌≡◌, ℕ, ◌+◌, Bool, true, false, not, ◌&&◌, Option, None, Some, Result, Ok, Err, List, [], ◌∷◌, ◌++◌, length, refl, sym, ap, ◌∙◌, cond, subst, append_assoc, append-nil, arith}
use Rattle.std.specs.Prelude.{filter, is_none, fold, nat_le}
use Rattle.std.specs.List.{list_all, cons_option}
use Rattle.std.specs.Option.{option_map}
use Rattle.std.proofs.lemmas.Bool.{and_parts, and_from}
use Rattle.voting_config.specs.Ids.{Id, among, some_among}
use Rattle.cluster_state.specs.declared.state.ClusterState.{ClusterState}
use Rattle.cluster_state.specs.declared.state.ClusterValue.{ClusterValue}
use Rattle.cluster_state.specs.declared.state.StateId.{StateId}
use Rattle.cluster_state.specs.States.{id_of}
use Rattle.cluster_state.specs.Fields.{most_settings}
use Rattle.exclusions.specs.declared.AddError.{AddError}
use Rattle.exclusions.specs.declared.AddError.TheVariants.{TooMany}
use Rattle.exclusions.specs.declared.StillMember.{StillMember}
use Rattle.exclusions.specs.Exclusions.{added_of, cleared_of}
use Rattle.cluster_state.specs.declared.request.Ask.{Ask}
use Rattle.cluster_state.specs.declared.request.Ask.TheVariants as ask
use Rattle.cluster_state.specs.declared.reply.Answer.{Answer}
use Rattle.cluster_state.specs.declared.reply.Answer.TheVariants as answer
use Rattle.master_tasks.specs.declared.waiting.Waiting.{Waiting}
use Rattle.master_tasks.specs.declared.waiting.Outgoing.{Outgoing}
use Rattle.master_tasks.specs.Queue.{Tasks}
use Rattle.master_tasks.specs.Replying.{answer_to}
use Rattle.master_tasks.specs.Answering.{failed, answers_by, left_by, committed_in, applied_in, timed_out, nothing_new, excluded_by, answer_applied, waits_applied, unless_voting, if_late, exclusion_span}
use Rattle.master_tasks.specs.Processing.{AnsweredAtOnce, Makes, Processed, processing, processing_once, excluding, clearing, refused, and_then, with_next, before_all}
use Rattle.master_tasks.specs.NextState.{Leader, processed_by, next_answers, tasks_after, is_nothing_new, acks, unacked, value_before}
use Rattle.policy_model.specs.Queues.{is_for_line, answers_line, is_from, is_to, how_many, AreAmong, NoneWaits, Waits, IsGone, IsQueue}

pub how_many-append : {X : Type 0} (p : X → Bool) (xs ys : List X) → how_many p (xs ++ ys) ≡ how_many p xs + how_many p ys
how_many-append p [] ys = omega arith
how_many-append p (x ∷ xs) ys =
    let rest = how_many-append p xs ys in
    elim (p x) as (λ b. length (cond b (x ∷ filter p (xs ++ ys)) (filter p (xs ++ ys))) ≡ length (cond b (x ∷ filter p xs) (filter p xs)) + how_many p ys) [
      | true ↦ omega (arith, rest)
      | false ↦ rest
    ]

-- those that wait after some answers, of those that waited
pub record IsStep (ws left : List Waiting) (answers : List Outgoing) : Type 0 where
  pub queue : IsQueue ws left answers
  pub late : list_all (λ (o : Outgoing). not (answers_line o.reply)) answers ≡ true

pub among-all : (ws : List Waiting) → AreAmong ws ws
among-all [] = NoneWaits
among-all (w ∷ ws) = Waits w w.processed ws ws (among-all ws)

among-trans : (xs ys zs : List Waiting) → AreAmong xs ys → AreAmong ys zs → AreAmong xs zs
among-trans xs ys zs d NoneWaits = d
among-trans xs ys zs (Waits v p vs us c) (Waits w q ws qs d) = Waits w p vs qs (among-trans vs ws qs c d)
among-trans xs ys zs (IsGone v vs us c) (Waits w q ws qs d) = IsGone w vs qs (among-trans vs ws qs c d)
among-trans xs ys zs d (IsGone w ws qs e) = IsGone w xs qs (among-trans xs ws qs d e)

among-one : (w : Waiting) (xs ys : List Waiting) → AreAmong xs ys → AreAmong (xs ++ w ∷ []) (ys ++ w ∷ [])
among-one w xs ys NoneWaits = Waits w w.processed [] [] NoneWaits
among-one w xs ys (Waits v p vs us d) = Waits v p (vs ++ w ∷ []) (us ++ w ∷ []) (among-one w vs us d)
among-one w xs ys (IsGone v vs us d) = IsGone v (vs ++ w ∷ []) (us ++ w ∷ []) (among-one w vs us d)

-- one more is queued
pub queue-one : (w : Waiting) (qs ws : List Waiting) (rs : List Outgoing) → IsQueue qs ws rs → IsQueue (qs ++ w ∷ []) (ws ++ w ∷ []) rs
queue-one w qs ws rs q = record {
  in_order = among-one w ws qs q.in_order;
  each = λ conn id.
      let more = q.each conn id in
      omega (arith, more, how_many-append (is_from conn id) qs (w ∷ []), how_many-append (is_from conn id) ws (w ∷ []));
}

-- some are answered
pub queue-step : (qs ws left : List Waiting) (rs answers : List Outgoing) → IsQueue qs ws rs → IsStep ws left answers → IsQueue qs left (rs ++ answers)
queue-step qs ws left rs answers q t = record {
  in_order = among-trans left ws qs t.queue.in_order q.in_order;
  each = λ conn id.
      let before = q.each conn id in
      let now = t.queue.each conn id in
      omega (arith, before, now, how_many-append (is_to conn id) rs answers);
}

all-append : {X : Type 0} (p : X → Bool) (xs ys : List X) → list_all p xs ≡ true → list_all p ys ≡ true → list_all p (xs ++ ys) ≡ true
all-append p [] ys h k = k
all-append p (x ∷ xs) ys h k = let parts = and_parts (p x) (list_all p xs) h in and_from _ _ parts.0 (all-append p xs ys parts.1 k)

step-trans : (ws us vs : List Waiting) (xs ys : List Outgoing) → IsStep ws us xs → IsStep us vs ys → IsStep ws vs (xs ++ ys)
step-trans ws us vs xs ys h k = record {
  queue = queue-step ws us vs xs ys h.queue k;
  late = all-append (λ (o : Outgoing). not (answers_line o.reply)) xs ys h.late k.late;
}

pub step-none : (ws : List Waiting) → IsStep ws ws []
step-none ws = record { queue = record { in_order = among-all ws; each = λ conn id. omega arith }; late = refl }

-- one is answered, or stays
step-answered : (w : Waiting) (a : Answer) (ws left : List Waiting) (answers : List Outgoing) → is_for_line a ≡ false → IsStep ws left answers → IsStep (w ∷ ws) left (answer_to w a ∷ answers)
step-answered w a ws left answers e h = record {
  queue = record {
    in_order = IsGone w left ws h.queue.in_order;
    each = λ conn id.
        let rest = h.queue.each conn id in
        elim (is_from conn id w) as (λ b. length (cond b (w ∷ filter (is_from conn id) ws) (filter (is_from conn id) ws)) ≡ how_many (is_from conn id) left + length (cond b (answer_to w a ∷ filter (is_to conn id) answers) (filter (is_to conn id) answers))) [
          | true ↦ omega (arith, rest)
          | false ↦ rest
        ];
  };
  late = and_from _ _ (ap not e) h.late;
}

step-kept : (w : Waiting) (processed : Bool) (ws left : List Waiting) (answers : List Outgoing) → IsStep ws left answers → IsStep (w ∷ ws) (record w { processed = processed } ∷ left) answers
step-kept w processed ws left answers h = record {
  queue = record {
    in_order = Waits w processed left ws h.queue.in_order;
    each = λ conn id.
        let rest = h.queue.each conn id in
        elim (is_from conn id w) as (λ b. length (cond b (w ∷ filter (is_from conn id) ws) (filter (is_from conn id) ws)) ≡ length (cond b (record w { processed = processed } ∷ filter (is_from conn id) left) (filter (is_from conn id) left)) + how_many (is_to conn id) answers) [
          | true ↦ omega (arith, rest)
          | false ↦ rest
        ];
  };
  late = h.late;
}

-- answers by a look at each
abbrev IsLate : (Waiting → Option Answer) → Type 0
IsLate decide = (w : Waiting) (a : Answer) → decide w ≡ Some a → is_for_line a ≡ false

decided-step : (decide : Waiting → Option Answer) → IsLate decide → (ws : List Waiting) → IsStep ws (left_by decide ws) (answers_by decide ws)
decided-step decide late [] = step-none []
decided-step decide late (w ∷ ws) =
    let others : IsStep ws (left_by decide ws) (answers_by decide ws) = decided-step decide late ws in
    elim (decide w) as (λ o. decide w ≡ o → IsStep (w ∷ ws) (cond (is_none o) (w ∷ left_by decide ws) (left_by decide ws)) (cons_option (option_map (answer_to w) o) (answers_by decide ws))) [
      | None ↦ λ e. step-kept w w.processed ws (left_by decide ws) (answers_by decide ws) others
      | Some a ↦ λ e. step-answered w a ws (left_by decide ws) (answers_by decide ws) (late w a e) others
    ] refl

-- the answer that there is, if any
answer-if : (b : Bool) (x a : Answer) → is_for_line x ≡ false → cond b (Some x) None ≡ Some a → is_for_line a ≡ false
answer-if true x a e h = let k : x ≡ a = cc in subst (λ (y : Answer). is_for_line y ≡ false) k e
answer-if false x a e h = absurd (cc)

answer-unless : (b : Bool) (x a : Answer) → is_for_line x ≡ false → cond b None (Some x) ≡ Some a → is_for_line a ≡ false
answer-unless true x a e h = absurd (cc)
answer-unless false x a e h = answer-if true x a e h

late-applied : (committed : List Id) (accepted : ClusterState) (q : Ask) (a : Answer) → answer_applied committed accepted q ≡ Some a → is_for_line a ≡ false
late-applied committed accepted (ask.Put key text) a h = absurd (cc)
late-applied committed accepted (ask.Remove key) a h = absurd (cc)
late-applied committed accepted (ask.Exclude ids) a h = answer-unless (some_among ids committed) (answer.Acked (id_of accepted)) a refl h
late-applied committed accepted (ask.Clear wait) a h = absurd (cc)
late-applied committed accepted ask.State a h = answer-if true (answer.State accepted) a refl h

late-unless : (committed : List Id) (id : StateId) (processed : Bool) (q : Ask) (a : Answer) → unless_voting committed id processed q ≡ Some a → is_for_line a ≡ false
late-unless committed id processed (ask.Put key text) a h = answer-if true (answer.Acked id) a refl h
late-unless committed id processed (ask.Remove key) a h = answer-if true (answer.Acked id) a refl h
late-unless committed id processed (ask.Exclude ids) a h = answer-if (processed && not (some_among ids committed)) (answer.Acked id) a refl h
late-unless committed id processed (ask.Clear wait) a h = answer-if true (answer.Acked id) a refl h
late-unless committed id processed ask.State a h = absurd (cc)

late-if : (committed : List Id) (late : Bool) (o : Option (List Id)) (a : Answer) → if_late committed late o ≡ Some a → is_for_line a ≡ false
late-if committed late None a h = absurd (cc)
late-if committed late (Some ids) a h = answer-if late (answer.ExclusionTimeout (among ids committed)) a refl h

late-committed : (id : StateId) → IsLate (committed_in id)
late-committed id w a h = answer-if (w.processed && not (waits_applied w.request.ask)) (answer.Acked id) a refl h

late-done : (committed : List Id) (accepted : ClusterState) → IsLate (applied_in committed accepted)
late-done committed accepted w a h =
    elim w.processed as (λ b. cond b (answer_applied committed accepted w.request.ask) None ≡ Some a → is_for_line a ≡ false) [
      | true ↦ λ k. late-applied committed accepted w.request.ask a k
      | false ↦ λ k. absurd (cc)
    ] h

late-timed_out : (committed : List Id) (now : ℕ) → IsLate (timed_out committed now)
late-timed_out committed now w a h = late-if committed (nat_le (w.arrived + exclusion_span) now) (excluded_by w.request.ask) a h

late-nothing_new : (committed : List Id) (id : StateId) → IsLate (nothing_new committed id)
late-nothing_new committed id w a h = late-unless committed id w.processed w.request.ask a h

left-none : (term : ℕ) (ws : List Waiting) → left_by (failed term) ws ≡ []
left-none term [] = refl
left-none term (w ∷ ws) = left-none term ws

late-failed : (term : ℕ) → IsLate (failed term)
late-failed term w a h = answer-if true (answer.FailedToCommit term) a refl h

pub failed-step : (term : ℕ) (ws : List Waiting) → IsStep ws [] (answers_by (failed term) ws)
failed-step term ws = subst (λ (left : List Waiting). IsStep ws left (answers_by (failed term) ws)) (left-none term ws) (decided-step (failed term) (late-failed term) ws)

pub committed-step : (id : StateId) (ws : List Waiting) → IsStep ws (left_by (committed_in id) ws) (answers_by (committed_in id) ws)
committed-step id ws = decided-step (committed_in id) (late-committed id) ws

pub done-step : (committed : List Id) (accepted : ClusterState) (ws : List Waiting) → IsStep ws (left_by (applied_in committed accepted) ws) (answers_by (applied_in committed accepted) ws)
done-step committed accepted ws = decided-step (applied_in committed accepted) (late-done committed accepted) ws

pub timed_out-step : (committed : List Id) (now : ℕ) (ws : List Waiting) → IsStep ws (left_by (timed_out committed now) ws) (answers_by (timed_out committed now) ws)
timed_out-step committed now ws = decided-step (timed_out committed now) (late-timed_out committed now) ws

-- the next state
at-once : (x a : Answer) → is_for_line x ≡ false → AnsweredAtOnce x ≡ AnsweredAtOnce a → is_for_line a ≡ false
at-once x a e h = let k : x ≡ a = cc in subst (λ (y : Answer). is_for_line y ≡ false) k e

at-once-if : (b : Bool) (x a : Answer) (value : ClusterValue) → is_for_line x ≡ false → cond b (AnsweredAtOnce x) (Makes value) ≡ AnsweredAtOnce a → is_for_line a ≡ false
at-once-if true x a value e h = at-once x a e h
at-once-if false x a value e h = absurd (cc)

made-if : (b : Bool) (x a : Answer) (value : ClusterValue) → is_for_line x ≡ false → cond b (Makes value) (AnsweredAtOnce x) ≡ AnsweredAtOnce a → is_for_line a ≡ false
made-if true x a value e h = absurd (cc)
made-if false x a value e h = at-once x a e h

late-refused : (error : AddError) → is_for_line (refused error) ≡ false
late-refused (TooMany count) = refl

late-excluding : (value : ClusterValue) (r : Result (List Id) AddError) (a : Answer) → excluding value r ≡ AnsweredAtOnce a → is_for_line a ≡ false
late-excluding value (Ok ids) a h = absurd (cc)
late-excluding value (Err error) a h = at-once (refused error) a (late-refused error) h

late-clearing : (value : ClusterValue) (r : Result (Unit {0}) StillMember) (a : Answer) → clearing value r ≡ AnsweredAtOnce a → is_for_line a ≡ false
late-clearing value (Ok u) a h = absurd (cc)
late-clearing value (Err still) a h = at-once (answer.StillMember still.0) a refl h

late-asked : (second : Bool) (accepted : ClusterState) (value : ClusterValue) (q : Ask) (a : Answer) → processing second accepted value q ≡ AnsweredAtOnce a → is_for_line a ≡ false
late-asked second accepted value (ask.Put key text) a h = at-once-if _ (answer.TooManySettings (most_settings + 1)) a _ refl h
late-asked second accepted value (ask.Remove key) a h = absurd (cc)
late-asked second accepted value (ask.Exclude ids) a h = late-excluding value (added_of value.exclusions ids) a h
late-asked second accepted value (ask.Clear wait) a h = late-clearing value (cleared_of value.exclusions value.members wait) a h
late-asked second accepted value ask.State a h = made-if second (answer.State accepted) a value refl h

late-processing : (second : Bool) (accepted : ClusterState) (value : ClusterValue) (w : Waiting) (a : Answer) → processing_once second accepted value w ≡ AnsweredAtOnce a → is_for_line a ≡ false
late-processing second accepted value w a h =
    elim w.processed as (λ b. cond b (Makes value) (processing second accepted value w.request.ask) ≡ AnsweredAtOnce a → is_for_line a ≡ false) [
      | true ↦ λ k. absurd (cc)
      | false ↦ λ k. late-asked second accepted value w.request.ask a k
    ] h

record IsProcessed (p q : Processed) (ws : List Waiting) : Type 0 where
  left : List Waiting
  more : List Outgoing
  waiting : q.waiting ≡ p.waiting ++ left
  answers : q.answers ≡ p.answers ++ more
  step : IsStep ws left more

processed-step : (second : Bool) (accepted : ClusterState) (p : Processed) (ws : List Waiting) → IsProcessed p (fold (with_next second accepted) p ws) ws
processed-step second accepted p [] = record { left = []; more = []; waiting = sym (append-nil p.waiting); answers = sym (append-nil p.answers); step = step-none [] }
processed-step second accepted p (w ∷ ws) =
    elim (processing_once second accepted p.value w) as (λ x. processing_once second accepted p.value w ≡ x → IsProcessed p (fold (with_next second accepted) (and_then p w x) ws) (w ∷ ws)) [
      | AnsweredAtOnce a ↦ λ e.
          let r : IsProcessed (and_then p w (AnsweredAtOnce a)) (fold (with_next second accepted) (and_then p w (AnsweredAtOnce a)) ws) ws = processed-step second accepted (and_then p w (AnsweredAtOnce a)) ws in
          record {
            left = r.left;
            more = answer_to w a ∷ r.more;
            waiting = r.waiting;
            answers = r.answers ∙ append_assoc p.answers (answer_to w a ∷ []) r.more;
            step = step-answered w a ws r.left r.more (late-processing second accepted p.value w a e) r.step;
          }
      | Makes made ↦ λ e.
          let r : IsProcessed (and_then p w (Makes made)) (fold (with_next second accepted) (and_then p w (Makes made)) ws) ws = processed-step second accepted (and_then p w (Makes made)) ws in
          record {
            left = record w { processed = true } ∷ r.left;
            more = r.more;
            waiting = r.waiting ∙ append_assoc p.waiting (record w { processed = true } ∷ []) r.left;
            answers = r.answers;
            step = step-kept w true ws r.left r.more r.step;
          }
    ] refl

pub next-step : (l : Leader) (t : Tasks) → IsStep t.waiting (tasks_after l t).waiting (next_answers l t)
unfolding next_answers tasks_after processed_by
next-step l t =
    let r : IsProcessed (before_all (value_before l.me t l.accepted.value)) (processed_by l t) t.waiting =
    processed-step l.policy.second l.accepted (before_all (value_before l.me t l.accepted.value)) t.waiting in
    let p : Processed = processed_by l t in
    let first : IsStep t.waiting p.waiting p.answers =
    subst (λ (x : List Waiting). IsStep t.waiting x p.answers) (sym r.waiting) (subst (λ (y : List Outgoing). IsStep t.waiting r.left y) (sym r.answers) r.step) in
    step-trans t.waiting p.waiting _ p.answers _ first
    (elim (is_nothing_new l t) as (λ b. IsStep p.waiting (cond b (unacked l p.waiting) p.waiting) (cond b (acks l p.waiting) [])) [
      | true ↦ decided-step (nothing_new l.committed (id_of l.accepted)) (late-nothing_new l.committed (id_of l.accepted)) p.waiting
      | false ↦ step-none p.waiting
    ])
