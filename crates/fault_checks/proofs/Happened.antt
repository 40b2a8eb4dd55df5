-- The counter of failures is what the last outcomes are.
use Rattle.std.proofs.Common.{◌≡◌, ℕ, zero, suc, ◌+◌, min, Bool, true, false, cond, not, ◌||◌, ◌&&◌, Option, None, Some, List, [], ◌∷◌, map, length, take, refl, sym, ap, ◌∙◌, subst, arith}
use Rattle.std.specs.Prelude.{filter, is_none, nat_le}
use Rattle.std.specs.List.{list_all}
use Rattle.std.specs.Cmp.Lexicographic.{same_text}
use Rattle.std.proofs.lemmas.Bool.{and_right}
use Rattle.voting_config.specs.Ids.{Id, has, same}
use Rattle.fault_checks.specs.declared.checking.Check.{Check}
use Rattle.fault_checks.specs.declared.followers.Follower.{Follower}
use Rattle.fault_checks.specs.declared.leader.LeaderTick.TheVariants.{Quiet, Ask, Lost}
use Rattle.fault_checks.specs.Spans.{check_interval, check_retry_count}
use Rattle.fault_checks.specs.Checks.{unchecked, failed_at, answered_at, is_overdue, timed_out_at, has_failed, is_due, fails, asks}
use Rattle.fault_checks.specs.Happenings.{Happening, Began, Sent, SaidYes, SaidNo, TimedOut, is_failure, outcomes_in, last_three_failed, outstanding, is_next_due, sends, with_tick, with_answer}
use Rattle.fault_checks.specs.Followers.{Calls, Started, Then, Watched, Finished, Answered, Ticked, Disconnected, members_of, check_of, behind_of, follower_of, followers_of, is_late, drops_for_checks, is_asked, ids_of, to_ask, to_drop_for_checks}
use Rattle.fault_checks.specs.Leaders.{LeaderCalls, LeaderStarted, LeaderThen, LeaderAnswered, LeaderTicked, check_of as leader_checks, leader_check_of, leader_tick}
use Rattle.fault_checks.specs.Laws.{happened_to, happened_to_leader}

-- how many failures stand in a row, the newest first
abbrev row : List Happening → ℕ
row [] = zero
row (h ∷ hs) = cond (is_failure h) (suc (row hs)) zero

three_or_more : (n : ℕ) → nat_le 3 (suc (suc (suc n))) ≡ true
three_or_more n = grind arith

at_most_three : (n : ℕ) → nat_le 3 (min (suc (suc (suc n))) 3) ≡ true
at_most_three n = grind arith

first_three : (x y z : Bool) (r : ℕ) → nat_le 3 (min (cond x (suc (cond y (suc (cond z (suc r) 0)) 0)) 0) 3) ≡ (x && (y && (z && true)))
first_three true true true r = at_most_three r
first_three true true false r = refl
first_three true false z r = refl
first_three false y z r = refl

-- three are in a row exactly where the last three are failures
row-three : (hs : List Happening) → nat_le 3 (min (row hs) 3) ≡ (nat_le 3 (length hs) && list_all is_failure (take 3 hs))
row-three [] = refl
row-three (a ∷ []) = elim (is_failure a) as (λ x. nat_le 3 (min (cond x 1 0) 3) ≡ false) [ true ↦ refl | false ↦ refl ]
row-three (a ∷ b ∷ []) =
    elim (is_failure a) as (λ x. nat_le 3 (min (cond x (suc (cond (is_failure b) 1 0)) 0) 3) ≡ false) [
      | true ↦ elim (is_failure b) as (λ y. nat_le 3 (min (suc (cond y 1 0)) 3) ≡ false) [ true ↦ refl | false ↦ refl ]
      | false ↦ refl
    ]
row-three (a ∷ b ∷ c ∷ rest) =
    first_three (is_failure a) (is_failure b) (is_failure c) (row rest)
    ∙ ap (λ t. t && list_all is_failure (a ∷ b ∷ c ∷ [])) (sym (three_or_more (length rest)))

-- the checks as they stand are what happened in them
record Agrees (c : Check) (h : List Happening) : Type 0 where
  asked : c.asked ≡ outstanding h
  due : (now : ℕ) → is_due c now ≡ is_next_due h now
  failures : c.failures ≡ min (row (outcomes_in h)) 3

began : (now : ℕ) → Agrees (unchecked now) (Began now ∷ [])
began now = record { asked = refl; due = λ later. refl; failures = refl }

one-more : (c r : ℕ) → c ≡ min r 3 → min (c + 1) check_retry_count ≡ min (suc r) 3
one-more c r e = omega arith

said-yes : (h : List Happening) (now : ℕ) → Agrees (unchecked now) (SaidYes now ∷ h)
said-yes h now = record { asked = refl; due = λ later. refl; failures = refl }

said-no : (c : Check) (h : List Happening) (now : ℕ) → Agrees c h → Agrees (failed_at c now) (SaidNo now ∷ h)
said-no c h now a = record { asked = refl; due = λ later. refl; failures = one-more c.failures (row (outcomes_in h)) a.failures }

timed-out : (c : Check) (h : List Happening) (now : ℕ) → Agrees c h → Agrees (failed_at c now) (TimedOut now ∷ h)
timed-out c h now a = record { asked = refl; due = λ later. refl; failures = one-more c.failures (row (outcomes_in h)) a.failures }

sent : (c : Check) (h : List Happening) (now : ℕ) → Agrees c h → Agrees (record c { asked = Some now }) (Sent now ∷ h)
sent c h now a = record { asked = refl; due = λ later. refl; failures = a.failures }

failed : (c : Check) (h : List Happening) → Agrees c h → has_failed c ≡ last_three_failed h
failed c h a = ap (λ n. nat_le check_retry_count n) a.failures ∙ row-three (outcomes_in h)

-- an answer
answer-agrees : (c : Check) (h : List Happening) (good : Bool) (now : ℕ) → Agrees c h → Agrees (answered_at c good now) (with_answer h good now)
answer-agrees c h good now a =
    rw (sym (ap is_none a.asked))
    (elim (is_none c.asked) as (λ b. Agrees (cond b c (cond good (unchecked now) (failed_at c now))) (cond b h (cond good (SaidYes now ∷ h) (SaidNo now ∷ h)))) [
      | true ↦ a
      | false ↦ elim good as (λ g. Agrees (cond g (unchecked now) (failed_at c now)) (cond g (SaidYes now ∷ h) (SaidNo now ∷ h))) [
        | true ↦ said-yes h now
        | false ↦ said-no c h now a
      ]
    ])

-- a tick that finds the checks t, once it has looked for a check that is overdue, fails, asks and leaves them as what happened says
record Ticks (t : Check) (now : ℕ) (before later : List Happening) : Type 0 where
  failed : has_failed t ≡ last_three_failed later
  asked : (not (has_failed t) && is_due t now) ≡ sends before now
  after : Agrees (cond (not (has_failed t) && is_due t now) (record t { asked = Some now }) t) later

-- just after a moment nothing is due
not-due : (now : ℕ) → nat_le (now + check_interval) now ≡ false
not-due now = grind arith

flipped : (a b : Bool) → (not a && b) ≡ (b && not a)
flipped true true = refl
flipped true false = refl
flipped false true = refl
flipped false false = refl

-- what is overdue is outstanding
overdue-some : (o : Option ℕ) (now : ℕ) → is_overdue o now ≡ true → is_none o ≡ false
overdue-some None now e = absurd (cc)
overdue-some (Some asked) now e = refl

-- at a tick that finds a check overdue no other is sent
overdue : (c : Check) (h : List Happening) (now : ℕ) → Agrees c h → is_overdue c.asked now ≡ true → Ticks (failed_at c now) now h (TimedOut now ∷ h)
overdue c h now a late =
    let none : (not (has_failed (failed_at c now)) && is_due (failed_at c now) now) ≡ false = and_right _ _ (not-due now) in
    let idle : is_due c now ≡ false = ap (λ b. b && nat_le (c.since + check_interval) now) (overdue-some c.asked now late) in
    let silent : sends h now ≡ false = ap (λ b. b && not (last_three_failed h)) (sym (a.due now) ∙ idle) in
    record {
      failed = failed (failed_at c now) (TimedOut now ∷ h) (timed-out c h now a);
      asked = none ∙ sym silent;
      after = subst (λ (b : Bool). Agrees (cond b (record (failed_at c now) { asked = Some now }) (failed_at c now)) (TimedOut now ∷ h)) (sym none) (timed-out c h now a);
    }

-- at another the next check is sent where it is due
in-time : (c : Check) (h : List Happening) (now : ℕ) → Agrees c h → Ticks c now h (cond (sends h now) (Sent now ∷ h) h)
in-time c h now a =
    let same_failed = failed c h a in
    let same_sent : (not (has_failed c) && is_due c now) ≡ sends h now =
    flipped (has_failed c) (is_due c now) ∙ ap (λ b. b && not (has_failed c)) (a.due now) ∙ ap (λ b. is_next_due h now && not b) same_failed in
    record {
      failed = same_failed ∙ elim (sends h now) as (λ b. last_three_failed h ≡ last_three_failed (cond b (Sent now ∷ h) h)) [ true ↦ refl | false ↦ refl ];
      asked = same_sent;
      after = subst (λ (b : Bool). Agrees (cond b (record c { asked = Some now }) c) (cond (sends h now) (Sent now ∷ h) h)) (sym same_sent)
          (elim (sends h now) as (λ b. Agrees (cond b (record c { asked = Some now }) c) (cond b (Sent now ∷ h) h)) [
            | true ↦ sent c h now a
            | false ↦ a
          ]);
    }

tick-agrees : (c : Check) (h : List Happening) (now : ℕ) → Agrees c h → Ticks (timed_out_at c now) now h (with_tick h now)
tick-agrees c h now a =
    subst (λ (o : Option ℕ). Ticks (timed_out_at c now) now h (cond (is_overdue o now) (TimedOut now ∷ h) (cond (sends h now) (Sent now ∷ h) h))) a.asked
    (elim (is_overdue c.asked now) as (λ b. is_overdue c.asked now ≡ b → Ticks (cond b (failed_at c now) c) now h (cond b (TimedOut now ∷ h) (cond (sends h now) (Sent now ∷ h) h))) [
      | true ↦ λ e. overdue c h now a e
      | false ↦ λ e. in-time c h now a
    ] refl)

-- Followers.

follower-agrees : (calls : Calls) (id : Id) → Agrees (check_of calls id) (happened_to calls id)
follower-agrees Started id = began 0
follower-agrees (Then calls (Watched members now)) id =
    elim (has id (members_of calls)) as (λ b. Agrees (cond b (check_of calls id) (unchecked now)) (cond b (happened_to calls id) (Began now ∷ []))) [
      | true ↦ follower-agrees calls id
      | false ↦ began now
    ]
follower-agrees (Then calls (Finished state now)) id = follower-agrees calls id
follower-agrees (Then calls (Answered from good applied now)) id =
    elim (same id from) as (λ b. Agrees (cond b (answered_at (check_of calls id) good now) (check_of calls id)) (cond b (with_answer (happened_to calls id) good now) (happened_to calls id))) [
      | true ↦ answer-agrees (check_of calls id) (happened_to calls id) good now (follower-agrees calls id)
      | false ↦ follower-agrees calls id
    ]
follower-agrees (Then calls (Ticked now)) id = (tick-agrees (check_of calls id) (happened_to calls id) now (follower-agrees calls id)).after
follower-agrees (Then calls (Disconnected from)) id = follower-agrees calls id

follower-ticks : (calls : Calls) (now : ℕ) (id : Id) → Ticks (timed_out_at (check_of calls id) now) now (happened_to calls id) (with_tick (happened_to calls id) now)
follower-ticks calls now id = tick-agrees (check_of calls id) (happened_to calls id) now (follower-agrees calls id)

-- whether an id is among those that pass
chosen-this : (p h : Bool) → cond p true (h && p) ≡ p
chosen-this true h = refl
chosen-this false true = refl
chosen-this false false = refl

chosen-other : (p r : Bool) → cond p r r ≡ r
chosen-other true r = refl
chosen-other false r = refl

among : (p : Follower → Bool) (calls : Calls) (ids : List Id) (id : Id) → has id (ids_of (filter p (map (λ i. follower_of calls i) ids))) ≡ (has id ids && p (follower_of calls id))
among p calls [] id = refl
among p calls (y ∷ ys) id =
    split (p (follower_of calls y)) (filter p (map (λ i. follower_of calls i) ys))
    ∙ ap (λ r. cond (p (follower_of calls y)) (same y id || r) r) (among p calls ys id)
    ∙ elim (same y id) as (λ b. same y id ≡ b → cond (p (follower_of calls y)) (b || (has id ys && p (follower_of calls id))) (has id ys && p (follower_of calls id)) ≡ ((b || has id ys) && p (follower_of calls id))) [
      | true ↦ λ e. ap (λ (i : Id). cond (p (follower_of calls i)) true (has id ys && p (follower_of calls id))) (same_text y id (sym e)) ∙ chosen-this (p (follower_of calls id)) (has id ys)
      | false ↦ λ e. chosen-other (p (follower_of calls y)) (has id ys && p (follower_of calls id))
    ] refl
  where
    split : (b : Bool) (rest : List Follower) → has id (ids_of (cond b (follower_of calls y ∷ rest) rest)) ≡ cond b (same y id || has id (ids_of rest)) (has id (ids_of rest))
    split true rest = refl
    split false rest = refl

pub dropped : (calls : Calls) (now : ℕ) (id : Id) → has id (to_drop_for_checks (followers_of calls).watched now) ≡ (has id (members_of calls) && last_three_failed (happened_to (Then calls (Ticked now)) id))
dropped calls now id =
    among (λ (f : Follower). drops_for_checks f now) calls (members_of calls) id
    ∙ ap (λ b. has id (members_of calls) && b) (follower-ticks calls now id).failed

stays-asks : (f l d : Bool) → ((not f && not l) && (not f && d)) ≡ (not l && (not f && d))
stays-asks true true d = refl
stays-asks true false d = refl
stays-asks false l d = refl

and-assoc : (a b c : Bool) → (a && (b && c)) ≡ ((a && b) && c)
and-assoc true b c = refl
and-assoc false b c = refl

pub asked : (calls : Calls) (now : ℕ) (id : Id) → has id (to_ask (followers_of calls).watched now) ≡ (has id (members_of calls) && not (is_late (behind_of calls id) now) && sends (happened_to calls id) now)
asked calls now id =
    among (λ (f : Follower). is_asked f now) calls (members_of calls) id
    ∙ ap (λ b. has id (members_of calls) && b)
    (stays-asks (fails (check_of calls id) now) (is_late (behind_of calls id) now) (is_due (timed_out_at (check_of calls id) now) now)
    ∙ ap (λ b. not (is_late (behind_of calls id) now) && b) (follower-ticks calls now id).asked)
    ∙ and-assoc (has id (members_of calls)) (not (is_late (behind_of calls id) now)) (sends (happened_to calls id) now)

-- The leader.

leader-agrees : (calls : LeaderCalls) → Agrees (leader_checks calls) (happened_to_leader calls)
leader-agrees (LeaderStarted leader now) = began now
leader-agrees (LeaderThen calls (LeaderAnswered good now)) = answer-agrees (leader_checks calls) (happened_to_leader calls) good now (leader-agrees calls)
leader-agrees (LeaderThen calls (LeaderTicked now)) = (tick-agrees (leader_checks calls) (happened_to_leader calls) now (leader-agrees calls)).after

pub lost : (calls : LeaderCalls) (now : ℕ) → leader_tick (leader_check_of calls) now ≡ cond (last_three_failed (happened_to_leader (LeaderThen calls (LeaderTicked now)))) Lost (cond (sends (happened_to_leader calls) now) Ask Quiet)
lost calls now =
    let c : Check = leader_checks calls in
    let h : List Happening = happened_to_leader calls in
    let t : Ticks (timed_out_at c now) now h (with_tick h now) = tick-agrees c h now (leader-agrees calls) in
    ap (λ b. cond b Lost (cond (asks c now) Ask Quiet)) t.failed ∙ ap (λ b. cond (last_three_failed (with_tick h now)) Lost (cond b Ask Quiet)) t.asked
