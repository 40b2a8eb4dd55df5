-- For the contracts inside: what happened in the checks of one node by another, and what follows from the last of it.
use Rattle.std.specs.Prelude.{ℕ, Bool, true, false, not, ◌&&◌, Option, None, Some, List, [], ◌∷◌, length, take, filter, nat_le, if◌then◌else◌, is_none}
use Rattle.std.specs.List.{list_all}
use Rattle.election_clock.specs.Delays.{has_passed}
use Rattle.fault_checks.specs.Checks.{is_overdue}
use Rattle.fault_checks.specs.Spans.{check_interval, check_retry_count}

pub data Happening : Type 0 where
  -- the checks began
  Began : (now : ℕ) → Happening
  -- a check was sent
  Sent : (now : ℕ) → Happening
  -- the check that was sent was answered
  SaidYes : (now : ℕ) → Happening
  SaidNo : (now : ℕ) → Happening
  -- it had no answer for too long
  TimedOut : (now : ℕ) → Happening

-- how a check ended
abbrev pub is_outcome : Happening → Bool
is_outcome (Began now) = false
is_outcome (Sent now) = false
is_outcome happening = true

-- an answer no, or none in time
abbrev pub is_failure : Happening → Bool
is_failure (SaidNo now) = true
is_failure (TimedOut now) = true
is_failure happening = false

-- Of what happened the newest stands first.

-- the outcomes of the checks
abbrev pub outcomes_in : List Happening → List Happening
outcomes_in happened = filter is_outcome happened

-- the last three outcomes are failures
abbrev pub last_three_failed : List Happening → Bool
last_three_failed happened =
    nat_le check_retry_count (length (outcomes_in happened)) && list_all is_failure (take check_retry_count (outcomes_in happened))

-- a check is outstanding where nothing happened since it was sent
abbrev pub outstanding : List Happening → Option ℕ
outstanding (Sent now ∷ older) = Some now
outstanding happened = None

-- the next check is due some time after what happened last, unless one is outstanding
abbrev pub moment_of : Happening → ℕ
moment_of (Began now) = now
moment_of (Sent now) = now
moment_of (SaidYes now) = now
moment_of (SaidNo now) = now
moment_of (TimedOut now) = now

abbrev pub is_next_due : List Happening → ℕ → Bool
is_next_due [] now = false
is_next_due (last ∷ older) now = is_none (outstanding (last ∷ older)) && has_passed (moment_of last) check_interval now

-- whether a tick sends a check: one is due, and the last three did not fail
abbrev pub sends : List Happening → ℕ → Bool
sends happened now = is_next_due happened now && not (last_three_failed happened)

-- a tick, at which the check that is outstanding times out, or the next one is sent
abbrev pub with_tick : List Happening → ℕ → List Happening
with_tick happened now =
    if is_overdue (outstanding happened) now then TimedOut now ∷ happened
    else if sends happened now then Sent now ∷ happened
    else happened

-- an answer, which with no check outstanding is nothing
abbrev pub with_answer : List Happening → Bool → ℕ → List Happening
with_answer happened good now =
    if is_none (outstanding happened) then happened
    else if good then SaidYes now ∷ happened
    else SaidNo now ∷ happened
