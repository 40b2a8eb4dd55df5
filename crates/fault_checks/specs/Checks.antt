-- Part of the statement: the checks of one node by another, one after the other.
use Rattle.std.specs.Prelude.{ℕ, ◌+◌, min, Bool, false, not, ◌&&◌, Option, None, Some, nat_le, if◌then◌else◌, is_none}
use Rattle.election_clock.specs.Delays.{has_passed}
use Rattle.fault_checks.specs.declared.checking.Check.{Check}
use Rattle.fault_checks.specs.Spans.{check_interval, check_timeout, check_retry_count}

-- before the first check
abbrev pub unchecked : ℕ → Check
unchecked now = record { since = now; asked = None; failures = 0 }

-- one failure more, now
abbrev pub failed_at : Check → ℕ → Check
failed_at c now = record { since = now; asked = None; failures = min (c.failures + 1) check_retry_count }

-- an answer ends the check that is outstanding: a good one ends the failures in a row, another is one failure more. With no check
-- outstanding it does nothing
abbrev pub answered_at : Check → Bool → ℕ → Check
answered_at c good now =
    if is_none c.asked then c
    else if good then unchecked now
    else failed_at c now

-- whether the outstanding check has had no answer for too long
abbrev pub is_overdue : Option ℕ → ℕ → Bool
is_overdue None now = false
is_overdue (Some asked) now = has_passed asked check_timeout now

-- a check that is overdue has failed
abbrev pub timed_out_at : Check → ℕ → Check
timed_out_at c now = if is_overdue c.asked now then failed_at c now else c

-- whether too many checks have failed in a row
abbrev pub has_failed : Check → Bool
has_failed c = nat_le check_retry_count c.failures

-- whether the next check is due
abbrev pub is_due : Check → ℕ → Bool
is_due c now = is_none c.asked && has_passed c.since check_interval now

-- whether a tick finds too many failures
abbrev pub fails : Check → ℕ → Bool
fails c now = has_failed (timed_out_at c now)

-- whether a tick sends a check
abbrev pub asks : Check → ℕ → Bool
asks c now = not (fails c now) && is_due (timed_out_at c now) now

-- what a tick makes of the checks
abbrev pub ticked_at : Check → ℕ → Check
ticked_at c now = if asks c now then record (timed_out_at c now) { asked = Some now } else timed_out_at c now
