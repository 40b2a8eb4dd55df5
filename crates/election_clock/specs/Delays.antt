-- Part of the statement: how long an attempt at an election waits, and when a span has gone by, in milliseconds.
use Rattle.std.specs.Prelude.{ℕ, ◌+◌, ◌*◌, ◌%◌, min, Bool, nat_le}

-- a wait of the first attempt is at most this long
abbrev pub initial_timeout : ℕ
initial_timeout = 100

-- by how much the longest wait grows with each attempt
abbrev pub back_off_time : ℕ
back_off_time = 100

-- no wait is longer
abbrev pub max_timeout : ℕ
max_timeout = 10000

-- the longest wait of an attempt
abbrev pub longest_of : ℕ → ℕ
longest_of attempt = min max_timeout (initial_timeout + back_off_time * attempt)

-- a random word picks one of the waits from 1 to the longest
abbrev pub delay_of : ℕ → ℕ → ℕ
delay_of attempt word = 1 + word % longest_of attempt

-- the moment is reached
abbrev pub is_due : ℕ → ℕ → Bool
is_due at now = nat_le at now

-- whether a span has gone by since a moment
abbrev pub has_passed : ℕ → ℕ → ℕ → Bool
has_passed since span now = nat_le (since + span) now
