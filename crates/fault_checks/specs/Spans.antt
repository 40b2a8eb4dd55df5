-- Part of the statement: the spans of the checks, in ms.
use Rattle.std.specs.Prelude.{ℕ}

-- how long after an answer or a failure the next check comes
abbrev pub check_interval : ℕ
check_interval = 1000

-- how long an answer may take
abbrev pub check_timeout : ℕ
check_timeout = 10000

-- how many failures in a row are too many
abbrev pub check_retry_count : ℕ
check_retry_count = 3

-- how long a follower may be behind a finished state
abbrev pub follower_lag_timeout : ℕ
follower_lag_timeout = 90000
