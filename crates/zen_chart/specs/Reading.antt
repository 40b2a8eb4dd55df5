-- Part of the statement of `zen_chart`: what is read of the input.
use Rattle.std.specs.Prelude.{ℕ, ◌+◌, List, take, drop}
use Rattle.trace_reader.specs.Limits.{most_trace_bytes}

-- how many bytes are read at most: one more than a trace has, which shows that it is too long
abbrev pub most_read : ℕ
most_read = most_trace_bytes + 1

-- what is read of these bytes
abbrev pub read_of : List ℕ → List ℕ
read_of bytes = take most_read bytes

-- what is left of them
abbrev pub unread_of : List ℕ → List ℕ
unread_of bytes = drop most_read bytes
