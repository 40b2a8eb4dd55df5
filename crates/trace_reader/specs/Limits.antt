-- Part of the statement of `zen_chart`: how large a trace is at most.
use Rattle.std.specs.Prelude.{ℕ}

-- the bytes of a trace
abbrev pub most_trace_bytes : ℕ
most_trace_bytes = 268435456

-- its lines
abbrev pub most_trace_lines : ℕ
most_trace_lines = 1000000
