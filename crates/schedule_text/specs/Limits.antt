-- Part of the statement: how large a schedule is at most.
use Rattle.std.specs.Prelude.{ℕ}

-- the bytes of a schedule
abbrev pub most_bytes : ℕ
most_bytes = 16777216

-- its lines, those of the header counted
abbrev pub most_lines : ℕ
most_lines = 1000000

-- the bytes of a line, its line feed not counted
abbrev pub most_line_bytes : ℕ
most_line_bytes = 16384
