-- Part of the statement of `zen_chart`: the printed form of a fault.
use Rattle.std.specs.Prelude.{ℕ, List, ◌++◌, codes, decimal}
use Rattle.schedule_text.specs.Printed.{reason_text}
use Rattle.trace_reader.specs.declared.fault.BadTrace.{BadTrace}

-- the line that says which line is the first bad one, and why
abbrev pub bad_line : BadTrace → List ℕ
bad_line bad = codes "zen_chart: bad trace at line " ++ (decimal bad.line ++ reason_text bad.why)
