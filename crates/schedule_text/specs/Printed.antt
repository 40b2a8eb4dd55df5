-- Part of the statement: the printed form of a fault.
use Rattle.std.specs.Prelude.{ℕ, List, ◌++◌, codes, decimal}
use Rattle.schedule_text.specs.declared.fault.WhyBad.{WhyBad}
use Rattle.schedule_text.specs.declared.fault.WhyBad.TheVariants as why
use Rattle.schedule_text.specs.declared.fault.BadSchedule.{BadSchedule}

-- the name of a reason
abbrev pub why_text : WhyBad → List ℕ
why_text why.TooBig = codes "TooBig"
why_text why.TooMany = codes "TooMany"
why_text why.NoNewline = codes "NoNewline"
why_text why.TooLong = codes "TooLong"
why_text why.Header = codes "Header"
why_text why.Verb = codes "Verb"
why_text why.Arity = codes "Arity"
why_text why.Id = codes "Id"
why_text why.Number = codes "Number"
why_text why.Text = codes "Text"
why_text why.List = codes "List"
why_text why.Mode = codes "Mode"

-- the reason at the end of a line
abbrev pub reason_text : WhyBad → List ℕ
reason_text why = codes ": " ++ (why_text why ++ codes "\n")

-- the line that says which line is the first bad one, and why
abbrev pub bad_line : BadSchedule → List ℕ
bad_line bad = codes "zen: bad schedule at line " ++ (decimal bad.line ++ reason_text bad.why)
