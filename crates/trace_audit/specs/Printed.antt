-- Part of the statement: the printed form of a verdict, and of a bad line.
use Rattle.std.specs.Prelude.{ℕ, true, List, length, ◌++◌, codes, decimal}
use Rattle.std.specs.List.{flat_map}
use Rattle.trace_text.specs.Trace.{won_text}
use Rattle.recorded_trace.specs.declared.fault.BadTrace.{BadTrace}
use Rattle.recorded_trace.specs.declared.fault.Why.{Why}
use Rattle.recorded_trace.specs.declared.fault.Why.TheVariants as why
use Rattle.trace_audit.specs.declared.clause.Clause.{Clause}
use Rattle.trace_audit.specs.declared.clause.Clause.TheVariants as clause
use Rattle.trace_audit.specs.declared.verdict.Verdict.{Verdict}
use Rattle.trace_audit.specs.declared.verdict.Verdict.TheVariants.{Legal, NotLegal}
use Rattle.trace_audit.specs.declared.verdict.Winner.{Winner}

abbrev pub clause_text : Clause → List ℕ
clause_text clause.Opening = codes "Opening"
clause_text clause.Bootstrap = codes "Bootstrap"
clause_text clause.Unsent = codes "Unsent"
clause_text clause.Outcome = codes "Outcome"

abbrev pub why_text : Why → List ℕ
why_text why.TooBig = codes "TooBig"
why_text why.NoNewline = codes "NoNewline"
why_text why.Header = codes "Header"
why_text why.Word = codes "Word"
why_text why.Shape = codes "Shape"

-- a name and a number
abbrev pub named_text : List ℕ → ℕ → List ℕ
named_text name number = name ++ codes "=" ++ decimal number ++ codes "\n"

abbrev pub won_line : Winner → List ℕ
won_line w = won_text true w.node w.term

abbrev pub counts_text : (entries winners committed : ℕ) → List ℕ
counts_text entries winners committed = named_text (codes "legal") entries ++ named_text (codes "winners") winners
    ++ named_text (codes "committed") committed

-- a number, and why
abbrev pub line_text : ℕ → List ℕ → List ℕ
line_text line why = decimal line ++ codes ": " ++ why ++ codes "\n"

abbrev pub verdict_text : Verdict → List ℕ
verdict_text (Legal entries winners committed) = counts_text entries (length winners) committed ++ flat_map won_line winners
verdict_text (NotLegal line c) = codes "zen: line " ++ line_text line (clause_text c)

-- the line that says which line is the first bad one, and why
abbrev pub bad_line : BadTrace → List ℕ
bad_line bad = codes "zen: bad trace at line " ++ line_text bad.line (why_text bad.why)
