-- For the contracts inside: the report on a recorded trace.
use Rattle.std.specs.Prelude.{◌≡◌, Result, Ok, Err}
use Rattle.recorded_trace.specs.declared.fault.BadTrace.{BadTrace}
use Rattle.recorded_trace.specs.Reading.{Recording}
use Rattle.trace_audit.specs.declared.reporting.Finding.{Finding}
use Rattle.trace_audit.specs.declared.reporting.Finding.TheVariants as finding
use Rattle.trace_audit.specs.declared.reporting.Report.{Report}
use Rattle.trace_audit.specs.declared.running.AuditEnd.{AuditEnd}
use Rattle.trace_audit.specs.declared.running.AuditEnd.TheVariants as end
use Rattle.trace_audit.specs.declared.verdict.Verdict.{Verdict}
use Rattle.trace_audit.specs.declared.verdict.Verdict.TheVariants.{Legal, NotLegal}
use Rattle.trace_audit.specs.Printed.{verdict_text, bad_line}
use Rattle.trace_audit.specs.Verdicts.{IsRight}

abbrev pub finding_of : Verdict → Finding
finding_of (Legal entries winners committed) = finding.Legal
finding_of (NotLegal line clause) = finding.NotLegal

abbrev pub end_of : Finding → AuditEnd
end_of finding.Legal = end.Legal
end_of finding.NotLegal = end.NotLegal
end_of finding.BadTrace = end.BadTrace

abbrev pub report_of : Verdict → Report
report_of v = record { finding = finding_of v; text = verdict_text v }

abbrev pub bad_report : BadTrace → Report
bad_report bad = record { finding = finding.BadTrace; text = bad_line bad }

-- the report of a right verdict, or that of the first bad line
abbrev pub IsReport : Report → Result Recording BadTrace → Type 0
IsReport r (Ok trace) = (v : Verdict) × IsRight trace v × (r ≡ report_of v)
IsReport r (Err bad) = r ≡ bad_report bad
