-- The report that says a verdict, or a bad line.
use Rattle.std.proofs.Common.{◌≡◌, Result, Ok, Err, sym, subst}
use Rattle.schedule_text.specs.declared.fault.ReadError.TheVariants.{Bad}
use Rattle.recorded_trace.specs.declared.fault.BadTrace.{BadTrace}
use Rattle.recorded_trace.specs.Reading.{Recording}
use Rattle.trace_audit.specs.declared.reporting.Report.{Report}
use Rattle.trace_audit.specs.declared.verdict.Verdict.{Verdict}
use Rattle.trace_audit.specs.Reports.{report_of, bad_report, IsReport}
use Rattle.trace_audit.specs.Verdicts.{Judges}

pub says_verdict : (r : Report) (v : Verdict) (read : Result Recording BadTrace) → Judges (Ok v) read → r ≡ report_of v → IsReport r read
says_verdict r v read j is = subst (λ (x : Result Recording BadTrace). IsReport r x) (sym j.1) (v, j.2, is)

pub says_bad : (r : Report) (b : BadTrace) (read : Result Recording BadTrace) → Judges (Err (Bad b)) read → r ≡ bad_report b → IsReport r read
says_bad r b read j is = subst (λ (x : Result Recording BadTrace). IsReport r x) (sym j) is
