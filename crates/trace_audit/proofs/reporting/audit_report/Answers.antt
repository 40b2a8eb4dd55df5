use Rattle.std.proofs.lemmas.Result.{IfOk-weaker}
use Rattle.trace_audit.proofs.Says.{says_verdict, says_bad}
use Rattle.trace_audit.proofs.reporting.audit_report.Goals as goal

pub returns-in-Ok : goal.returns-in-Ok
returns-in-Ok c = IfOk-weaker c.verdict_report.result _ _ (λ r is. says_verdict r c.in-Ok.verdict _ c.in-Ok.ensures is) c.verdict_report.ensures

pub returns-in-Err-Bad : goal.returns-in-Err-Bad
returns-in-Err-Bad c = IfOk-weaker c.bad_trace_report.result _ _ (λ r is. says_bad r c.in-Err-Bad.bad _ (rw c.in-Err-Bad.field-0-is at c.in-Err-Bad.ensures) is) c.bad_trace_report.ensures
