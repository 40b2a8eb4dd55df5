use Rattle.std.proofs.Common.{subst}
use Rattle.zen_link.specs.Streams.{Appended, AppendedPrefix}
use Rattle.trace_audit.proofs.Endings.{audit_cut, audited}
use Rattle.trace_audit.proofs.running.run_audit.Goals as goal

pub returns-in_default-write_all : goal.returns-in_default-write_all
returns-in_default-write_all g c =
    audit_cut _ _ _ _ _ _ _ _ c.read_input.ensures.at_most c.read_input.ensures.later c.write_all.ensures.cause.later c.as_slice.result.now (rw c.as_slice.ensures.value c.in-Ok.ensures.read)
    c.in-Ok-audit_report.report c.in-Ok-audit_report.ensures (subst (AppendedPrefix _ _) c.as_bytes.ensures c.in_default-write_all.ensures.writes) c.in_default-write_all.ensures.cause.rose

pub returns : goal.returns
returns g c =
    rw c.end_of.ensures
    (audited _ _ _ _ _ _ _ _ c.read_input.ensures.at_most c.read_input.ensures.later c.write_all.ensures.cause.later c.as_slice.result.now (rw c.as_slice.ensures.value c.in-Ok.ensures.read)
    c.in-Ok-audit_report.report c.in-Ok-audit_report.ensures (subst (Appended _ _) c.as_bytes.ensures c.in-Ok-write_all.ensures.writes))
