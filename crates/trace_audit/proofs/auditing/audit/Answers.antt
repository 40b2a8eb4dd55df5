use Rattle.std.proofs.Common.{◌≡◌, ◌∷◌, [], Result, sym, ◌∙◌, ap, subst}
use Rattle.voting_config.specs.Lists.{parts_of, parts_in}
use Rattle.recorded_trace.specs.declared.fault.BadTrace.{BadTrace}
use Rattle.recorded_trace.specs.declared.progress.Progress.{Progress}
use Rattle.recorded_trace.specs.Reading.{Recording, after_line, first_progress, lines_at, parts_read, recording_of}
use Rattle.trace_audit.specs.Verdicts.{Judges}
use Rattle.trace_audit.specs.Stands.{recorded_with}
use Rattle.trace_audit.proofs.Judging.{first_read, first_bad}
use Rattle.trace_audit.proofs.auditing.audit.Goals as goal

pub returns-in-Ok : goal.returns-in-Ok
returns-in-Ok c =
    let line = c.cut.result.0.now in
    let rest = c.in-Some.rest.now in
    let initial = c.in-Ok.initial in
    let parts : recording_of c.args.bytes.now ≡ parts_read (line ∷ parts_of 10 rest) = ap parts_read (c.cut.ensures.parts ∙ ap (λ r. line ∷ parts_in 10 r) c.in-Some.is) in
    let whole = parts ∙ first_read line rest initial (sym c.in-Ok.ensures) in
    let start : c.after.result ≡ after_line first_progress line = c.after.ensures ∙ ap (λ (q : Progress). after_line q line) c.first-in-Ok.ensures in
    subst (λ (r : Result Recording BadTrace). Judges c.audit_lines.result r) (ap (λ (q : Progress). recorded_with initial (lines_at q [] (parts_of 10 rest))) start ∙ sym whole) c.audit_lines.ensures

pub returns-in-Err : goal.returns-in-Err
returns-in-Err c =
    let line = c.cut.result.0.now in
    let rest = c.in-Some.rest.now in
    ap parts_read (c.cut.ensures.parts ∙ ap (λ r. line ∷ parts_in 10 r) c.in-Some.is) ∙ first_bad line rest c.in-Err.bad (sym c.in-Err.ensures)
