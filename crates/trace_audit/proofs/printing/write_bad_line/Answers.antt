use Rattle.std.proofs.Common.{◌≡◌, ◌++◌, OnOk, List, ℕ, ap, ◌∙◌, subst, append_assoc}
use Rattle.std.specs.Prelude.{codes}
use Rattle.trace_audit.specs.Printed.{line_text}
use Rattle.trace_audit.proofs.printing.write_bad_line.Goals as goal

pub returns : goal.returns
returns c =
    subst (λ (t : List ℕ). OnOk c.write_line.result (c.write_line.new.text ≡ t))
    (ap (λ (t : List ℕ). t ++ line_text c.args.line c.why_name.result.now) c.in_ok-word.ensures
    ∙ append_assoc c.args.text.now (codes "zen: bad trace at line ") (line_text c.args.line c.why_name.result.now)
    ∙ ap (λ (w : List ℕ). c.args.text.now ++ (codes "zen: bad trace at line " ++ line_text c.args.line w)) c.why_name.ensures)
    c.write_line.ensures
