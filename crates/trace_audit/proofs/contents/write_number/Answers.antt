use Rattle.std.proofs.Common.{List, ℕ, ◌/◌, ◌++◌, sym, ◌∙◌, ap, append_assoc}
use Rattle.trace_audit.specs.Contents.{number_bytes}
use Rattle.trace_audit.proofs.Codes.{number_small, number_large}
use Rattle.trace_audit.proofs.contents.write_number.Goals as goal

pub loop-left-preserved : goal.loop-left-preserved
loop-left-preserved c =
    let left = c.loop-left.left in
    let old = c.loop-left.out.items in
    ap (λ (l : List ℕ). l ++ number_bytes (left / 128)) c.in_ok-push.ensures.items ∙ append_assoc old _ (number_bytes (left / 128))
    ∙ ap (λ (l : List ℕ). old ++ l) (sym (number_large left c.loop-left-test.true)) ∙ c.loop-left.invariant

pub returns : goal.returns
returns c =
    let old = c.loop-left.out.items in
    c.in_ok-push-2.ensures.items ∙ ap (λ (l : List ℕ). old ++ l) (sym (number_small c.loop-left.left c.loop-left-test.false)) ∙ c.loop-left.invariant
