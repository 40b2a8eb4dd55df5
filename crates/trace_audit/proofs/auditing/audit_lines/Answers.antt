use Rattle.std.proofs.Common.{◌≡◌, ◌+◌, ◌≤◌, ◌∷◌, [], None, List, ℕ, length, rules, sym, ◌∙◌, ap, subst, arith}
use Rattle.voting_config.specs.Lists.{parts_of, parts_in, left_in}
use Rattle.recorded_trace.specs.declared.progress.Progress.{Progress}
use Rattle.recorded_trace.specs.Reading.{after_line, lines_at, with_entry}
use Rattle.trace_audit.proofs.Judging.{few_more, judged_end, read_one}
use Rattle.trace_audit.proofs.auditing.audit_lines.Goals as goal

pub loop-rest-preserved : goal.loop-rest-preserved
loop-rest-preserved c =
    let inv = c.loop-rest.invariant in
    let p = c.loop-rest.progress in
    let line = c.loop-rest.line.now in
    let more = c.in-Some.more.now in
    let t = c.in-Ok.ensures c.args.initial inv.0 inv.2 inv.3 in
    let prefix = with_entry p inv.0 t.0 in
    let next = c.cut-next.result.0.now ∷ parts_in 10 c.cut-next.result.1 in
    let number : c.after-progress.result.number ≡ p.number + 1 = ap (λ (q : Progress). q.number) c.after-progress.ensures in
    let before : c.after-progress.result.before ≡ p.before + length line + 1 = ap (λ (q : Progress). q.before) c.after-progress.ensures in
    let left : left_in c.loop-rest.rest ≡ 1 + length more = ap left_in c.in-Some.is in (
      prefix,
      ap (λ (q : Progress). lines_at q prefix next) c.after-progress.ensures
          ∙ ap (λ (ps : List (List ℕ)). lines_at (after_line p line) prefix ps) (sym c.cut-next.ensures.parts)
          ∙ sym (read_one p inv.0 line more t.0 t.1)
          ∙ ap (λ r. lines_at p inv.0 (line ∷ parts_in 10 r)) (sym c.in-Some.is)
          ∙ inv.1,
      t.2,
      t.3,
      subst (λ (n : ℕ). length prefix ≤ n) (sym number) (few_more p inv.0 t.0 inv.4),
      omega (arith, before, left, c.cut-next.ensures.sizes, inv.5),
      omega (arith, number, left, c.cut-next.ensures.sizes, inv.6),
    )

pub returns : goal.returns
returns c =
    let inv = c.loop-rest.invariant in
    let p = c.loop-rest.progress in
    let line = c.loop-rest.line.now in
    let none : c.loop-rest.rest ≡ None = search rules in
    let same : lines_at p inv.0 (line ∷ []) ≡ lines_at c.args.start [] (parts_of 10 c.args.text.now) = ap (λ r. lines_at p inv.0 (line ∷ parts_in 10 r)) (sym none) ∙ inv.1 in
    judged_end c.args.initial p line inv.0 (lines_at c.args.start [] (parts_of 10 c.args.text.now)) c.verdict.result same (sym c.in_default-check_end.ensures) (c.verdict.ensures c.args.initial inv.0 inv.2 inv.3)
