use Rattle.std.proofs.Common.{◌≡◌, ◌+◌, ◌∷◌, ◌-◌, ℕ, List, length, take, drop, ap, ◌∙◌, sym, arith, true}
use Rattle.std.proofs.lemmas.Bool.{cond-true}
use Rattle.std.proofs.lemmas.List.{take_rest}
use Rattle.gate_log.specs.Generations.{may_begin as spec_may_begin, disorder as spec_disorder, misplaced_from}
use Rattle.gate_log.specs.Journal.{laid}
use Rattle.gate_log.specs.Opened.{lists}
use Rattle.gate_log.proofs.Ordered.{length-laid, lists_drop}
use Rattle.gate_log.proofs.order.disorder.Goals as goal

pub returns : goal.returns
returns c small =
    let side = c.args.side in
    let vs = c.args.bodies.now in
    let body = c.index-bodies-0.result.items in
    let rest = lists (drop 1 vs) in
    let whole : lists vs ≡ body ∷ rest = lists_drop vs 0 c.index-bodies-0.result (omega (arith, c.if-bodies-lt1.false)) c.index-bodies-0.is in
    let cut = take_rest vs 1 in
    let size : length c.deref-body.result.now ≡ length body = ap length c.deref-body.ensures.value in
    let may : spec_may_begin side body ≡ true =
    ap (spec_may_begin side) (sym c.deref-body.ensures.value) ∙ sym c.may_begin.ensures ∙ c.if-not-may_begin.false in
    let bytes : length (laid (lists vs)) ≡ 5 + length body + length (laid rest) =
    ap (λ (l : List (List ℕ)). length (laid l)) whole ∙ length-laid body rest in
    let first : c.saturating_add-first.result ≡ 8 + 5 + length body = omega (arith, c.saturating_add-first.ensures, small, bytes, size) in
    let left : length (laid (lists (take (length vs - 1) (drop 1 vs)))) ≡ length (laid rest) = ap (λ (l : List _). length (laid (lists l))) cut in
    c.misplaced.ensures (omega (arith, small, bytes, first, left)) ∙ (λ i. misplaced_from (first i) (lists (cut i)))
    ∙ sym (cond-true (spec_may_begin side body) _ _ may) ∙ sym (ap (spec_disorder side) whole)
