use Rattle.std.proofs.Common.{◌≡◌, ◌+◌, ◌∷◌, ℕ, List, length, drop, ap, ◌∙◌, sym, arith, true, false}
use Rattle.gate_log.specs.Generations.{is_generation as tagged, tail_of}
use Rattle.gate_log.specs.Journal.{laid}
use Rattle.gate_log.specs.Opened.{lists}
use Rattle.gate_log.proofs.Ordered.{length-laid, lists_drop, tail_behind, tail_whole, nothing}
use Rattle.gate_log.proofs.order.start_of.Goals as goal

pub returns-then-is_generation : goal.returns-then-is_generation
returns-then-is_generation c small =
    let vs = c.args.bodies.now in
    let body = c.index-bodies-0.result.items in
    let rest = lists (drop 1 vs) in
    let whole : lists vs ≡ body ∷ rest = lists_drop vs 0 c.index-bodies-0.result (omega (arith, c.if-bodies-lt1.false)) c.index-bodies-0.is in
    let is : tagged body ≡ true = ap tagged (sym c.deref-first.ensures.value) ∙ sym c.is_generation.ensures ∙ c.if-is_generation.true in
    let bytes : length (laid (lists vs)) ≡ 5 + length body + length (laid rest) =
    ap (λ (l : List (List ℕ)). length (laid l)) whole ∙ length-laid body rest in
    let tail : tail_of (lists vs) ≡ length (laid rest) = ap tail_of whole ∙ tail_behind body rest is in
    let size : length c.deref-first.result.now ≡ length body = ap length c.deref-first.ensures.value in
    omega (arith, c.saturating_add.ensures, small, bytes, tail, size)

pub returns : goal.returns
returns c small =
    let vs = c.args.bodies.now in
    let body = c.index-bodies-0.result.items in
    let rest = lists (drop 1 vs) in
    let whole : lists vs ≡ body ∷ rest = lists_drop vs 0 c.index-bodies-0.result (omega (arith, c.if-bodies-lt1.false)) c.index-bodies-0.is in
    let is : tagged body ≡ false = ap tagged (sym c.deref-first.ensures.value) ∙ sym c.is_generation.ensures ∙ c.if-is_generation.false in
    let tail : tail_of (lists vs) ≡ length (laid (lists vs)) =
    ap tail_of whole ∙ tail_whole body rest is ∙ sym (ap (λ (l : List (List ℕ)). length (laid l)) whole) in
    omega (arith, tail)

pub returns-then-bodies-lt1 : goal.returns-then-bodies-lt1
returns-then-bodies-lt1 c small = ap (λ (n : ℕ). 8 + n) (nothing c.args.bodies.now (omega (arith, c.if-bodies-lt1.true)))
