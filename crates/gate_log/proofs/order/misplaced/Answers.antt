use Rattle.std.proofs.Common.{◌≡◌, ◌+◌, ◌∷◌, ℕ, List, length, drop, ap, ◌∙◌, sym, arith, true, false}
use Rattle.std.proofs.lemmas.List.{drop_all}
use Rattle.gate_log.specs.Generations.{is_generation as tagged, misplaced_from}
use Rattle.gate_log.specs.Journal.{laid}
use Rattle.gate_log.specs.Opened.{lists}
use Rattle.gate_log.proofs.Ordered.{here, further, nowhere, length-laid, lists_drop}
use Rattle.gate_log.proofs.order.misplaced.Goals as goal

pub returns-then-is_generation : goal.returns-then-is_generation
returns-then-is_generation c small =
    let vs = c.args.bodies.now in
    let i = c.loop-body.body-index in
    let body = c.body-item.result.items in
    let at : lists (drop i vs) ≡ body ∷ lists (drop (i + 1) vs) = lists_drop vs i c.body-item.result (omega arith) c.body-item.is in
    let is : tagged body ≡ true = ap tagged (sym c.deref.ensures.value) ∙ sym c.is_generation.ensures ∙ c.if-is_generation.true in
    sym
    (c.loop-body.invariant.so_far small ∙ ap (λ (l : List (List ℕ)). misplaced_from c.loop-body.at l) at
    ∙ here c.loop-body.at body (lists (drop (i + 1) vs)) is)

pub loop-body-preserved : goal.loop-body-preserved
loop-body-preserved c =
    let vs = c.args.bodies.now in
    let i = c.loop-body.body-index in
    let body = c.body-item.result.items in
    let rest = lists (drop (i + 1) vs) in
    let at : lists (drop i vs) ≡ body ∷ rest = lists_drop vs i c.body-item.result (omega arith) c.body-item.is in
    let is : tagged body ≡ false = ap tagged (sym c.deref.ensures.value) ∙ sym c.is_generation.ensures ∙ c.if-is_generation.false in
    record {
      so_far = λ small.
          let place = c.loop-body.invariant.place small in
          let more : c.loop-body.at + 5 + length body ≡ c.saturating_add-at.result =
          omega (arith, place, ap (λ (l : List (List ℕ)). length (laid l)) at, length-laid body rest, ap length c.deref.ensures.value) in
          c.loop-body.invariant.so_far small ∙ ap (λ (l : List (List ℕ)). misplaced_from c.loop-body.at l) at ∙ further c.loop-body.at body rest is
          ∙ ap (λ (p : ℕ). misplaced_from p rest) more;
      place = λ small.
          let place = c.loop-body.invariant.place small in
          omega (arith, place, ap (λ (l : List (List ℕ)). length (laid l)) at, length-laid body rest, ap length c.deref.ensures.value);
    }

pub returns : goal.returns
returns c small =
    sym
    (c.loop-body.invariant.so_far small
    ∙ ap (λ (l : List _). misplaced_from c.loop-body.at (lists l)) (drop_all c.loop-body.body-index c.args.bodies.now (omega arith))
    ∙ nowhere c.loop-body.at)
