use Rattle.std.proofs.Common.{◌≡◌, ◌+◌, ◌∷◌, List, drop, ap, ◌∙◌, sym, arith, true, false}
use Rattle.std.specs.Prelude.{not, ◌||◌}
use Rattle.std.proofs.lemmas.List.{drop_all}
use Rattle.gate_log.specs.Opened.{lists}
use Rattle.state_journal.specs.Bodies.{is_guarded as guarded_body, holds_old}
use Rattle.state_journal.proofs.Folds.{lists_drop}
use Rattle.state_journal.proofs.journal.holds_old.Goals as goal

pub returns-then-not-is_guarded : goal.returns-then-not-is_guarded
returns-then-not-is_guarded c =
    let vs = c.args.bodies.now in
    let i = c.loop-body.body-index in
    let body = c.body-item.result.items in
    let rest = lists (drop (i + 1) vs) in
    let here : lists (drop i vs) ≡ body ∷ rest = lists_drop vs i c.body-item.result (omega arith) c.body-item.is in
    let old : guarded_body body ≡ false = ap guarded_body (sym c.deref.ensures.value) ∙ sym c.is_guarded.ensures ∙ c.if-not-is_guarded.true in
    sym (c.loop-body.invariant ∙ ap holds_old here ∙ (λ k. not (old k) || holds_old rest))

pub loop-body-preserved : goal.loop-body-preserved
loop-body-preserved c =
    let vs = c.args.bodies.now in
    let i = c.loop-body.body-index in
    let body = c.body-item.result.items in
    let rest = lists (drop (i + 1) vs) in
    let here : lists (drop i vs) ≡ body ∷ rest = lists_drop vs i c.body-item.result (omega arith) c.body-item.is in
    let new : guarded_body body ≡ true = ap guarded_body (sym c.deref.ensures.value) ∙ sym c.is_guarded.ensures ∙ c.if-not-is_guarded.false in
    c.loop-body.invariant ∙ ap holds_old here ∙ (λ k. not (new k) || holds_old rest)

pub returns : goal.returns
returns c = sym (c.loop-body.invariant ∙ ap (λ (l : List _). holds_old (lists l)) (drop_all c.loop-body.body-index c.args.bodies.now (omega arith)))
