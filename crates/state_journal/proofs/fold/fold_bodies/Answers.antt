use Rattle.std.proofs.Common.{◌≡◌, ◌+◌, ◌∷◌, ℕ, Bool, List, Ok, length, drop, ap, ◌∙◌, sym, subst, arith}
use Rattle.std.proofs.lemmas.List.{drop_all}
use Rattle.gate_log.specs.Opened.{lists}
use Rattle.state_journal.specs.Bodies.{is_guarded}
use Rattle.state_journal.specs.Journal.{with_body, folded_from}
use Rattle.state_journal.specs.Reads.{IsFoldError}
use Rattle.state_journal.proofs.Folds.{fold_step, fold_fault, fold_end, lists_drop}
use Rattle.state_journal.proofs.fold.fold_bodies.Goals as goal

pub returns-in-Err-clause-reads : goal.returns-in-Err-clause-reads
returns-in-Err-clause-reads c =
    let vs = c.args.bodies.now in
    let i = c.loop-body.body-index in
    let body = c.body-item.result.items in
    let here : lists (drop i vs) ≡ body ∷ lists (drop (i + 1) vs) = lists_drop vs i c.body-item.result (omega arith) c.body-item.is in
    let reads = subst (λ (l : List ℕ). IsFoldError c.in-Err.error (with_body c.loop-body.at c.loop-body.after c.loop-body.kept l)) c.deref.ensures.value c.in-Err.ensures.fault in
    subst (IsFoldError c.in-Err.error) (sym (c.loop-body.invariant.so_far ∙ ap (λ (l : List (List ℕ)). folded_from c.loop-body.at c.loop-body.after c.loop-body.kept l) here))
    (fold_fault c.loop-body.at c.loop-body.after c.loop-body.kept body (lists (drop (i + 1) vs)) c.in-Err.error reads)

pub loop-body-preserved : goal.loop-body-preserved
loop-body-preserved c =
    let vs = c.args.bodies.now in
    let i = c.loop-body.body-index in
    let body = c.body-item.result.items in
    let rest = lists (drop (i + 1) vs) in
    let here : lists (drop i vs) ≡ body ∷ rest = lists_drop vs i c.body-item.result (omega arith) c.body-item.is in
    let reads = subst (λ (l : List ℕ). with_body c.loop-body.at c.loop-body.after c.loop-body.kept l ≡ Ok c.add_body.new.kept) c.deref.ensures.value c.in-Ok.ensures.next in
    let now : is_guarded body ≡ c.is_guarded-after.result = sym (c.is_guarded-after.ensures ∙ ap is_guarded c.deref-in-loop-body.ensures.value) in
    let more : c.loop-body.at + 5 + length body ≡ c.in-Some.next = omega (arith, c.in-Some.ensures.1, c.len.ensures, c.body-item.result.ok.0) in
    record {
      fit = c.in-Ok.ensures.fit;
      so_far =
          c.loop-body.invariant.so_far ∙ ap (λ (l : List (List ℕ)). folded_from c.loop-body.at c.loop-body.after c.loop-body.kept l) here ∙ fold_step c.loop-body.at c.loop-body.after c.loop-body.kept c.add_body.new.kept body rest reads
          ∙ ap (λ (p : ℕ). folded_from p (is_guarded body) c.add_body.new.kept rest) more ∙ ap (λ (after : Bool). folded_from c.in-Some.next after c.add_body.new.kept rest) now;
    }

pub returns-clause-reads : goal.returns-clause-reads
returns-clause-reads c =
    c.loop-body.invariant.so_far ∙ ap (λ (l : List _). folded_from c.loop-body.at c.loop-body.after c.loop-body.kept (lists l)) (drop_all c.loop-body.body-index c.args.bodies.now (omega arith)) ∙ fold_end c.loop-body.at c.loop-body.after c.loop-body.kept
