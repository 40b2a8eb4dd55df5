use Rattle.std.proofs.Common.{◌≡◌, ◌++◌, ◌∙◌, List, ℕ, OnOk, ap, subst, append_assoc, codes, decimal}
use Rattle.node_loop.proofs.lines.write_kind.Goals as goal

pub returns : goal.returns
returns c =
    let word = codes "UnknownKind(" in
    let kind = decimal c.args.kind in
    let so_far : c.number.new.self ≡ c.args.text.now ++ (word ++ kind) =
    c.in_ok-number.ensures ∙ ap (λ (t : List ℕ). t ++ kind) c.in_ok-word.ensures ∙ append_assoc c.args.text.now word kind in
    let whole : c.number.new.self ++ codes ")" ≡ c.args.text.now ++ ((word ++ kind) ++ codes ")") = ap (λ (t : List
    ℕ). t ++ codes ")") so_far ∙ append_assoc c.args.text.now (word ++ kind) (codes ")") in
    subst (λ (t : List ℕ). OnOk c.word-2.result (c.word-2.new.self ≡ t)) whole c.word-2.ensures
