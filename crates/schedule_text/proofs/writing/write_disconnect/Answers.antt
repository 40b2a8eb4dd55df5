use Rattle.std.proofs.Common.{◌++◌, ◌∷◌, [], ◌∙◌, ap, List, ℕ, append_assoc}
use Rattle.std.specs.Prelude.{codes}
use Rattle.std.proofs.lemmas.Result.{on_ok_weaker}
use Rattle.text.proofs.Written.{three_written}
use Rattle.schedule_text.proofs.writing.write_disconnect.Goals as goal

pub returns : goal.returns
returns c =
    let text : List ℕ = c.args.text.now in
    let verb : List ℕ = codes "disconnect " in
    let node : List ℕ = c.args.node.now in
    let peer : List ℕ = c.args.peer.now in
    on_ok_weaker c.lent_id.result (λ h. h ∙ ap (λ (t : List ℕ). text ++ (verb ++ t)) (append_assoc node (32 ∷ []) peer))
    (three_written c.lent_id.result text c.word.new.self c.id_and.new.self c.lent_id.new.self verb (node ++ 32 ∷ []) peer c.in_ok-word.ensures c.in_ok-id_and.ensures
    (on_ok_weaker c.lent_id.result (λ h. h ∙ ap (λ (p : List ℕ). c.id_and.new.self ++ p) c.get.ensures) c.lent_id.ensures))
