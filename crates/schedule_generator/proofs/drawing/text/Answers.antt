use Rattle.std.proofs.Common.{◌≡◌, true, ◌++◌, List, ℕ, arith, ap, ◌∙◌, subst, sym}
use Rattle.std.specs.Prelude.{codes, decimal}
use Rattle.voting_config.specs.Ids.{is_id}
use Rattle.schedule_generator.specs.Drawn.{text_of}
use Rattle.schedule_generator.proofs.StepTexts.{found, is_text}
use Rattle.schedule_generator.proofs.drawing.text.Goals as goal

pub unreachable-requires : goal.unreachable-requires
unreachable-requires c =
    let same : c.as_bytes.result.now ≡ text_of c.args.step =
    c.as_bytes.ensures ∙ c.in_ok-number.ensures ∙ ap (λ (t : List ℕ). t ++ decimal c.args.step) (c.in_ok-word.ensures ∙ ap (λ (t : List ℕ). t ++ codes "s") c.new-word.ensures) in
    let is : is_id c.as_bytes.result.now ≡ true = subst (λ (t : List ℕ). is_id t ≡ true) (sym same) (is_text c.args.step (omega arith)) in
    let found = found c.as_bytes.result.now c.from_bytes.result is c.from_bytes.ensures in
    absurd cc
