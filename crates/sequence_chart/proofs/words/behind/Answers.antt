use Rattle.std.proofs.Common.{◌≡◌, List, ℕ, drop, sym, ap, ◌∙◌}
use Rattle.std.specs.List.{join_with_byte}
use Rattle.voting_config.specs.Lists.{parts_in}
use Rattle.schedule_text.proofs.WordLaws.{join_split}
use Rattle.sequence_chart.proofs.words.behind.Goals as goal

pub returns-in-Some : goal.returns-in-Some
returns-in-Some c =
    sym (join_split c.args.at _)
    ∙ ap (λ r. join_with_byte c.args.at (parts_in c.args.at r)) (sym c.in-Some.is)
    ∙ ap (λ (ps : List (List ℕ)). join_with_byte c.args.at (drop 1 ps)) (sym c.cut.ensures.parts)
