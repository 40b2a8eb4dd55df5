-- What stands in a text after the header line of the voting-only nodes.
use Rattle.std.proofs.Common.{◌≡◌, false, Result, OnOk, subst, List, [], ◌∷◌, ◌++◌, length, sym, ◌∙◌, ℕ, append_assoc}
use Rattle.std.proofs.lemmas.List.{append-nil}
use Rattle.std.specs.Prelude.{codes, ◌==◌}
use Rattle.voting_config.specs.Ids.{Id}
use Rattle.voting_config.specs.Lists.{list_text}
use Rattle.text.proofs.Written.{three_written}
use Rattle.schedule_text.specs.Spelled.{voting_only_lines, with_feeds}

-- that header line, with its line feed
pub voting_only_written : {A E : Type 0} (r : Result A E) (ids : List Id) (old first second new : List ℕ) → (length ids == 0) ≡ false → first ≡ old ++ codes "voting-only " → second ≡ first ++ list_text ids → OnOk r (new ≡ second ++ codes "\n")
    → OnOk r (new ≡ old ++ with_feeds (voting_only_lines ids))
voting_only_written r [] old first second new some e f g = absurd (cc)
voting_only_written r (x ∷ xs) old first second new some e f g =
    let text = list_text (x ∷ xs) in
    let same : codes "voting-only " ++ (text ++ codes "\n") ≡ with_feeds (voting_only_lines (x ∷ xs)) =
    sym (append_assoc (codes "voting-only ") text (codes "\n")) ∙ sym (append-nil ((codes "voting-only " ++ text) ++ codes "\n")) in
    subst (λ (t : List ℕ). OnOk r (new ≡ old ++ t)) same (three_written r old first second new (codes "voting-only ") text (codes "\n") e f g)
