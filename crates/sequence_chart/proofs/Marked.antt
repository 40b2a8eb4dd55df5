-- What stands in a text after a label.
use Rattle.std.proofs.Common.{◌≡◌, ℕ, ◌+◌, ◌-◌, Result, OnOk, List, ◌++◌, length, subst, ap, ◌∙◌}
use Rattle.text.proofs.Written.{three_written}
use Rattle.trace_reader.specs.declared.said.TraceLine.{TraceLine}
use Rattle.sequence_chart.specs.Elements.{label, label_text, line_of, mark, paper}
use Rattle.sequence_chart.specs.Labels.{label_of}
use Rattle.sequence_chart.specs.Rows.{y_of}

-- a mark, what hides the arrows behind its words, and the words
pub label_written : {A E : Type 0} (r : Result A E) (left row y cells : ℕ) (l : TraceLine) (old marked hidden new : List ℕ)
    → y ≡ y_of row → cells ≡ length (label_of l) → marked ≡ old ++ mark (line_of left) y l → hidden ≡ marked ++ paper (left + 37) (y - 6) cells
    → OnOk r (new ≡ hidden ++ label_text (left + 38) (y + 3) l) → OnOk r (new ≡ old ++ label left row l)
label_written r left row y cells l old marked hidden new high wide first second third =
    let whole : ℕ → ℕ → List ℕ = λ v n. old ++ (mark (line_of left) v l ++ (paper (left + 37) (v - 6) n ++ label_text (left + 38) (v + 3) l)) in
    let same : whole y cells ≡ whole (y_of row) (length (label_of l)) = ap (λ (n : ℕ). whole y n) wide ∙ ap (λ (v : ℕ). whole v (length (label_of l))) high in
    subst (λ (t : List ℕ). OnOk r (new ≡ t)) same
    (three_written r old marked hidden new (mark (line_of left) y l) (paper (left + 37) (y - 6) cells) (label_text (left + 38) (y + 3) l) first second third)
