-- What stands in a text after a change_of_stroke of a loop that writes.
use Rattle.std.proofs.Common.{◌≡◌, ℕ, ◌+◌, ◌<◌, Result, OnOk, List, ◌++◌, length, drop, get_or, sym, ap, ◌∙◌, subst, append_assoc}
use Rattle.std.specs.List.{flat_map}
use Rattle.std.proofs.lemmas.List.{at_drop_more}
use Rattle.trace_reader.specs.declared.said.TraceLine.{TraceLine}
use Rattle.sequence_chart.specs.declared.rows.Cursor.{Cursor}
use Rattle.sequence_chart.specs.Rows.{after, walk}

-- two writes, one after the other
pub then_written : (old mid new a b : List ℕ) → mid ≡ old ++ a → new ≡ mid ++ b → new ≡ old ++ (a ++ b)
then_written old mid new a b first second = second ∙ ap (λ (t : List ℕ). t ++ b) first ∙ append_assoc old a b

-- the last write of a call
pub last_written : {A E : Type 0} (r : Result A E) (old mid new a b : List ℕ) → mid ≡ old ++ a → OnOk r (new ≡ mid ++ b) → OnOk r (new ≡ old ++ (a ++ b))
last_written r old mid new a b first second = subst (λ (t : List ℕ). OnOk r (new ≡ t)) (ap (λ (t : List ℕ). t ++ b) first ∙ append_assoc old a b) second

-- a change_of_stroke that writes what an element of a list gives
pub item_written : {A : Type 0} (f : A → List ℕ) (xs : List A) (i : ℕ) (x : A) (old new whole : List ℕ)
    → i < length xs → x ≡ get_or xs i x → old ++ flat_map f (drop i xs) ≡ whole → new ≡ old ++ f x → new ++ flat_map f (drop (i + 1) xs) ≡ whole
item_written {A} f xs i x old new whole inside is before writes =
    let rest : List ℕ = flat_map f (drop (i + 1) xs) in
    ap (λ (t : List ℕ). t ++ rest) writes
    ∙ append_assoc old (f x) rest
    ∙ ap (λ (y : A). old ++ (f y ++ rest)) is
    ∙ sym (at_drop_more (λ (ys : List A). old ++ flat_map f ys) xs i x inside)
    ∙ before

-- a change_of_stroke that writes what a line gives at its place
pub line_written : (f : Cursor → TraceLine → List ℕ) (c next : Cursor) (lines : List TraceLine) (i : ℕ) (l : TraceLine) (old new whole : List ℕ)
    → i < length lines → l ≡ get_or lines i l → next ≡ after c l.said → old ++ walk f c (drop i lines) ≡ whole → new ≡ old ++ f next l
    → new ++ walk f next (drop (i + 1) lines) ≡ whole
line_written f c next lines i l old new whole inside is place before writes =
    let rest : Cursor → List ℕ = λ d. walk f d (drop (i + 1) lines) in
    let at : Cursor → TraceLine → List ℕ = λ d m. old ++ (f d m ++ rest d) in
    ap (λ (t : List ℕ). t ++ rest next) writes
    ∙ append_assoc old (f next l) (rest next)
    ∙ ap (λ (d : Cursor). at d l) place
    ∙ ap (λ (m : TraceLine). at (after c m.said) m) is
    ∙ sym (at_drop_more (λ (ms : List TraceLine). old ++ walk f c ms) lines i l inside)
    ∙ before
