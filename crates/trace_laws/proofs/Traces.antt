-- Lines that are read one by one are read whole.
use Rattle.std.proofs.Common.{◌≡◌, ◌≢◌, ℕ, Result, Ok, List, [], ◌∷◌, ◌++◌, refl, sym, ap, ◌∙◌, append-nil, append_assoc}
use Rattle.schedule_text.specs.declared.fault.WhyBad.{WhyBad}
use Rattle.schedule_text.specs.Words.{◌>>=◌}
use Rattle.voting_config.specs.Lists.{parts_of}
use Rattle.schedule_text.proofs.WordLaws.{split_first, parts_not_empty}
use Rattle.trace_reader.specs.declared.fault.BadTrace.{BadTrace}
use Rattle.trace_reader.specs.declared.progress.Progress.{Progress}
use Rattle.trace_reader.specs.declared.said.Said.{Said}
use Rattle.trace_reader.specs.declared.said.TraceLine.{TraceLine}
use Rattle.trace_reader.specs.Reading.{◌>>>◌, after_line, in_line, line_at, lines_at, said_at}
use Rattle.trace_laws.specs.Laws.{AreRead, LawTrace}
use Rattle.trace_laws.specs.Laws.AreRead.{Nothing, Read}
use Rattle.line_laws.proofs.Cuts.{done}

abbrev whole : {A : Type 0} → A → Result A BadTrace
whole x = Ok x

-- the lines behind a line
behind : Progress → List TraceLine → List ℕ → List (List ℕ) → TraceLine → Result (List TraceLine) BadTrace
behind p prefix line parts l = lines_at (after_line p line l.said) (prefix ++ l ∷ []) parts

line_by_line : (p : Progress) (prefix : List TraceLine) (line : List ℕ) (parts : List (List ℕ)) → parts ≢ [] → lines_at p prefix (line ∷ parts) ≡ (line_at p line >>> behind p prefix line parts)
unfolding behind
line_by_line p prefix line [] some = absurd (some refl)
line_by_line p prefix line (w ∷ ws) some = refl

line_told : (p : Progress) (line : List ℕ) (t : Said) → said_at p line ≡ Ok t → line_at p line ≡ whole (record { text = line; said = t })
line_told p line t e = ap (λ (r : Result Said WhyBad). in_line p (r >>= λ (u : Said). done {A = TraceLine} (record { text = line; said = u }))) e

lines_read : {p : Progress} (prefix : List TraceLine) {bytes : List ℕ} {lines : List TraceLine} → AreRead p bytes lines → lines_at p prefix (parts_of 10 bytes) ≡ whole (prefix ++ lines)
unfolding behind
lines_read prefix (Nothing p) = ap (λ (t : List TraceLine). whole t) (sym (append-nil prefix))
lines_read prefix (Read p line more t rest alone tells others) =
    let l : TraceLine = record { text = line; said = t } in
    ap (lines_at p prefix) (split_first 10 line more alone)
    ∙ line_by_line p prefix line (parts_of 10 more) (parts_not_empty 10 more)
    ∙ ap (λ (r : Result TraceLine BadTrace). r >>> behind p prefix line (parts_of 10 more)) (line_told p line t tells)
    ∙ lines_read (prefix ++ l ∷ []) others
    ∙ ap (λ (x : List TraceLine). whole x) (append_assoc prefix (l ∷ []) rest)

pub trace_read : LawTrace
trace_read bytes lines all = lines_read [] all
