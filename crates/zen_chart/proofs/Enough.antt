-- One byte more than a trace has is enough to read: the rest of the bytes changes nothing of what they are.
use Rattle.std.proofs.Common.{◌≡◌, ◌≢◌, ℕ, zero, suc, ◌+◌, ◌-◌, ◌<◌, ◌≤◌, Bool, true, false, not, Result, Ok, Err, List, [], ◌∷◌, ◌++◌, length, take, refl, sym, ap, ◌∙◌, arith, append-nil, ⊎_elim}
use Rattle.std.specs.Prelude.{◌==◌}
use Rattle.std.specs.List.{join_with_byte, list_all}
use Rattle.std.proofs.Math.Seq.{take-append-add}
use Rattle.std.proofs.lemmas.Bool.{and_from, and_parts, cases_lt, lt-ltb}
use Rattle.std.proofs.lemmas.List.{length-append, length-take, take_all, take-append-le}
use Rattle.voting_config.specs.Lists.{parts_of}
use Rattle.schedule_text.specs.declared.fault.WhyBad.TheVariants as why
use Rattle.schedule_text.proofs.WordLaws.{join_split, lacks, parts_lack, parts_not_empty, split_alone, split_first}
use Rattle.trace_reader.specs.declared.fault.BadTrace.{BadTrace}
use Rattle.trace_reader.specs.declared.progress.Progress.{Progress}
use Rattle.trace_reader.specs.declared.said.TraceLine.{TraceLine}
use Rattle.trace_reader.specs.Limits.{most_trace_bytes}
use Rattle.trace_reader.specs.Reading.{◌>>>◌, after_line, end_at, first_progress, line_at, lines_at, trace_at}
use Rattle.zen_chart.specs.Reading.{read_of}

-- ---- lists

lacks_take : (q : ℕ → Bool) (n : ℕ) (xs : List ℕ) → list_all q xs ≡ true → list_all q (take n xs) ≡ true
lacks_take q zero xs h = refl
lacks_take q (suc n) [] h = refl
lacks_take q (suc n) (x ∷ xs) h = let parts = and_parts (q x) (list_all q xs) h in and_from (q x) (list_all q (take n xs)) parts.0 (lacks_take q n xs parts.1)

-- ---- lines that are too long

abbrev too_big : Progress → BadTrace
too_big p = record { line = p.number; why = why.TooBig }

-- a line that reaches past the greatest size with its line feed
long_line : (p : Progress) (line : List ℕ) → most_trace_bytes < p.before + length line + 1 → line_at p line ≡ Err (too_big p)
long_line p line past = rw (lt-ltb most_trace_bytes (p.before + length line + 1) past) refl

-- a last line that reaches past it without one
long_end : {A : Type 0} (p : Progress) (line : List ℕ) (x : A) → 0 < length line → most_trace_bytes < p.before + length line → end_at p line x ≡ Err (too_big p)
long_end p [] x some past = absurd (omega (arith, some))
long_end p (b ∷ bs) x some past = rw (lt-ltb most_trace_bytes (p.before + length (b ∷ bs)) past) refl

-- ---- a line and those after it

abbrev rest_at : Progress → List TraceLine → List ℕ → List (List ℕ) → TraceLine → Result (List TraceLine) BadTrace
rest_at p prefix line parts l = lines_at (after_line p line l.said) (prefix ++ l ∷ []) parts

line_first : (p : Progress) (prefix : List TraceLine) (line : List ℕ) (parts : List (List ℕ)) → parts ≢ [] → lines_at p prefix (line ∷ parts) ≡ line_at p line >>> rest_at p prefix line parts
line_first p prefix line [] some = absurd (some refl)
line_first p prefix line (next ∷ more) some = refl

-- a line that is refused
refused_first : (p : Progress) (prefix : List TraceLine) (line : List ℕ) (parts : List (List ℕ)) → parts ≢ [] → most_trace_bytes < p.before + length line + 1 → lines_at p prefix (line ∷ parts) ≡ Err (too_big p)
refused_first p prefix line parts some past = line_first p prefix line parts some ∙ ap (λ (r : Result TraceLine BadTrace). r >>> rest_at p prefix line parts) (long_line p line past)

same_rest : (r : Result TraceLine BadTrace) (f g : TraceLine → Result (List TraceLine) BadTrace) → ((l : TraceLine) → f l ≡ g l) → (r >>> f) ≡ (r >>> g)
same_rest (Ok l) f g same = same l
same_rest (Err bad) f g same = refl

-- ---- cutting

-- the bytes that may still come
abbrev left_over : Progress → ℕ
left_over p = most_trace_bytes + 1 - p.before

abbrev cut_lines : Progress → List TraceLine → List ℕ → Result (List TraceLine) BadTrace
cut_lines p prefix bytes = lines_at p prefix (parts_of 10 (take (left_over p) bytes))

-- what is left of a line and what comes after it, where the line is whole
cut_after : (p : Progress) (prefix : List TraceLine) (line rest : List ℕ) → lacks 10 line ≡ true → p.before + length line ≤ most_trace_bytes
    → cut_lines p prefix (line ++ (10 ∷ rest)) ≡ lines_at p prefix (line ∷ parts_of 10 (take (most_trace_bytes + 1 - (p.before + length line + 1)) rest))
cut_after p prefix line rest lack fits =
    let more : ℕ = most_trace_bytes + 1 - (p.before + length line + 1) in
    let count : left_over p ≡ length line + suc more = omega (arith, fits) in
    let whole : take (left_over p) (line ++ (10 ∷ rest)) ≡ line ++ (10 ∷ take more rest) =
    ap (λ (n : ℕ). take n (line ++ (10 ∷ rest))) count ∙ take-append-add line (10 ∷ rest) (suc more) in
    ap (λ (bs : List ℕ). lines_at p prefix (parts_of 10 bs)) whole
    ∙ ap (λ (ps : List (List ℕ)). lines_at p prefix ps) (split_first 10 line (take more rest) lack)

-- a line that is not whole any more
cut_inside : (p : Progress) (prefix : List TraceLine) (line rest : List ℕ) → lacks 10 line ≡ true → p.before ≤ most_trace_bytes → most_trace_bytes < p.before + length line
    → cut_lines p prefix (line ++ rest) ≡ Err (too_big p)
cut_inside p prefix line rest lack few past =
    let short : left_over p ≤ length line = omega (arith, past) in
    let kept : List ℕ = take (left_over p) line in
    let long : length kept ≡ left_over p = omega (arith, length-take (left_over p) line, short) in
    ap (λ (bs : List ℕ). lines_at p prefix (parts_of 10 bs)) (take-append-le (left_over p) line rest short)
    ∙ ap (λ (ps : List (List ℕ)). lines_at p prefix ps) (split_alone 10 kept (lacks_take (λ b. not (b == 10)) (left_over p) line lack))
    ∙ long_end p kept prefix (omega (arith, long, few)) (omega (arith, long, few))

same_cut : (p : Progress) (prefix : List TraceLine) (parts : List (List ℕ)) → list_all (lacks 10) parts ≡ true → p.before ≤ most_trace_bytes
    → cut_lines p prefix (join_with_byte 10 parts) ≡ lines_at p prefix parts
same_cut p prefix [] lack few = ap (λ (bs : List ℕ). lines_at p prefix (parts_of 10 bs)) (take_all (left_over p) [] (omega arith))
same_cut p prefix (line ∷ []) lack few =
    let lack_line : lacks 10 line ≡ true = (and_parts (lacks 10 line) true lack).0 in
    let whole : p.before + length line ≤ most_trace_bytes → cut_lines p prefix line ≡ lines_at p prefix (line ∷ []) = λ fits.
    ap (λ (bs : List ℕ). lines_at p prefix (parts_of 10 bs)) (take_all (left_over p) line (omega (arith, fits)))
    ∙ ap (λ (ps : List (List ℕ)). lines_at p prefix ps) (split_alone 10 line lack_line) in
    let cut : most_trace_bytes < p.before + length line → cut_lines p prefix line ≡ lines_at p prefix (line ∷ []) = λ past.
    ap (λ (bs : List ℕ). cut_lines p prefix bs) (sym (append-nil line))
    ∙ cut_inside p prefix line [] lack_line few past
    ∙ sym (long_end p line prefix (omega (arith, few, past)) past) in
    ⊎_elim cut whole (cases_lt most_trace_bytes (p.before + length line))
same_cut p prefix (line ∷ next ∷ more) lack few =
    let parts = and_parts (lacks 10 line) (list_all (lacks 10) (next ∷ more)) lack in
    let rest : List ℕ = join_with_byte 10 (next ∷ more) in
    let cut_rest : List (List ℕ) = parts_of 10 (take (most_trace_bytes + 1 - (p.before + length line + 1)) rest) in
    let some : cut_rest ≢ [] = parts_not_empty 10 (take (most_trace_bytes + 1 - (p.before + length line + 1)) rest) in
    let others : (next ∷ more) ≢ [] = λ e. absurd cc in
    let fits : p.before + length line + 1 ≤ most_trace_bytes → cut_lines p prefix (line ++ (10 ∷ rest)) ≡ lines_at p prefix (line ∷ next ∷ more) = λ within.
    cut_after p prefix line rest parts.0 (omega (arith, within))
    ∙ line_first p prefix line cut_rest some
    ∙ same_rest (line_at p line) (rest_at p prefix line cut_rest) (rest_at p prefix line (next ∷ more)) (λ l. same_cut (after_line p line l.said) (prefix ++ l ∷ []) (next ∷ more) parts.1 within) in
    let kept : p.before + length line ≤ most_trace_bytes → most_trace_bytes < p.before + length line + 1 → cut_lines p prefix (line ++ (10 ∷ rest)) ≡ Err (too_big p) = λ within past.
    cut_after p prefix line rest parts.0 within ∙ refused_first p prefix line cut_rest some past in
    let big : most_trace_bytes < p.before + length line + 1 → cut_lines p prefix (line ++ (10 ∷ rest)) ≡ lines_at p prefix (line ∷ next ∷ more) = λ past.
    ⊎_elim (λ inside. cut_inside p prefix line (10 ∷ rest) parts.0 few inside) (λ within. kept within past) (cases_lt most_trace_bytes (p.before + length line))
    ∙ sym (refused_first p prefix line (next ∷ more) others past) in
    ⊎_elim big fits (cases_lt most_trace_bytes (p.before + length line + 1))

-- what is read of the bytes is what they are
pub read_enough : (bytes : List ℕ) → trace_at (read_of bytes) ≡ trace_at bytes
read_enough bytes =
    let same : cut_lines first_progress [] (join_with_byte 10 (parts_of 10 bytes)) ≡ trace_at bytes = same_cut first_progress [] (parts_of 10 bytes) (parts_lack 10 bytes) (omega arith) in
    ap (λ (bs : List ℕ). cut_lines first_progress [] bs) (sym (join_split 10 bytes)) ∙ same

-- ---- a trace is within its limit

after_ok : (r : Result TraceLine BadTrace) (f : TraceLine → Result (List TraceLine) BadTrace) (ls : List TraceLine) → (r >>> f) ≡ Ok ls → (l : TraceLine) × (f l ≡ Ok ls)
after_ok (Ok l) f ls e = (l, e)
after_ok (Err bad) f ls e = absurd cc

lines_short : (p : Progress) (prefix : List TraceLine) (parts : List (List ℕ)) (ls : List TraceLine) → p.before ≤ most_trace_bytes → lines_at p prefix parts ≡ Ok ls
    → p.before + length (join_with_byte 10 parts) ≤ most_trace_bytes
lines_short p prefix [] ls few e = omega (arith, few)
lines_short p prefix ([] ∷ []) ls few e = omega (arith, few)
lines_short p prefix ((b ∷ bs) ∷ []) ls few e = absurd cc
lines_short p prefix (line ∷ next ∷ more) ls few e =
    let rest : List ℕ = join_with_byte 10 (next ∷ more) in
    let others : (next ∷ more) ≢ [] = λ none. absurd cc in
    let long : length (line ++ (10 ∷ rest)) ≡ length line + (1 + length rest) = length-append line (10 ∷ rest) ∙ ap (λ (n : ℕ). length line + n) (omega arith) in
    let fits : p.before + length line + 1 ≤ most_trace_bytes → p.before + length (line ++ (10 ∷ rest)) ≤ most_trace_bytes = λ within.
    let ok = after_ok (line_at p line) (rest_at p prefix line (next ∷ more)) ls e in
    let behind : p.before + length line + 1 + length rest ≤ most_trace_bytes = lines_short (after_line p line ok.0.said) (prefix ++ ok.0 ∷ []) (next ∷ more) ls within ok.1 in
    omega (arith, behind, long) in
    ⊎_elim (λ past. let bad : Err (too_big p) ≡ Ok ls = sym (refused_first p prefix line (next ∷ more) others past) ∙ e in absurd cc) fits (cases_lt most_trace_bytes (p.before + length line + 1))

pub trace_short : (bytes : List ℕ) (ls : List TraceLine) → trace_at bytes ≡ Ok ls → length bytes ≤ most_trace_bytes
trace_short bytes ls e =
    let short : 0 + length (join_with_byte 10 (parts_of 10 bytes)) ≤ most_trace_bytes = lines_short first_progress [] (parts_of 10 bytes) ls (omega arith) e in
    omega (arith, short, ap (λ (bs : List ℕ). length bs) (join_split 10 bytes))
