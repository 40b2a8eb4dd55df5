-- A whole recording, read line by line.
use Rattle.std.proofs.Common.{◌≡◌, ◌≢◌, ℕ, ◌+◌, ◌≤◌, Option, None, Some, Result, Ok, Err, List, [], ◌∷◌, ◌++◌, length, refl, sym, ◌∙◌, ap, subst, arith}
use Rattle.std.proofs.lemmas.List.{length-append}
use Rattle.voting_config.specs.Ids.{Id}
use Rattle.voting_config.specs.Lists.{parts_of}
use Rattle.schedule_text.proofs.WordLaws.{parts_not_empty}
use Rattle.schedule_text.specs.declared.fault.ReadError.{ReadError}
use Rattle.schedule_text.specs.declared.fault.ReadError.TheVariants.{Bad, Memory}
use Rattle.world_model.specs.Histories.{IsLegal}
use Rattle.schedule_text.specs.Answers.{Answers}
use Rattle.trace_audit.specs.declared.auditing.Broken.{Broken}
use Rattle.trace_audit.specs.declared.auditing.Judgement.{Judgement}
use Rattle.trace_audit.specs.declared.auditor.Auditor.{Auditor}
use Rattle.trace_audit.specs.declared.auditor.Stop.{Stop}
use Rattle.trace_audit.specs.declared.auditor.Stop.TheVariants as stop
use Rattle.trace_audit.specs.declared.clause.Clause.{Clause}
use Rattle.recorded_trace.specs.declared.entry.Entry.{Entry}
use Rattle.recorded_trace.specs.declared.fault.BadTrace.{BadTrace}
use Rattle.recorded_trace.specs.declared.progress.Progress.{Progress}
use Rattle.trace_audit.specs.declared.verdict.Verdict.{Verdict}
use Rattle.recorded_trace.specs.Lines.{shown_at, header_at}
use Rattle.recorded_trace.specs.Reading.{Numbered, ◌>>>◌, after_line, end_at, first_progress, parts_read, in_line, lines_at, sized, with_entry as with_shown}
use Rattle.trace_audit.specs.Traced.{traced, with_entry}
use Rattle.trace_audit.specs.Clauses.{BreaksFirst}
use Rattle.trace_audit.specs.Verdicts.{IsRight, Judges}
use Rattle.trace_audit.specs.Stands.{Audits, SoFar, Takes, Judged, stopped_as, recorded_with, Counted, TakesLine}
use Rattle.trace_audit.proofs.Tracing.{traced_more, breaks, broken_more}

-- ---- one entry more

pub still_broken : (initial : List Id) (a : Auditor) (b : Broken) (xs ys : List Numbered) → SoFar initial a (Some b) xs → SoFar initial a (Some b) (xs ++ ys)
still_broken initial a b xs ys s = broken_more initial xs ys b.line b.clause s

pub one_more : (initial : List Id) (a : Auditor) (xs : List Numbered) (x : Numbered) → Audits initial a (with_entry (traced xs) x.entry) → SoFar initial a None (xs ++ x ∷ [])
one_more initial a xs x s = subst (λ h. Audits initial a h) (sym (traced_more xs x)) s

pub now_broken : (initial : List Id) (a : Auditor) (xs : List Numbered) (x : Numbered) (c : Clause) → IsLegal initial (traced xs) → BreaksFirst c initial (with_entry (traced xs) x.entry) → SoFar initial a (Some (record { line = x.line; clause = c })) (xs ++ x ∷ [])
now_broken initial a xs x c l b = breaks initial xs x c l b

pub stopped_so : (initial : List Id) (old new : Auditor) (xs : List Numbered) (x : Numbered) (s : Stop) → Audits initial old (traced xs) → Takes initial new (Err s) (with_entry (traced xs) x.entry) → Judged initial new (stopped_as s x.line) (xs ++ x ∷ [])
stopped_so initial old new xs x (stop.Broken c) a t = now_broken initial new xs x c a.legal t
stopped_so initial old new xs x stop.Memory a t = tt

-- a line that shows nothing
pub same_line : (initial : List Id) (a : Auditor) (p : Progress) (line : List ℕ) (xs : List Numbered) (j : Judgement) → in_line p (sized p line (shown_at line)) ≡ Ok None → SoFar initial a j.broken xs → j.entries ≡ length xs → TakesLine initial a p line xs (Ok j)
same_line initial a p line xs j e s n = (None, e, s, n)

-- a line that shows an entry
pub next_line : (initial : List Id) (a : Auditor) (p : Progress) (line : List ℕ) (xs : List Numbered) (x : Entry) (r : Result Judgement (ReadError BadTrace)) → in_line p (sized p line (shown_at line)) ≡ Ok (Some x) → Counted initial a r (xs ++ record { line = p.number; entry = x } ∷ []) → TakesLine initial a p line xs r
next_line initial a p line xs x (Ok j) e c = (Some x, e, c.0, c.1)
next_line initial a p line xs x (Err (Bad bad)) e c = absurd c
next_line initial a p line xs x (Err Memory) e c = tt

pub bad_line : (initial : List Id) (a : Auditor) (p : Progress) (line : List ℕ) (xs : List Numbered) (f : ReadError BadTrace) → Answers {A = Option Entry} (Err f) (in_line p (sized p line (shown_at line))) → TakesLine initial a p line xs (Err f)
bad_line initial a p line xs (Bad bad) e = e
bad_line initial a p line xs Memory e = tt

longer : (p : Progress) (xs : List Numbered) (told : Option Entry) → length (with_shown p xs told) ≤ length xs + 1
longer p xs None = omega arith
longer p xs (Some x) = omega (arith, length-append xs (record { line = p.number; entry = x } ∷ []))

pub few_more : (p : Progress) (xs : List Numbered) (told : Option Entry) → length xs ≤ p.number → length (with_shown p xs told) ≤ p.number + 1
few_more p xs told few = omega (arith, longer p xs told, few)

-- ---- the first line

first_by : (line : List ℕ) (parts : List (List ℕ)) (initial : List Id) → parts ≢ [] → in_line first_progress (sized first_progress line (header_at line)) ≡ Ok initial → parts_read (line ∷ parts) ≡ recorded_with initial (lines_at (after_line first_progress line) [] parts)
first_by line [] initial some e = absurd (some refl)
first_by line (w ∷ ws) initial some e = ap (λ (r : Result (List Id) BadTrace). r >>> λ i. recorded_with i (lines_at (after_line first_progress line) [] (w ∷ ws))) e

bad_by : (line : List ℕ) (parts : List (List ℕ)) (bad : BadTrace) → parts ≢ [] → in_line first_progress (sized first_progress line (header_at line)) ≡ Err bad → parts_read (line ∷ parts) ≡ Err bad
bad_by line [] bad some e = absurd (some refl)
bad_by line (w ∷ ws) bad some e = ap (λ (r : Result (List Id) BadTrace). r >>> λ i. recorded_with i (lines_at (after_line first_progress line) [] (w ∷ ws))) e

pub first_read : (line rest : List ℕ) (initial : List Id) → in_line first_progress (sized first_progress line (header_at line)) ≡ Ok initial → parts_read (line ∷ parts_of 10 rest) ≡ recorded_with initial (lines_at (after_line first_progress line) [] (parts_of 10 rest))
first_read line rest initial e = first_by line (parts_of 10 rest) initial (parts_not_empty 10 rest) e

pub first_bad : (line rest : List ℕ) (bad : BadTrace) → in_line first_progress (sized first_progress line (header_at line)) ≡ Err bad → parts_read (line ∷ parts_of 10 rest) ≡ Err bad
first_bad line rest bad e = bad_by line (parts_of 10 rest) bad (parts_not_empty 10 rest) e

-- ---- the lines

whole : {A : Type 0} → A → Result A BadTrace
whole x = Ok x

behind : Progress → List Numbered → List ℕ → List (List ℕ) → Option Entry → Result (List Numbered) BadTrace
behind p prefix line parts told = lines_at (after_line p line) (with_shown p prefix told) parts

line_by_line : (p : Progress) (prefix : List Numbered) (line : List ℕ) (parts : List (List ℕ)) → parts ≢ [] → lines_at p prefix (line ∷ parts) ≡ (in_line p (sized p line (shown_at line)) >>> behind p prefix line parts)
unfolding behind
line_by_line p prefix line [] some = absurd (some refl)
line_by_line p prefix line (w ∷ ws) some = refl

-- a line that shows this is read, and the rest is left
pub read_one : (p : Progress) (prefix : List Numbered) (line rest : List ℕ) (told : Option Entry) → in_line p (sized p line (shown_at line)) ≡ Ok told
    → lines_at p prefix (line ∷ parts_of 10 rest) ≡ lines_at (after_line p line) (with_shown p prefix told) (parts_of 10 rest)
unfolding behind
read_one p prefix line rest told e =
    line_by_line p prefix line (parts_of 10 rest) (parts_not_empty 10 rest)
    ∙ ap (λ (r : Result (Option Entry) BadTrace). r >>> behind p prefix line (parts_of 10 rest)) e

-- a bad line is the first one
pub bad_one : (p : Progress) (prefix : List Numbered) (line rest : List ℕ) (bad : BadTrace) → in_line p (sized p line (shown_at line)) ≡ Err bad
    → lines_at p prefix (line ∷ parts_of 10 rest) ≡ Err bad
unfolding behind
bad_one p prefix line rest bad e =
    line_by_line p prefix line (parts_of 10 rest) (parts_not_empty 10 rest)
    ∙ ap (λ (r : Result (Option Entry) BadTrace). r >>> behind p prefix line (parts_of 10 rest)) e

-- ---- the end

ends : (p : Progress) (line : List ℕ) (prefix : List Numbered) → end_at {A = Unit {0}} p line tt ≡ Ok tt → end_at p line prefix ≡ Ok prefix
ends p [] prefix e = refl
ends p (b ∷ bs) prefix e = absurd cc

pub judged_end : (initial : List Id) (p : Progress) (line : List ℕ) (prefix : List Numbered) (read : Result (List Numbered) BadTrace) (v : Verdict)
    → lines_at p prefix (line ∷ []) ≡ read → end_at {A = Unit {0}} p line tt ≡ Ok tt → IsRight (record { initial = initial; entries = prefix }) v → Judges (Ok v) (recorded_with initial read)
judged_end initial p line prefix read v same e right =
    (record { initial = initial; entries = prefix }, ap (recorded_with initial) (sym same ∙ ends p line prefix e), right)
