-- Lines that are read one by one are read whole.
use Rattle.std.proofs.Common.{◌≡◌, ◌≢◌, ℕ, ◌+◌, ◌≤◌, true, false, ◌&&◌, None, Some, Option, Result, Ok, List, [], ◌∷◌, ◌++◌, length, map, refl, sym, ap, ◌∙◌, subst, codes, arith, append-nil, append_assoc, length-append}
use Rattle.std.specs.Prelude.{nat_lt}
use Rattle.std.proofs.lemmas.Bool.{and_from, and_parts}
use Rattle.std.proofs.lemmas.Bool.Decides.{nat_tests}
use Rattle.voting_config.specs.Ids.{Id, most_ids, IsIdSet}
use Rattle.cluster_state.proofs.Fitting.{fits_ids}
use Rattle.schedule_text.specs.declared.fault.WhyBad.TheVariants as why
use Rattle.voting_config.specs.Lists.{are_ids_after, items_of, listed_ids, list_text, parts_of}
use Rattle.schedule_text.specs.Lines.{words_of}
use Rattle.schedule_text.proofs.WordLaws.{lacks, list_law, ok_is, split_alone, split_first, parts_not_empty, want_ok}
use Rattle.recorded_trace.specs.declared.entry.Entry.{Entry}
use Rattle.recorded_trace.specs.declared.fault.BadTrace.{BadTrace}
use Rattle.recorded_trace.specs.declared.fault.Why.{Why}
use Rattle.recorded_trace.specs.declared.progress.Progress.{Progress}
use Rattle.recorded_trace.specs.Lines.{shown_at, header_at, header_words, some_ids}
use Rattle.recorded_trace.specs.Reading.{Numbered, ◌>>>◌, after_line, first_progress, in_line, lines_at, most_bytes, parts_read, sized, with_entry}
use Rattle.line_laws.specs.Read.{IsRead, Shows, header, LawTrace}
use Rattle.line_laws.specs.Read.Shows.{Nothing, Skip, Show}
use Rattle.line_laws.proofs.Plain.{plain_lacks, spaceless}
use Rattle.line_laws.proofs.Cuts.{done}
use Rattle.line_laws.proofs.JsonBack.{listed}

abbrev whole : {A : Type 0} → A → Result A BadTrace
whole x = Ok x

-- a line within the limit is read as what it tells
within : {A : Type 0} (p : Progress) (line : List ℕ) (read : Result A Why) (x : A) → p.before + length line + 1 ≤ most_bytes → read ≡ Ok x → in_line p (sized p line read) ≡ whole x
within p line read x few is =
    let short : nat_lt most_bytes (p.before + length line + 1) ≡ false = grind (arith, nat_tests, few) in
    rw (short, is) refl

line_by_line : (p : Progress) (prefix : List Numbered) (line : List ℕ) (parts : List (List ℕ)) → parts ≢ []
    → lines_at p prefix (line ∷ parts) ≡ (in_line p (sized p line (shown_at line)) >>> λ told. lines_at (after_line p line) (with_entry p prefix told) parts)
line_by_line p prefix line [] some = absurd (some refl)
line_by_line p prefix line (w ∷ ws) some = refl

-- what is read behind these entries
record Behind (p : Progress) (prefix : List Numbered) (bytes : List ℕ) (entries : List Entry) : Type 0 where
  more : List Numbered
  read : lines_at p prefix (parts_of 10 bytes) ≡ whole (prefix ++ more)
  shows : map (λ x. x.entry) more ≡ entries

one_line : (p : Progress) (prefix : List Numbered) (line more : List ℕ) (told : Option Entry) → lacks 10 line ≡ true → shown_at line ≡ Ok told → p.before + length (line ++ 10 ∷ more) ≤ most_bytes
    → lines_at p prefix (parts_of 10 (line ++ 10 ∷ more)) ≡ lines_at (after_line p line) (with_entry p prefix told) (parts_of 10 more)
one_line p prefix line more told alone is few =
    ap (lines_at p prefix) (split_first 10 line more alone)
    ∙ line_by_line p prefix line (parts_of 10 more) (parts_not_empty 10 more)
    ∙ ap (λ (r : Result (Option Entry) BadTrace). r >>> λ (t : Option Entry). lines_at (after_line p line) (with_entry p prefix t) (parts_of 10 more))
    (within p line (shown_at line) told (omega (arith, few, length-append line (10 ∷ more))) is)

fewer : (p : Progress) (line more : List ℕ) → p.before + length (line ++ 10 ∷ more) ≤ most_bytes → p.before + length line + 1 + length more ≤ most_bytes
fewer p line more few = omega (arith, few, length-append line (10 ∷ more))

lines_read : (p : Progress) (prefix : List Numbered) (bytes : List ℕ) (entries : List Entry) → Shows bytes entries → p.before + length bytes ≤ most_bytes → Behind p prefix bytes entries
lines_read p prefix _ _ Nothing few = record { more = []; read = ap (λ (t : List Numbered). whole t) (sym (append-nil prefix)); shows = refl }
lines_read p prefix _ _ (Skip line more entries alone is rest) few =
    let b = lines_read (after_line p line) prefix more entries rest (fewer p line more few) in
    record { more = b.more; read = one_line p prefix line more None alone is few ∙ b.read; shows = b.shows }
lines_read p prefix _ _ (Show line more entry entries alone is rest) few =
    let x : Numbered = record { line = p.number; entry = entry } in
    let b = lines_read (after_line p line) (prefix ++ x ∷ []) more entries rest (fewer p line more few) in
    record {
      more = x ∷ b.more;
      read = one_line p prefix line more (Some entry) alone is few ∙ b.read ∙ ap (λ (t : List Numbered). whole t) (append_assoc prefix (x ∷ []) b.more);
      shows = ap (λ (t : List Entry). entry ∷ t) b.shows;
    }

-- ---- the first line

abbrev header_line : List Id → List ℕ
header_line initial = codes "initial" ++ 32 ∷ list_text initial

-- the ids of a set are those of its text
items_again : (xs : List Id) → are_ids_after [] xs ≡ true → (are_ids_after [] (items_of (list_text xs)) ≡ true) × (items_of (list_text xs) ≡ xs)
items_again xs h =
    let again = (list_law (λ ys. true)).again xs (and_from (are_ids_after [] xs) true h refl) in
    let got = want_ok (are_ids_after [] (items_of (list_text xs)) && true) why.List (done (items_of (list_text xs))) xs again in
    ((and_parts (are_ids_after [] (items_of (list_text xs))) true got.0).0, ok_is (items_of (list_text xs)) xs got.1)

some_listed : (xs : List Id) → xs ≢ [] → some_ids (Some xs) ≡ Ok xs
some_listed [] some = absurd (some refl)
some_listed (x ∷ xs) some = refl

header_told : (initial : List Id) → IsIdSet initial → initial ≢ [] → header_at (header_line initial) ≡ Ok initial
header_told initial set some =
    let up = listed initial (fits_ids most_ids initial set set.fits) in
    let items = items_again initial up in
    let plain = (list_law (λ ys. true)).plain initial (and_from (are_ids_after [] initial) true up refl) in
    let words : words_of (header_line initial) ≡ codes "initial" ∷ list_text initial ∷ [] =
    split_first 32 (codes "initial") (list_text initial) refl ∙ ap (λ (t : List (List ℕ)). codes "initial" ∷ t) (split_alone 32 (list_text initial) (spaceless (list_text initial) plain)) in
    let ids : listed_ids (list_text initial) ≡ Some initial = rw (items.0, items.1) refl in
    ap header_words words ∙ rw ids (some_listed initial some)

-- the whole text, its first line cut off
cut : (initial : List Id) (bytes : List ℕ) → header initial ++ bytes ≡ header_line initial ++ 10 ∷ bytes
cut initial bytes = append_assoc (header_line initial) (codes "\n") bytes

behind_header : (line : List ℕ) (parts : List (List ℕ)) (initial : List Id) (xs : List Numbered) → parts ≢ [] → in_line first_progress (sized first_progress line (header_at line)) ≡ whole initial
    → lines_at (after_line first_progress line) [] parts ≡ whole xs → parts_read (line ∷ parts) ≡ whole (record { initial = initial; entries = xs })
behind_header line [] initial xs some first rest = absurd (some refl)
behind_header line (w ∷ ws) initial xs some first rest = rw (first, rest) refl

pub trace_read : LawTrace
trace_read initial bytes entries set some shows few =
    let line = header_line initial in
    let up = listed initial (fits_ids most_ids initial set set.fits) in
    let plain = (list_law (λ ys. true)).plain initial (and_from (are_ids_after [] initial) true up refl) in
    let alone : lacks 10 line ≡ true = plain_lacks 10 (omega arith) (list_text initial) plain in
    let long : length line + 1 + length bytes ≤ most_bytes = omega (arith, few, ap length (cut initial bytes), length-append line (10 ∷ bytes)) in
    let b = lines_read (after_line first_progress line) [] bytes entries shows (omega (arith, long)) in
    let first = within first_progress line (header_at line) initial (omega (arith, long)) (header_told initial set some) in
    record {
      trace = record { initial = initial; entries = b.more };
      read = ap (λ (t : List ℕ). parts_read (parts_of 10 t)) (cut initial bytes) ∙ ap parts_read (split_first 10 line bytes alone) ∙ behind_header line (parts_of 10 bytes) initial b.more (parts_not_empty 10 bytes) first b.read;
      from = refl;
      shows = b.shows;
    }

-- ---- lines behind lines

-- one line
abbrev pub entries_in : Option Entry → List Entry
entries_in None = []
entries_in (Some e) = e ∷ []

pub line_shows : (text : List ℕ) (prefix : List (List ℕ)) (told : Option Entry) → IsRead text prefix told → Shows text (entries_in told)
line_shows text prefix None r = subst (λ (t : List ℕ). Shows t []) (sym r.is) (Skip r.line [] [] r.alone r.tells Nothing)
line_shows text prefix (Some e) r = subst (λ (t : List ℕ). Shows t (e ∷ [])) (sym r.is) (Show r.line [] e [] r.alone r.tells Nothing)
