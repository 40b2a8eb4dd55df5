-- A schedule that is read is the one that was spelled, and what is spelled is read again.
use Rattle.std.proofs.Common.{◌≡◌, ℕ, ◌+◌, ◌<◌, ◌≤◌, ◌≢◌, Bool, true, false, cond, ◌&&◌, List, [], ◌∷◌, ◌++◌, length, map, None, Result, Ok, Err, refl, sym, ap, subst, ◌∙◌, append_assoc, arith}
use Rattle.std.specs.Prelude.{nat_lt, codes, if◌then◌else◌}
use Rattle.std.specs.Str.{bytes_eq}
use Rattle.std.specs.Cmp.Lexicographic.{same_text}
use Rattle.std.specs.List.{list_all, join_with_byte, AllByRecursion}
use Rattle.std.proofs.lemmas.Bool.{and_parts, and_from, le-ltb, ltb-false, lt-ltb}
use Rattle.std.proofs.lemmas.Bool.Decides.{nat_tests}
use Rattle.std.proofs.lemmas.List.{length-append, append-nil}
use Rattle.voting_config.specs.Ids.{Id, is_id, are_among}
use Rattle.schedule_text.specs.declared.fault.WhyBad.{WhyBad}
use Rattle.schedule_text.specs.declared.fault.WhyBad.TheVariants as why
use Rattle.schedule_text.specs.declared.fault.BadSchedule.{BadSchedule}
use Rattle.schedule_text.specs.declared.fault.ReadError.{ReadError}
use Rattle.schedule_text.specs.Answers.{Answers}
use Rattle.schedule_text.specs.declared.level.Level.{Level}
use Rattle.schedule_text.specs.declared.level.Level.TheVariants.{Core, Node}
use Rattle.schedule_text.specs.declared.place.Place.{Place}
use Rattle.schedule_text.specs.declared.schedule.Line.{Line}
use Rattle.schedule_text.specs.declared.schedule.Schedule.{Schedule}
use Rattle.schedule_text.specs.Limits.{most_bytes, most_lines, most_line_bytes}
use Rattle.voting_config.specs.Lists.{list_text, are_ids_after, parts_of}
use Rattle.schedule_text.specs.Words.{◌>>=◌, is_some_list}
use Rattle.schedule_text.specs.Lines.{one_word, words_of, line_text, FitsLine, words_at, line_at}
use Rattle.schedule_text.specs.Reading.{first_place, after_line, sized_at, in_line, ◌>>>◌, as_header, any_list, header_words, header_at, passing, second_profile, begins, is_named, end_at, first_line_at, second_line_at, voting_only_line_at, profile_line_at, one_line_at, lines_at, pieces, with_lines_at, optional_at, profile_at, voting_only_at, initial_at, no_schedule, nodes_at, schedule_at, fault_in, fault_of}
use Rattle.schedule_text.specs.Spelled.{AreVotingOnly, IsProfile, voting_only_line, voting_only_lines, profile_lines, lines_with, text_lines, with_feeds, IsSchedule, IsWithin, Spells, Nothing, Text, Nobody}
use Rattle.schedule_text.proofs.WordLaws.{is_plain, bind_ok, want_ok, ok_is, lacks, split_join, join_split, parts_lack, parts_not_empty, ids_each, list_law}
use Rattle.schedule_text.proofs.LineLaws.{AreIds, one_is, split_words, one_piece, line_takes, line_again, line_lacks}

abbrev pub read : {A : Type 0} → A → Result A BadSchedule
read x = Ok x

read_is : {A : Type 0} (x y : A) → read x ≡ read y → x ≡ y
read_is x y e = cc

pub then_ok : {A B : Type 0} (r : Result A BadSchedule) (f : A → Result B BadSchedule) (y : B) → (r >>> f) ≡ Ok y → (x : A) × (r ≡ Ok x) × (f x ≡ Ok y)
then_ok (Ok x) f y e = (x, refl, e)
then_ok (Err d) f y e = absurd cc

in_line_ok : {A : Type 0} (p : Place) (r : Result A WhyBad) (x : A) → in_line p r ≡ Ok x → r ≡ Ok x
in_line_ok p (Ok y) x e = ap (λ (z : _). let s : Result _ WhyBad = Ok z in s) (read_is y x e)
in_line_ok p (Err d) x e = absurd cc

guard_ok : {A : Type 0} (b : Bool) (d : WhyBad) (r : Result A WhyBad) (y : A) → cond b (Err d) r ≡ Ok y → (b ≡ false) × (r ≡ Ok y)
guard_ok true d r y e = absurd cc
guard_ok false d r y e = (refl, e)

-- ---- sizes

pub record IsSized (p : Place) (line : List ℕ) : Type 0 where
  pub bytes : p.before + length line + 1 ≤ most_bytes
  pub count : p.number ≤ most_lines
  pub long : length line ≤ most_line_bytes

pub sized_takes : {A : Type 0} (p : Place) (line : List ℕ) (f : List ℕ → Result A WhyBad) (x : A) → in_line p (sized_at p line >>= f) ≡ Ok x → IsSized p line × (f line ≡ Ok x)
sized_takes p line f x e =
    let got = bind_ok (sized_at p line) f x (in_line_ok p (sized_at p line >>= f) x e) in
    let big = guard_ok (nat_lt most_bytes (p.before + length line + 1)) why.TooBig _ got.0 got.1 in
    let many = guard_ok (nat_lt most_lines p.number) why.TooMany _ got.0 big.1 in
    let long = guard_ok (nat_lt most_line_bytes (length line)) why.TooLong _ got.0 many.1 in
    (record { bytes = ltb-false _ _ big.0; count = ltb-false _ _ many.0; long = ltb-false _ _ long.0 }, ap f (ok_is line got.0 long.1) ∙ got.2)

pub sized_again : {A : Type 0} (p : Place) (line : List ℕ) (f : List ℕ → Result A WhyBad) (x : A) → IsSized p line → f line ≡ Ok x → in_line p (sized_at p line >>= f) ≡ Ok x
sized_again p line f x h e =
    let big : nat_lt most_bytes (p.before + length line + 1) ≡ false = le-ltb _ _ h.bytes in
    let many : nat_lt most_lines p.number ≡ false = le-ltb _ _ h.count in
    let long : nat_lt most_line_bytes (length line) ≡ false = le-ltb _ _ h.long in
    rw (big, many, long, e) refl

-- ---- the header

pub record IsHeader (name line : List ℕ) (xs : List Id) : Type 0 where
  pub spelled : line ≡ name ++ 32 ∷ list_text xs
  pub ids : are_ids_after [] xs ≡ true

header_ok : (r : Result (List Id) WhyBad) (xs : List Id) → as_header r ≡ Ok xs → r ≡ Ok xs
header_ok (Ok ys) xs e = e
header_ok (Err d) xs e = absurd cc

pub some_list : (xs : List Id) → is_some_list xs ≡ true → 0 < length xs
some_list xs h = grind (arith, nat_tests)

any_fits : (xs : List Id) → are_ids_after [] xs ≡ true → any_list.Fits xs
any_fits xs ids = and_from _ _ ids refl

words_header : (name : List ℕ) (ws : List (List ℕ)) (xs : List Id) → header_words name ws ≡ Ok xs → (ws ≡ name ∷ list_text xs ∷ []) × (are_ids_after [] xs ≡ true)
words_header name [] xs e = absurd cc
words_header name (v ∷ ws) xs e =
    let got = want_ok (bytes_eq v name) why.Header (as_header (one_word ws >>= any_list.at)) xs e in
    let inner = bind_ok (one_word ws) any_list.at xs (header_ok (one_word ws >>= any_list.at) xs got.1) in
    let taken = (list_law (λ ids. true)).takes inner.0 xs inner.2 in
    (ap (λ t. t ∷ ws) (same_text v name (sym got.0)) ∙ ap (λ t. name ∷ t) (one_is ws inner.0 inner.1 ∙ ap (λ t. t ∷ []) taken.0), (and_parts (are_ids_after [] xs) true taken.1).0)

abbrev list_in : List ℕ → List ℕ → Result (List Id) WhyBad
list_in name line = header_words name (words_of line)

passed : (b : Bool) (d : BadSchedule) (ys xs : List Id) → cond b (read ys) (Err d) ≡ Ok xs → (b ≡ true) × (ys ≡ xs)
passed true d ys xs e = (refl, read_is ys xs e)
passed false d ys xs e = absurd cc

pub record HeaderTaken (name : List ℕ) (good : List Id → Bool) (p : Place) (line : List ℕ) (xs : List Id) : Type 0 where
  pub sized : IsSized p line
  pub header : IsHeader name line xs
  pub passes : good xs ≡ true

pub header_takes : (name : List ℕ) (good : List Id → Bool) (p : Place) (line : List ℕ) (xs : List Id) → (header_at name p line >>> passing good p) ≡ Ok xs → HeaderTaken name good p line xs
header_takes name good p line xs e =
    let got = then_ok (header_at name p line) (passing good p) xs e in
    let sized = sized_takes p line (list_in name) got.0 got.1 in
    let words = words_header name (words_of line) got.0 sized.1 in
    let pass = passed (good got.0) (record { line = p.number; why = why.Header }) got.0 xs got.2 in
    let header : IsHeader name line got.0 = record { spelled = sym (join_split 32 line) ∙ ap (join_with_byte 32) words.0; ids = words.1 } in
    subst (λ (ys : List Id). HeaderTaken name good p line ys) pass.1 (record { sized = sized.0; header = header; passes = pass.0 })

header_words_are : (name : List ℕ) (xs : List Id) → is_plain name ≡ true → are_ids_after [] xs ≡ true → words_of (name ++ 32 ∷ list_text xs) ≡ name ∷ list_text xs ∷ []
header_words_are name xs plain ids =
    split_words name (list_text xs ∷ []) (and_from _ _ plain (and_from _ _ ((list_law (λ ids. true)).plain xs (any_fits xs ids)) refl))

list_again : (name : List ℕ) (xs : List Id) → is_plain name ≡ true → bytes_eq name name ≡ true → are_ids_after [] xs ≡ true → list_in name (name ++ 32 ∷ list_text xs) ≡ Ok xs
list_again name xs plain same ids = ap (header_words name) (header_words_are name xs plain ids) ∙ rw (same, (list_law (λ ids. true)).again xs (any_fits xs ids)) refl

pub header_again : (name : List ℕ) (good : List Id → Bool) (p : Place) (xs : List Id) → is_plain name ≡ true → bytes_eq name name ≡ true → are_ids_after [] xs ≡ true → good xs ≡ true → IsSized p (name ++ 32 ∷ list_text xs)
    → (header_at name p (name ++ 32 ∷ list_text xs) >>> passing good p) ≡ Ok xs
header_again name good p xs plain same ids pass sized =
    ap (λ r. r >>> passing good p) (sized_again p (name ++ 32 ∷ list_text xs) (list_in name) xs sized (list_again name xs plain same ids)) ∙ rw pass refl

header_named : (name : List ℕ) (xs : List Id) → is_plain name ≡ true → bytes_eq name name ≡ true → are_ids_after [] xs ≡ true → is_named Node name (name ++ 32 ∷ list_text xs) ≡ true
header_named name xs plain same ids = ap (begins name) (header_words_are name xs plain ids) ∙ same

pub header_lacks : (name : List ℕ) (xs : List Id) → is_plain name ≡ true → are_ids_after [] xs ≡ true → lacks 10 (name ++ 32 ∷ list_text xs) ≡ true
header_lacks name xs plain ids =
    one_piece (name ∷ list_text xs ∷ []) (and_from _ _ plain (and_from _ _ ((list_law (λ ids. true)).plain xs (any_fits xs ids)) refl))

-- the header line of the profile
record ProfileLine (p : Place) (line : List ℕ) (second : Bool) : Type 0 where
  sized : IsSized p line
  spelled : line ≡ codes "profile 2"
  is : second ≡ true

profile_line_takes : (p : Place) (line : List ℕ) (second : Bool) → profile_line_at p line ≡ Ok second → ProfileLine p line second
profile_line_takes p line second e =
    let sized = sized_takes p line second_profile second e in
    let got = want_ok (bytes_eq line (codes "profile 2")) why.Header (Ok true) second sized.1 in
    record { sized = sized.0; spelled = same_text line (codes "profile 2") (sym got.0); is = sym (ok_is true second got.1) }

are_ids : (xs : List Id) → are_ids_after [] xs ≡ true → AreIds xs
are_ids xs h = record { each = ids_each is_id (λ x k. k) [] xs h }

-- ---- lines from a place on

abbrev AreShort : List (List ℕ) → Type 0
AreShort lines = AllByRecursion (λ (l : List ℕ). length l ≤ most_line_bytes) lines

-- these parts are the lines, each with its line feed, and there is room for them from this place on
record Taken (p : Place) (parts lines : List (List ℕ)) : Type 0 where
  spelled : parts ≡ lines ++ [] ∷ []
  bytes : p.before ≤ most_bytes → p.before + length (with_feeds lines) ≤ most_bytes
  count : p.number ≤ (most_lines + 1) → p.number + length lines ≤ (most_lines + 1)
  each : AreShort lines

feeds_length : (line : List ℕ) (lines : List (List ℕ)) → length (with_feeds (line ∷ lines)) ≡ length line + 1 + length (with_feeds lines)
feeds_length line lines = omega (arith, length-append (line ++ 10 ∷ []) (with_feeds lines), length-append line (10 ∷ []))

taken_none : (p : Place) → Taken p ([] ∷ []) []
taken_none p = record { spelled = refl; bytes = λ h. omega (arith, h); count = λ h. omega (arith, h); each = tt }

taken_more : (p : Place) (line text : List ℕ) (rest lines : List (List ℕ)) → line ≡ text → IsSized p line → Taken (after_line p line) rest lines → Taken p (line ∷ rest) (text ∷ lines)
taken_more p line text rest lines same sized t =
    let long : length text ≡ length line = ap length (sym same) in
    let feeds = feeds_length text lines in
    record {
      spelled = ap (λ l. l ∷ rest) same ∙ ap (λ ls. text ∷ ls) t.spelled;
      bytes = λ h. omega (arith, t.bytes (omega (arith, sized.bytes)), feeds, long);
      count = λ h. omega (arith, t.count (omega (arith, sized.count)));
      each = (omega (arith, long, sized.long), t.each);
    }

record HasRoom (p : Place) (lines : List (List ℕ)) : Type 0 where
  bytes : p.before + length (with_feeds lines) ≤ most_bytes
  count : p.number + length lines ≤ (most_lines + 1)
  each : AreShort lines

room_first : (p : Place) (line : List ℕ) (lines : List (List ℕ)) → HasRoom p (line ∷ lines) → IsSized p line
room_first p line lines r = record { bytes = omega (arith, feeds_length line lines, r.bytes); count = omega (arith, r.count); long = r.each.0 }

room_rest : (p : Place) (line : List ℕ) (lines : List (List ℕ)) → HasRoom p (line ∷ lines) → HasRoom (after_line p line) lines
room_rest p line lines r = record { bytes = omega (arith, feeds_length line lines, r.bytes); count = omega (arith, r.count); each = r.each.1 }

-- ---- the lines

record LinesTaken (level : Level) (ids : List Id) (p : Place) (prefix : List Line) (parts : List (List ℕ)) (ls : List Line) : Type 0 where
  new : List Line
  whole : ls ≡ prefix ++ new
  fits : AllByRecursion (FitsLine level ids) new
  taken : Taken p parts (map line_text new)

end_takes : (level : Level) (ids : List Id) (p : Place) (line : List ℕ) (prefix ls : List Line) → end_at p line prefix ≡ Ok ls → LinesTaken level ids p prefix (line ∷ []) ls
end_takes level ids p [] prefix ls e = record { new = []; whole = sym (read_is prefix ls e) ∙ sym (append-nil prefix); fits = tt; taken = taken_none p }
end_takes level ids p (b ∷ bs) prefix ls e = absurd cc

lines_take : (level : Level) (ids : List Id) → AreIds ids → (p : Place) (prefix : List Line) (parts : List (List ℕ)) (ls : List Line) → parts ≢ [] → list_all (lacks 10) parts ≡ true → lines_at level ids p prefix parts ≡ Ok ls → LinesTaken level ids p prefix parts ls
lines_take level ids good p prefix [] ls some k e = absurd (some refl)
lines_take level ids good p prefix (line ∷ []) ls some k e = end_takes level ids p line prefix ls e
lines_take level ids good p prefix (line ∷ next ∷ more) ls some k e =
    let lack = and_parts (lacks 10 line) _ k in
    let go = λ (l : Line). lines_at level ids (after_line p line) (prefix ++ l ∷ []) (next ∷ more) in
    let got = then_ok (one_line_at level ids p line) go ls e in
    let sized = sized_takes p line (line_at level ids) got.0 got.1 in
    let taken = line_takes level good line got.0 lack.0 sized.1 in
    let rest = lines_take level ids good (after_line p line) (prefix ++ got.0 ∷ []) (next ∷ more) ls (λ h. absurd cc) lack.1 got.2 in
    record {
      new = got.0 ∷ rest.new;
      whole = rest.whole ∙ append_assoc prefix (got.0 ∷ []) rest.new;
      fits = (taken.1, rest.fits);
      taken = taken_more p line (line_text got.0) (next ∷ more) (map line_text rest.new) taken.0 sized.0 rest.taken;
    }

pub more_lines : (level : Level) (ids : List Id) (p : Place) (prefix : List Line) (line : List ℕ) (rest : List (List ℕ)) → rest ≢ [] → lines_at level ids p prefix (line ∷ rest) ≡ (one_line_at level ids p line >>> λ l. lines_at level ids (after_line p line) (prefix ++ l ∷ []) rest)
more_lines level ids p prefix line [] h = absurd (h refl)
more_lines level ids p prefix line (next ∷ more) h = refl

pub ended : (xs : List (List ℕ)) → xs ++ [] ∷ [] ≢ []
ended [] e = absurd cc
ended (x ∷ xs) e = absurd cc

lines_again : (level : Level) (ids : List Id) → AreIds ids → (p : Place) (prefix new : List Line) → AllByRecursion (FitsLine level ids) new → HasRoom p (map line_text new)
    → lines_at level ids p prefix (map line_text new ++ [] ∷ []) ≡ Ok (prefix ++ new)
lines_again level ids good p prefix [] fits room = ap read (sym (append-nil prefix))
lines_again level ids good p prefix (l ∷ ls) fits room =
    let first = room_first p (line_text l) (map line_text ls) room in
    let one = sized_again p (line_text l) (line_at level ids) l first (line_again level good l fits.0) in
    let rest = lines_again level ids good (after_line p (line_text l)) (prefix ++ l ∷ []) ls fits.1 (room_rest p (line_text l) (map line_text ls) room) in
    more_lines level ids p prefix (line_text l) (map line_text ls ++ [] ∷ []) (ended (map line_text ls))
    ∙ ap (λ r. r >>> λ k. lines_at level ids (after_line p (line_text l)) (prefix ++ k ∷ []) (map line_text ls ++ [] ∷ [])) one
    ∙ rest ∙ ap read (append_assoc prefix (l ∷ []) ls)

-- ---- line feeds

pub join_more : (c : ℕ) (x : List ℕ) (rest : List (List ℕ)) → rest ≢ [] → join_with_byte c (x ∷ rest) ≡ x ++ c ∷ join_with_byte c rest
join_more c x [] h = absurd (h refl)
join_more c x (y ∷ ys) h = refl

join_feeds : (lines : List (List ℕ)) → join_with_byte 10 (lines ++ [] ∷ []) ≡ with_feeds lines
join_feeds [] = refl
join_feeds (x ∷ xs) =
    join_more 10 x (xs ++ [] ∷ []) (ended xs) ∙ ap (λ t. x ++ 10 ∷ t) (join_feeds xs) ∙ sym (append_assoc x (10 ∷ []) (with_feeds xs))

split_whole : (c : ℕ) (xs : List (List ℕ)) → xs ≢ [] → list_all (lacks c) xs ≡ true → parts_of c (join_with_byte c xs) ≡ xs
split_whole c [] h k = absurd (h refl)
split_whole c (x ∷ xs) h k = split_join c x xs k

lack_ended : (c : ℕ) (xs : List (List ℕ)) → list_all (lacks c) xs ≡ true → list_all (lacks c) (xs ++ [] ∷ []) ≡ true
lack_ended c [] h = refl
lack_ended c (x ∷ xs) h = let parts = and_parts (lacks c x) _ h in and_from _ _ parts.0 (lack_ended c xs parts.1)

pub feeds_split : (lines : List (List ℕ)) → list_all (lacks 10) lines ≡ true → pieces (with_feeds lines) ≡ lines ++ [] ∷ []
feeds_split lines h = ap pieces (sym (join_feeds lines)) ∙ split_whole 10 (lines ++ [] ∷ []) (ended lines) (lack_ended 10 lines h)

lines_lack : (level : Level) (ids : List Id) → AreIds ids → (ls : List Line) → AllByRecursion (FitsLine level ids) ls → list_all (lacks 10) (map line_text ls) ≡ true
lines_lack level ids good [] h = refl
lines_lack level ids good (l ∷ ls) h = and_from _ _ (line_lacks level good l h.0) (lines_lack level ids good ls h.1)

-- ---- a line that may stand here

module _ {X : Type 0} (is_there : List ℕ → Bool) (read_line : Place → List ℕ → Result X BadSchedule) (none : X) (next : X → Place → List (List ℕ) → Result Schedule BadSchedule) where
  pub optional_takes : (P : Type 0) (p : Place) (parts : List (List ℕ)) (s : Schedule) → (next none p parts ≡ Ok s → P)
      → ((line : List ℕ) (rest : List (List ℕ)) (x : X) → parts ≡ line ∷ rest → rest ≢ [] → is_there line ≡ true → read_line p line ≡ Ok x → next x (after_line p line) rest ≡ Ok s → P)
      → optional_at is_there read_line none next p parts ≡ Ok s → P
  optional_takes P p [] s absent there e = absent e
  optional_takes P p (line ∷ []) s absent there e = absent e
  optional_takes P p (line ∷ more ∷ others) s absent there e =
      let go = λ (x : X). next x (after_line p line) (more ∷ others) in
      elim (is_there line) as (λ b. is_there line ≡ b → (if b then (read_line p line >>> go) else next none p (line ∷ more ∷ others)) ≡ Ok s → P) [
        | true ↦ λ is h. let got = then_ok (read_line p line) go s h in there line (more ∷ others) got.0 refl (λ k. absurd cc) is got.1 got.2
        | false ↦ λ is h. absent h
      ] refl e

  pub optional_there : (p : Place) (line : List ℕ) (rest : List (List ℕ)) → rest ≢ [] → is_there line ≡ true
      → optional_at is_there read_line none next p (line ∷ rest) ≡ (read_line p line >>> λ x. next x (after_line p line) rest)
  optional_there p line [] some is = absurd (some refl)
  optional_there p line (more ∷ others) some is =
      ap (λ b. if b then (read_line p line >>> λ x. next x (after_line p line) (more ∷ others)) else next none p (line ∷ more ∷ others)) is

  pub optional_absent : (p : Place) (line : List ℕ) (rest : List (List ℕ)) → is_there line ≡ false → optional_at is_there read_line none next p (line ∷ rest) ≡ next none p (line ∷ rest)
  optional_absent p line [] is = refl
  optional_absent p line (more ∷ others) is =
      ap (λ b. if b then (read_line p line >>> λ x. next x (after_line p line) (more ∷ others)) else next none p (line ∷ more ∷ others)) is

-- a line is no header line, since that begins with no verb
not_begun : (name : List ℕ) (ids : List Id) → ((ws : List (List ℕ)) (l : Line) → words_at Node ids (name ∷ ws) ≡ Ok l → ⊥) → (ws : List (List ℕ)) (l : Line) → words_at Node ids ws ≡ Ok l → begins name ws ≡ false
not_begun name ids no_verb [] l e = refl
not_begun name ids no_verb (v ∷ ws) l e =
    elim (bytes_eq v name) as (λ b. bytes_eq v name ≡ b → b ≡ false) [
      | true ↦ λ is. absurd (no_verb ws l (subst (λ (w : List ℕ). words_at Node ids (w ∷ ws) ≡ Ok l) (same_text v name (sym is)) e))
      | false ↦ λ is. refl
    ] refl

no_verb_profile : (ids : List Id) (ws : List (List ℕ)) (l : Line) → words_at Node ids (codes "profile" ∷ ws) ≡ Ok l → ⊥
no_verb_profile ids ws l e = absurd cc

no_verb_voting_only : (ids : List Id) (ws : List (List ℕ)) (l : Line) → words_at Node ids (codes "voting-only" ∷ ws) ≡ Ok l → ⊥
no_verb_voting_only ids ws l e = absurd cc

no_profile : (level : Level) (ids : List Id) → AreIds ids → (l : Line) → FitsLine level ids l → is_named level (codes "profile") (line_text l) ≡ false
no_profile Core ids good l f = refl
no_profile Node ids good l f = not_begun (codes "profile") ids (no_verb_profile ids) (words_of (line_text l)) l (line_again Node good l f)

no_voting_only : (level : Level) (ids : List Id) → AreIds ids → (l : Line) → FitsLine level ids l → is_named level (codes "voting-only") (line_text l) ≡ false
no_voting_only Core ids good l f = refl
no_voting_only Node ids good l f = not_begun (codes "voting-only") ids (no_verb_voting_only ids) (words_of (line_text l)) l (line_again Node good l f)

-- ---- the profile, and the lines

abbrev profile_tail : Bool → List Line → List (List ℕ)
profile_tail second ls = profile_lines second ++ map line_text ls

record WithTaken (level : Level) (ids named only : List Id) (second : Bool) (p : Place) (parts : List (List ℕ)) (s : Schedule) : Type 0 where
  nodes : s.nodes ≡ ids
  initial : s.initial ≡ named
  voting_only : s.voting_only ≡ only
  profile : s.second ≡ second
  fits : AllByRecursion (FitsLine level ids) s.lines
  taken : Taken p parts (map line_text s.lines)

with_takes : (level : Level) (ids : List Id) → AreIds ids → (initial voting_only : List Id) (second : Bool) (p : Place) (parts : List (List ℕ)) (s : Schedule) → parts ≢ [] → list_all (lacks 10) parts ≡ true
    → with_lines_at level ids initial voting_only second p parts ≡ Ok s → WithTaken level ids initial voting_only second p parts s
with_takes level ids good initial voting_only second p parts s some k e =
    let last = λ (lines : List Line). read {A = Schedule} (record { nodes = ids; initial = initial; voting_only = voting_only; second = second; lines = lines }) in
    let got = then_ok (lines_at level ids p [] parts) last s e in
    let t = lines_take level ids good p [] parts got.0 some k got.1 in
    let made : Schedule = record { nodes = ids; initial = initial; voting_only = voting_only; second = second; lines = got.0 } in
    let taken : WithTaken level ids initial voting_only second p parts made = record {
      nodes = refl;
      initial = refl;
      voting_only = refl;
      profile = refl;
      fits = subst (λ (ls : List Line). AllByRecursion (FitsLine level ids) ls) (sym t.whole) t.fits;
      taken = subst (λ (ls : List Line). Taken p parts (map line_text ls)) (sym t.whole) t.taken;
    } in
    subst (λ (r : Schedule). WithTaken level ids initial voting_only second p parts r) (read_is made s got.2) taken

record ProfileTaken (level : Level) (ids named only : List Id) (p : Place) (parts : List (List ℕ)) (s : Schedule) : Type 0 where
  nodes : s.nodes ≡ ids
  initial : s.initial ≡ named
  voting_only : s.voting_only ≡ only
  second : IsProfile level s.second
  fits : AllByRecursion (FitsLine level ids) s.lines
  taken : Taken p parts (profile_tail s.second s.lines)

is_first_profile : (level : Level) → IsProfile level false
is_first_profile Core = refl
is_first_profile Node = tt

profile_absent : (level : Level) (ids initial voting_only : List Id) (p : Place) (parts : List (List ℕ)) (s : Schedule) → WithTaken level ids initial voting_only false p parts s → ProfileTaken level ids initial voting_only p parts s
profile_absent level ids initial voting_only p parts s w = record {
  nodes = w.nodes;
  initial = w.initial;
  voting_only = w.voting_only;
  second = subst (λ (b : Bool). IsProfile level b) (sym w.profile) (is_first_profile level);
  fits = w.fits;
  taken = subst (λ (b : Bool). Taken p parts (profile_tail b s.lines)) (sym w.profile) w.taken;
}

profile_there : (level : Level) (ids initial voting_only : List Id) (p : Place) (parts : List (List ℕ)) (s : Schedule) (line : List ℕ) (rest : List (List ℕ)) (second : Bool) → parts ≡ line ∷ rest
    → is_named level (codes "profile") line ≡ true → ProfileLine p line second → WithTaken level ids initial voting_only second (after_line p line) rest s → ProfileTaken level ids initial voting_only p parts s
profile_there Core ids initial voting_only p parts s line rest second whole named l w = absurd cc
profile_there Node ids initial voting_only p parts s line rest second whole named l w =
    let parts_taken = taken_more p line (codes "profile 2") rest (map line_text s.lines) l.spelled l.sized w.taken in
    record {
      nodes = w.nodes;
      initial = w.initial;
      voting_only = w.voting_only;
      second = tt;
      fits = w.fits;
      taken = subst (λ (ps : List (List ℕ)). Taken p ps (profile_tail s.second s.lines)) (sym whole)
          (subst (λ (b : Bool). Taken p (line ∷ rest) (profile_tail b s.lines)) (sym (w.profile ∙ l.is)) parts_taken);
    }

profile_takes : (level : Level) (ids : List Id) → AreIds ids → (initial voting_only : List Id) (p : Place) (parts : List (List ℕ)) (s : Schedule) → parts ≢ [] → list_all (lacks 10) parts ≡ true
    → profile_at level ids initial voting_only p parts ≡ Ok s → ProfileTaken level ids initial voting_only p parts s
profile_takes level ids good initial voting_only p parts s some k e =
    optional_takes (is_named level (codes "profile")) profile_line_at false (with_lines_at level ids initial voting_only) (ProfileTaken level ids initial voting_only p parts s) p parts s
    (λ h. profile_absent level ids initial voting_only p parts s (with_takes level ids good initial voting_only false p parts s some k h))
    (λ line rest second whole more named l h.
    let lack = and_parts (lacks 10 line) _ (subst (λ (ps : List (List ℕ)). list_all (lacks 10) ps ≡ true) whole k) in
    profile_there level ids initial voting_only p parts s line rest second whole named (profile_line_takes p line second l)
    (with_takes level ids good initial voting_only second (after_line p line) rest s more lack.1 h)) e

with_again : (level : Level) (ids : List Id) → AreIds ids → (initial voting_only : List Id) (second : Bool) (p : Place) (ls : List Line) → AllByRecursion (FitsLine level ids) ls → HasRoom p (map line_text ls)
    → with_lines_at level ids initial voting_only second p (map line_text ls ++ [] ∷ []) ≡ Ok (record { nodes = ids; initial = initial; voting_only = voting_only; second = second; lines = ls })
with_again level ids good initial voting_only second p ls fits room =
    ap (λ r. r >>> λ lines. read {A = Schedule} (record { nodes = ids; initial = initial; voting_only = voting_only; second = second; lines = lines })) (lines_again level ids good p [] ls fits room)

profile_again : (level : Level) (ids : List Id) → AreIds ids → (initial voting_only : List Id) (second : Bool) (p : Place) (ls : List Line) → IsProfile level second → AllByRecursion (FitsLine level ids) ls → HasRoom p (profile_tail second ls)
    → profile_at level ids initial voting_only p (profile_tail second ls ++ [] ∷ []) ≡ Ok (record { nodes = ids; initial = initial; voting_only = voting_only; second = second; lines = ls })
profile_again level ids good initial voting_only false p [] allowed fits room = refl
profile_again level ids good initial voting_only false p (l ∷ ls) allowed fits room =
    optional_absent (is_named level (codes "profile")) profile_line_at false (with_lines_at level ids initial voting_only) p (line_text l) (map line_text ls ++ [] ∷ []) (no_profile level ids good l fits.0)
    ∙ with_again level ids good initial voting_only false p (l ∷ ls) fits room
profile_again Core ids good initial voting_only true p ls allowed fits room = absurd cc
profile_again Node ids good initial voting_only true p ls allowed fits room =
    let line = codes "profile 2" in
    let lines = map line_text ls in
    let one : profile_line_at p line ≡ Ok true = sized_again p line second_profile true (room_first p line lines room) refl in
    optional_there (is_named Node (codes "profile")) profile_line_at false (with_lines_at Node ids initial voting_only) p line (lines ++ [] ∷ []) (ended lines) refl
    ∙ ap (λ r. r >>> λ second. with_lines_at Node ids initial voting_only second (after_line p line) (lines ++ [] ∷ [])) one
    ∙ with_again Node ids good initial voting_only true (after_line p line) ls fits (room_rest p line lines room)

-- ---- the voting-only nodes, and what follows

-- the lines that say who is voting-only: none where nobody is, or one
data Says (level : Level) : List Id → List (List ℕ) → Type 0 where
  Silent : Says level [] []
  Said : (ids : List Id) → level ≡ Node → Says level ids (voting_only_line ids ∷ [])

written_says : (level : Level) (nodes ids : List Id) → AreVotingOnly level nodes ids → Says level ids (voting_only_lines ids)
written_says level nodes [] allowed = Silent
written_says Core nodes (x ∷ xs) allowed = absurd cc
written_says Node nodes (x ∷ xs) allowed = Said (x ∷ xs) refl

nobody : (level : Level) (ids : List Id) → AreVotingOnly level ids []
nobody Core ids = refl
nobody Node ids = (refl, refl)

record TailTaken (level : Level) (ids named : List Id) (p : Place) (parts : List (List ℕ)) (s : Schedule) : Type 0 where
  nodes : s.nodes ≡ ids
  initial : s.initial ≡ named
  voting_only : AreVotingOnly level ids s.voting_only
  second : IsProfile level s.second
  fits : AllByRecursion (FitsLine level ids) s.lines
  said : List (List ℕ)
  says : Says level s.voting_only said
  taken : Taken p parts (said ++ profile_tail s.second s.lines)

tail_absent : (level : Level) (ids initial : List Id) (p : Place) (parts : List (List ℕ)) (s : Schedule) → ProfileTaken level ids initial [] p parts s → TailTaken level ids initial p parts s
tail_absent level ids initial p parts s t = record {
  nodes = t.nodes;
  initial = t.initial;
  voting_only = subst (λ (xs : List Id). AreVotingOnly level ids xs) (sym t.voting_only) (nobody level ids);
  second = t.second;
  fits = t.fits;
  said = [];
  says = subst (λ (xs : List Id). Says level xs []) (sym t.voting_only) Silent;
  taken = t.taken;
}

tail_there : (level : Level) (ids initial voting_only : List Id) (p : Place) (parts : List (List ℕ)) (s : Schedule) (line : List ℕ) (rest : List (List ℕ)) → parts ≡ line ∷ rest
    → is_named level (codes "voting-only") line ≡ true → HeaderTaken (codes "voting-only") (are_among ids) p line voting_only → ProfileTaken level ids initial voting_only (after_line p line) rest s
    → TailTaken level ids initial p parts s
tail_there Core ids initial voting_only p parts s line rest whole named l t = absurd cc
tail_there Node ids initial voting_only p parts s line rest whole named l t =
    let tail = profile_tail s.second s.lines in
    let parts_taken = taken_more p line (voting_only_line voting_only) rest tail l.header.spelled l.sized t.taken in
    record {
      nodes = t.nodes;
      initial = t.initial;
      voting_only = subst (λ (xs : List Id). AreVotingOnly Node ids xs) (sym t.voting_only) (l.header.ids, l.passes);
      second = t.second;
      fits = t.fits;
      said = voting_only_line s.voting_only ∷ [];
      says = Said s.voting_only refl;
      taken = subst (λ (ps : List (List ℕ)). Taken p ps (voting_only_line s.voting_only ∷ tail)) (sym whole)
          (subst (λ (xs : List Id). Taken p (line ∷ rest) (voting_only_line xs ∷ tail)) (sym t.voting_only) parts_taken);
    }

tail_takes : (level : Level) (ids : List Id) → AreIds ids → (initial : List Id) (p : Place) (parts : List (List ℕ)) (s : Schedule) → parts ≢ [] → list_all (lacks 10) parts ≡ true
    → voting_only_at level ids initial p parts ≡ Ok s → TailTaken level ids initial p parts s
tail_takes level ids good initial p parts s some k e =
    optional_takes (is_named level (codes "voting-only")) (voting_only_line_at ids) [] (profile_at level ids initial) (TailTaken level ids initial p parts s) p parts s
    (λ h. tail_absent level ids initial p parts s (profile_takes level ids good initial [] p parts s some k h))
    (λ line rest voting_only whole more named l h.
    let lack = and_parts (lacks 10 line) _ (subst (λ (ps : List (List ℕ)). list_all (lacks 10) ps ≡ true) whole k) in
    tail_there level ids initial voting_only p parts s line rest whole named (header_takes (codes "voting-only") (are_among ids) p line voting_only l)
    (profile_takes level ids good initial voting_only (after_line p line) rest s more lack.1 h)) e

-- where nobody is said to be voting-only
silent_again : (level : Level) (ids : List Id) → AreIds ids → (initial : List Id) (second : Bool) (p : Place) (ls : List Line) → IsProfile level second → AllByRecursion (FitsLine level ids) ls → HasRoom p (profile_tail second ls)
    → voting_only_at level ids initial p (profile_tail second ls ++ [] ∷ []) ≡ Ok (record { nodes = ids; initial = initial; voting_only = []; second = second; lines = ls })
silent_again level ids good initial false p [] allowed fits room = refl
silent_again level ids good initial false p (l ∷ ls) allowed fits room =
    optional_absent (is_named level (codes "voting-only")) (voting_only_line_at ids) [] (profile_at level ids initial) p (line_text l) (map line_text ls ++ [] ∷ []) (no_voting_only level ids good l fits.0)
    ∙ profile_again level ids good initial [] false p (l ∷ ls) allowed fits room
silent_again Core ids good initial true p ls allowed fits room = absurd cc
silent_again Node ids good initial true p ls allowed fits room =
    optional_absent (is_named Node (codes "voting-only")) (voting_only_line_at ids) [] (profile_at Node ids initial) p (codes "profile 2") (map line_text ls ++ [] ∷ []) refl
    ∙ profile_again Node ids good initial [] true p ls allowed fits room

said_again : (ids : List Id) → AreIds ids → (initial voting_only : List Id) (second : Bool) (p : Place) (ls : List Line) → AreVotingOnly Node ids voting_only → AllByRecursion (FitsLine Node ids) ls
    → HasRoom p (voting_only_line voting_only ∷ profile_tail second ls)
    → voting_only_at Node ids initial p (voting_only_line voting_only ∷ (profile_tail second ls ++ [] ∷ [])) ≡ Ok (record { nodes = ids; initial = initial; voting_only = voting_only; second = second; lines = ls })
said_again ids good initial voting_only second p ls allowed fits room =
    let name = codes "voting-only" in
    let line = voting_only_line voting_only in
    let tail = profile_tail second ls in
    let one : voting_only_line_at ids p line ≡ Ok voting_only = header_again name (are_among ids) p voting_only refl refl allowed.0 allowed.1 (room_first p line tail room) in
    optional_there (is_named Node name) (voting_only_line_at ids) [] (profile_at Node ids initial) p line (tail ++ [] ∷ []) (ended tail) (header_named name voting_only refl refl allowed.0)
    ∙ ap (λ r. r >>> λ xs. profile_at Node ids initial xs (after_line p line) (tail ++ [] ∷ [])) one
    ∙ profile_again Node ids good initial voting_only second (after_line p line) ls tt fits (room_rest p line tail room)

tail_again : (level : Level) (ids : List Id) → AreIds ids → (initial : List Id) (p : Place) (voting_only : List Id) (said : List (List ℕ)) (second : Bool) (ls : List Line) → Says level voting_only said → AreVotingOnly level ids voting_only
    → IsProfile level second → AllByRecursion (FitsLine level ids) ls → HasRoom p (said ++ profile_tail second ls)
    → voting_only_at level ids initial p ((said ++ profile_tail second ls) ++ [] ∷ []) ≡ Ok (record { nodes = ids; initial = initial; voting_only = voting_only; second = second; lines = ls })
tail_again level ids good initial p _ _ second ls Silent allowed profile fits room = silent_again level ids good initial second p ls profile fits room
tail_again Core ids good initial p _ _ second ls (Said voting_only at) allowed profile fits room = absurd cc
tail_again Node ids good initial p _ _ second ls (Said voting_only at) allowed profile fits room = said_again ids good initial voting_only second p ls allowed fits room

profile_lacks : (second : Bool) (lines : List (List ℕ)) → list_all (lacks 10) lines ≡ true → list_all (lacks 10) (profile_lines second ++ lines) ≡ true
profile_lacks false lines h = h
profile_lacks true lines h = and_from _ _ refl h

tail_lacks : (level : Level) (ids : List Id) (voting_only : List Id) (said rest : List (List ℕ)) → Says level voting_only said → AreVotingOnly level ids voting_only → list_all (lacks 10) rest ≡ true → list_all (lacks 10) (said ++ rest) ≡ true
tail_lacks level ids _ _ rest Silent allowed h = h
tail_lacks Core ids _ _ rest (Said voting_only at) allowed h = absurd cc
tail_lacks Node ids _ _ rest (Said voting_only at) allowed h = and_from _ _ (header_lacks (codes "voting-only") voting_only refl allowed.0) h

-- ---- the whole

spelled_by : (bytes : List ℕ) (lines : List (List ℕ)) → pieces bytes ≡ lines ++ [] ∷ [] → bytes ≡ with_feeds lines
spelled_by bytes lines e = sym (join_split 10 bytes) ∙ ap (join_with_byte 10) e ∙ join_feeds lines

no_lines : (level : Level) (bytes line : List ℕ) (s : Schedule) → pieces bytes ≡ line ∷ [] → end_at first_place line no_schedule ≡ Ok s → Spells level bytes s
no_lines level bytes [] s e k =
    let none : bytes ≡ [] = spelled_by bytes [] e in
    let same : no_schedule ≡ s = read_is no_schedule s k in
    subst (λ (t : Schedule). Spells level bytes t) same (subst (λ (b : List ℕ). Spells level b no_schedule) (sym none) Nothing)
no_lines level bytes (b ∷ bs) s e k = absurd cc

record RestTaken (level : Level) (ids : List Id) (p : Place) (parts : List (List ℕ)) (s : Schedule) : Type 0 where
  line : List ℕ
  header : HeaderTaken (codes "initial") (λ xs. is_some_list xs && are_among ids xs) p line s.initial
  rest : List (List ℕ)
  parts_are : parts ≡ line ∷ rest
  tail : TailTaken level ids s.initial (after_line p line) rest s

rest_takes : (level : Level) (ids : List Id) → AreIds ids → (p : Place) (parts : List (List ℕ)) (s : Schedule) → list_all (lacks 10) parts ≡ true → initial_at level ids p parts ≡ Ok s → RestTaken level ids p parts s
rest_takes level ids good p [] s k e = absurd cc
rest_takes level ids good p ([] ∷ []) s k e = absurd cc
rest_takes level ids good p ((b ∷ bs) ∷ []) s k e = absurd cc
rest_takes level ids good p (line ∷ next ∷ more) s k e =
    let test = λ (xs : List Id). is_some_list xs && are_among ids xs in
    let go = λ (initial : List Id). voting_only_at level ids initial (after_line p line) (next ∷ more) in
    let got = then_ok (second_line_at ids p line) go s e in
    let header = header_takes (codes "initial") test p line got.0 got.1 in
    let tail = tail_takes level ids good got.0 (after_line p line) (next ∷ more) s (λ h. absurd cc) (and_parts (lacks 10 line) _ k).1 got.2 in
    record {
      line = line;
      header = subst (λ (xs : List Id). HeaderTaken (codes "initial") test p line xs) (sym tail.initial) header;
      rest = next ∷ more;
      parts_are = refl;
      tail = subst (λ (xs : List Id). TailTaken level ids xs (after_line p line) (next ∷ more) s) (sym tail.initial) tail;
    }

written_spells : (level : Level) (s : Schedule) (lines : List (List ℕ)) → text_lines s ≡ lines → IsSchedule level s → IsWithin lines → Spells level (with_feeds lines) s
written_spells level s lines e is = subst (λ (ls : List (List ℕ)). IsWithin ls → Spells level (with_feeds ls) s) e (λ within. Text s is within)

says_spells : (level : Level) (s : Schedule) (ids : List Id) (said : List (List ℕ)) → ids ≡ s.voting_only → Says level ids said → IsSchedule level s → IsWithin (lines_with said s) → Spells level (with_feeds (lines_with said s)) s
says_spells level s _ _ e Silent is within = written_spells level s (lines_with [] s) (ap (λ (xs : List Id). lines_with (voting_only_lines xs) s) (sym e)) is within
says_spells level s _ _ e (Said [] at) is within = Nobody s at (sym e) is within
says_spells level s _ _ e (Said (x ∷ xs) at) is within =
    written_spells level s (lines_with (voting_only_line (x ∷ xs) ∷ []) s) (ap (λ (ys : List Id). lines_with (voting_only_lines ys) s) (sym e)) is within

text_taken : (level : Level) (bytes line : List ℕ) (parts : List (List ℕ)) (s : Schedule) → pieces bytes ≡ line ∷ parts → HeaderTaken (codes "nodes") is_some_list first_place line s.nodes → RestTaken level s.nodes (after_line first_place line) parts s
    → Spells level bytes s
text_taken level bytes line parts s e first rest =
    let p = after_line first_place line in
    let tail = rest.tail in
    let pass = and_parts (is_some_list s.initial) (are_among s.nodes s.initial) rest.header.passes in
    let second = taken_more p rest.line (codes "initial " ++ list_text s.initial) rest.rest (tail.said ++ profile_tail s.second s.lines) rest.header.header.spelled rest.header.sized tail.taken in
    let whole : Taken first_place (line ∷ rest.line ∷ rest.rest) (lines_with tail.said s) =
    taken_more first_place line (codes "nodes " ++ list_text s.nodes) (rest.line ∷ rest.rest) ((codes "initial " ++ list_text s.initial) ∷ (tail.said ++ profile_tail s.second s.lines)) first.header.spelled first.sized second in
    let is : IsSchedule level s = record {
      nodes = first.header.ids;
      some_node = some_list s.nodes first.passes;
      initial = rest.header.header.ids;
      some_initial = some_list s.initial pass.0;
      listed = pass.1;
      voting_only = tail.voting_only;
      second = tail.second;
      lines = tail.fits;
    } in
    let within : IsWithin (lines_with tail.said s) = record { bytes = omega (arith, whole.bytes (omega arith)); count = omega (arith, whole.count (omega arith)); each = whole.each } in
    subst (λ (b : List ℕ). Spells level b s) (sym (spelled_by bytes (lines_with tail.said s) (e ∙ ap (λ t. line ∷ t) rest.parts_are ∙ whole.spelled)))
    (says_spells level s s.voting_only tail.said refl tail.says is within)

nodes_take : (level : Level) (bytes : List ℕ) (parts : List (List ℕ)) (s : Schedule) → pieces bytes ≡ parts → nodes_at level first_place parts ≡ Ok s → Spells level bytes s
nodes_take level bytes [] s e k = absurd (parts_not_empty 10 bytes e)
nodes_take level bytes (line ∷ []) s e k = no_lines level bytes line s e k
nodes_take level bytes (line ∷ next ∷ more) s e k =
    let go = λ (ids : List Id). initial_at level ids (after_line first_place line) (next ∷ more) in
    let got = then_ok (first_line_at first_place line) go s k in
    let header = header_takes (codes "nodes") is_some_list first_place line got.0 got.1 in
    let rest = rest_takes level got.0 (are_ids got.0 header.header.ids) (after_line first_place line) (next ∷ more) s (and_parts (lacks 10 line) _ (subst (λ (ps : List (List ℕ)). list_all (lacks 10) ps ≡ true) e (parts_lack 10 bytes))).1 got.2 in
    let nodes = sym rest.tail.nodes in
    text_taken level bytes line (next ∷ more) s e (subst (λ (ids : List Id). HeaderTaken (codes "nodes") is_some_list first_place line ids) nodes header)
    (subst (λ (ids : List Id). RestTaken level ids (after_line first_place line) (next ∷ more) s) nodes rest)

pub schedule_takes : (level : Level) (bytes : List ℕ) (s : Schedule) → schedule_at level bytes ≡ Ok s → Spells level bytes s
schedule_takes level bytes s e = nodes_take level bytes (pieces bytes) s refl e

pub more_initial : (level : Level) (ids : List Id) (p : Place) (line : List ℕ) (rest : List (List ℕ)) → rest ≢ [] → initial_at level ids p (line ∷ rest) ≡ (second_line_at ids p line >>> λ initial. voting_only_at level ids initial (after_line p line) rest)
more_initial level ids p line [] h = absurd (h refl)
more_initial level ids p line (next ∷ more) h = refl

text_again : (level : Level) (s : Schedule) (said : List (List ℕ)) → Says level s.voting_only said → IsSchedule level s → IsWithin (lines_with said s) → schedule_at level (with_feeds (lines_with said s)) ≡ Ok s
text_again level s said says is within =
    let good = are_ids s.nodes is.nodes in
    let first = codes "nodes " ++ list_text s.nodes in
    let second = codes "initial " ++ list_text s.initial in
    let tail = said ++ profile_tail s.second s.lines in
    let p = after_line first_place first in
    let lack : list_all (lacks 10) (lines_with said s) ≡ true =
    and_from _ _ (header_lacks (codes "nodes") s.nodes refl is.nodes)
    (and_from _ _ (header_lacks (codes "initial") s.initial refl is.initial)
    (tail_lacks level s.nodes s.voting_only said (profile_tail s.second s.lines) says is.voting_only (profile_lacks s.second (map line_text s.lines) (lines_lack level s.nodes good s.lines is.lines)))) in
    let room : HasRoom first_place (lines_with said s) = record { bytes = omega (arith, within.bytes); count = omega (arith, within.count); each = within.each } in
    let room_second = room_rest first_place first (second ∷ tail) room in
    let one : first_line_at first_place first ≡ Ok s.nodes = header_again (codes "nodes") is_some_list first_place s.nodes refl refl is.nodes (lt-ltb 0 (length s.nodes) is.some_node) (room_first first_place first (second ∷ tail) room) in
    let two : second_line_at s.nodes p second ≡ Ok s.initial =
    header_again (codes "initial") (λ xs. is_some_list xs && are_among s.nodes xs) p s.initial refl refl is.initial (and_from _ _ (lt-ltb 0 (length s.initial) is.some_initial) is.listed) (room_first p second tail room_second) in
    let three = tail_again level s.nodes good s.initial (after_line p second) s.voting_only said s.second s.lines says is.voting_only is.second is.lines (room_rest p second tail room_second) in
    ap (nodes_at level first_place) (feeds_split (lines_with said s) lack)
    ∙ ap (λ r. r >>> λ ids. initial_at level ids p (second ∷ (tail ++ [] ∷ []))) one
    ∙ more_initial level s.nodes p second (tail ++ [] ∷ []) (ended tail)
    ∙ ap (λ r. r >>> λ initial. voting_only_at level s.nodes initial (after_line p second) (tail ++ [] ∷ [])) two
    ∙ three

pub schedule_again : (level : Level) (bytes : List ℕ) (s : Schedule) → Spells level bytes s → schedule_at level bytes ≡ Ok s
schedule_again level _ _ Nothing = refl
schedule_again level _ _ (Text s is within) = text_again level s (voting_only_lines s.voting_only) (written_says level s.nodes s.voting_only is.voting_only) is within
schedule_again level _ _ (Nobody s at none is within) =
    text_again level s (voting_only_line [] ∷ []) (subst (λ (xs : List Id). Says level xs (voting_only_line [] ∷ [])) (sym none) (Said [] at)) is within

-- ---- for the contracts

spelled_or_not : (level : Level) (bytes : List ℕ) (r : Result Schedule BadSchedule) → schedule_at level bytes ≡ r → fault_in r ≡ None → (s : Schedule) × Spells level bytes s
spelled_or_not level bytes (Ok s) e h = (s, schedule_takes level bytes s e)
spelled_or_not level bytes (Err bad) e h = absurd cc

pub no_fault : (level : Level) (bytes : List ℕ) → fault_of level bytes ≡ None → (s : Schedule) × Spells level bytes s
no_fault level bytes h = spelled_or_not level bytes (schedule_at level bytes) refl h

pub some_spelled : (level : Level) (bytes : List ℕ) → (s : Schedule) × Spells level bytes s → fault_of level bytes ≡ None
some_spelled level bytes h = ap fault_in (schedule_again level bytes h.0 h.1)

pub one_schedule : (level : Level) (bytes : List ℕ) (s t : Schedule) → Spells level bytes s → Spells level bytes t → s ≡ t
one_schedule level bytes s t h k = read_is s t (sym (schedule_again level bytes s h) ∙ schedule_again level bytes t k)

pub only_ok : (level : Level) (bytes : List ℕ) (x s : Schedule) → schedule_at level bytes ≡ Ok x → Spells level bytes s → read s ≡ Ok x
only_ok level bytes x s e spelled = sym (schedule_again level bytes s spelled) ∙ e

pub only_err : (level : Level) (bytes : List ℕ) (f : ReadError BadSchedule) (s : Schedule) → Answers {A = Schedule} (Err f) (schedule_at level bytes) → Spells level bytes s → Answers {A = Schedule} (Err f) (read s)
only_err level bytes f s e spelled = subst (λ (r : Result Schedule BadSchedule). Answers {A = Schedule} (Err f) r) (schedule_again level bytes s spelled) e
