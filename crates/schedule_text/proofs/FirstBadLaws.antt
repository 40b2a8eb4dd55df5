-- A fault names the first bad line.
use Rattle.std.proofs.Common.{◌≡◌, ℕ, suc, ◌+◌, ◌-◌, ◌<◌, ◌≤◌, ◌≢◌, Bool, true, false, cond, ◌&&◌, List, [], ◌∷◌, ◌++◌, length, Option, Some, Result, Ok, Err, refl, sym, ap, subst, ◌∙◌, append_assoc, arith, inl, inr}
use Rattle.std.specs.Prelude.{codes, nat_lt, nat_le, if◌then◌else◌}
use Rattle.std.specs.List.{list_all, join_with_byte}
use Rattle.std.proofs.lemmas.Bool.{and_parts, and_from, cases_lt}
use Rattle.std.proofs.lemmas.Bool.Decides.{nat_tests}
use Rattle.std.proofs.lemmas.List.{length-append}
use Rattle.std.proofs.lemmas.Slice.Eq.{bytes_eq-Decides}
use Rattle.voting_config.specs.Ids.{Id, is_id, most_ids, are_among}
use Rattle.schedule_text.specs.declared.fault.WhyBad.{WhyBad}
use Rattle.schedule_text.specs.declared.fault.WhyBad.TheVariants as why
use Rattle.schedule_text.specs.Words.{is_some_list}
use Rattle.schedule_text.specs.declared.fault.BadSchedule.{BadSchedule}
use Rattle.schedule_text.specs.declared.level.Level.{Level}
use Rattle.schedule_text.specs.declared.place.Place.{Place}
use Rattle.schedule_text.specs.declared.schedule.Line.{Line}
use Rattle.schedule_text.specs.declared.schedule.Schedule.{Schedule}
use Rattle.voting_config.specs.Lists.{list_text, may_follow, are_ids_after}
use Rattle.schedule_text.specs.Reading.{first_place, after_line, in_line, ◌>>>◌, header_at, passing, is_named, end_at, no_initial, first_line_at, second_line_at, voting_only_line_at, profile_line_at, one_line_at, lines_at, pieces, with_lines_at, optional_at, profile_at, voting_only_at, initial_at, no_schedule, nodes_at, schedule_at, fault_in, fault_of}
use Rattle.schedule_text.specs.Spelled.{with_feeds}
use Rattle.schedule_text.specs.FirstBad.{first_lines, BeginsSchedule, IsFirstBad, LawFirstBadLine}
use Rattle.schedule_text.proofs.WordLaws.{lacks, join_split, parts_lack, parts_not_empty}
use Rattle.schedule_text.proofs.FirstLines.{heads, first_line, feeds_more, feeds_join, first_feeds, fewer_lines, same_head, same_alone}
use Rattle.schedule_text.proofs.ScheduleLaws.{read, then_ok, IsSized, some_list, header_takes, header_again, header_lacks, more_lines, optional_there, optional_absent, more_initial, ended, feeds_split, join_more, schedule_takes, schedule_again}

-- ---- faults

abbrev failed : {A : Type 0} → BadSchedule → Result A BadSchedule
failed bad = Err bad

failed_is : {A : Type 0} (x y : BadSchedule) → failed {A = A} x ≡ failed y → x ≡ y
failed_is x y e = cc

not_both : {A : Type 0} (r : Result A BadSchedule) (x : A) (bad : BadSchedule) → r ≡ Ok x → r ≡ Err bad → ⊥
not_both r x bad e f = absurd cc

number_is : (n : ℕ) (why : WhyBad) (bad : BadSchedule) → (let made : BadSchedule = record { line = n; why = why } in made) ≡ bad → bad.line ≡ n
number_is n why bad e = ap (λ (b : BadSchedule). b.line) (sym e)

in_line_err : {A : Type 0} (p : Place) (r : Result A WhyBad) (bad : BadSchedule) → in_line p r ≡ Err bad → bad.line ≡ p.number
in_line_err p (Ok x) bad e = absurd cc
in_line_err {A} p (Err why) bad e = number_is p.number why bad (failed_is {A = A} _ bad e)

end_err : {A : Type 0} (p : Place) (line : List ℕ) (x : A) (bad : BadSchedule) → end_at p line x ≡ Err bad → bad.line ≡ p.number
end_err p [] x bad e = absurd cc
end_err {A} p (b ∷ bs) x bad e = number_is p.number _ bad (failed_is {A = A} _ bad e)

initial_err : {A : Type 0} (p : Place) (line : List ℕ) (bad : BadSchedule) → no_initial {A = A} p line ≡ Err bad → bad.line ≡ p.number
initial_err {A} p [] bad e = number_is p.number _ bad (failed_is {A = A} _ bad e)
initial_err {A} p (b ∷ bs) bad e = number_is p.number _ bad (failed_is {A = A} _ bad e)

map_err : {A B : Type 0} (r : Result A BadSchedule) (f : A → B) (bad : BadSchedule) → (r >>> λ x. read (f x)) ≡ Err bad → r ≡ Err bad
map_err (Ok x) f bad e = absurd cc
map_err {A} {B} (Err d) f bad e = ap (λ b. failed {A = A} b) (failed_is {A = B} d bad e)

pass_err : (b : Bool) (p : Place) (xs : List Id) (bad : BadSchedule) → cond b (read xs) (Err (record { line = p.number; why = why.Header })) ≡ Err bad → bad.line ≡ p.number
pass_err true p xs bad e = absurd cc
pass_err false p xs bad e = number_is p.number why.Header bad (failed_is {A = List Id} _ bad e)

-- ---- where a reader of parts stops

-- The lines before the bad one, and what may stand after them in its place. What has the same lines up to the bad one is not read.
record Stops {A : Type 0} (reads : List (List ℕ) → Result A BadSchedule) (start : ℕ) (parts : List (List ℕ)) (bad : BadSchedule) : Type 0 where
  good : List (List ℕ)
  number : bad.line ≡ start + length good
  begin : first_lines (length good) (join_with_byte 10 parts) ≡ with_feeds good
  lack : list_all (lacks 10) good ≡ true
  more : List (List ℕ)
  more_lack : list_all (lacks 10) more ≡ true
  value : A
  again : reads (good ++ (more ++ [] ∷ [])) ≡ Ok value
  here : (others : List (List ℕ)) (x : A) → list_all (lacks 10) others ≡ true → others ≢ [] → first_lines (suc (length good)) (join_with_byte 10 others) ≡ first_lines (suc (length good)) (join_with_byte 10 parts) → reads others ≡ Ok x → ⊥

ended_twice : (xs ys : List (List ℕ)) → xs ++ (ys ++ [] ∷ []) ≢ []
ended_twice [] ys e = ended ys e
ended_twice (x ∷ xs) ys e = absurd cc

-- at the first line, where no others that keep its bytes are read
stops_at_once : {A : Type 0} (reads : List (List ℕ) → Result A BadSchedule) (start : ℕ) (parts : List (List ℕ)) (bad : BadSchedule) (more : List (List ℕ)) (value : A) → bad.line ≡ start
    → list_all (lacks 10) more ≡ true → reads (more ++ [] ∷ []) ≡ Ok value
    → ((others : List (List ℕ)) (x : A) → list_all (lacks 10) others ≡ true → others ≢ [] → first_lines 1 (join_with_byte 10 others) ≡ first_lines 1 (join_with_byte 10 parts) → reads others ≡ Ok x → ⊥)
    → Stops reads start parts bad
stops_at_once reads start parts bad more value number more_lack again here = record {
  good = [];
  number = omega (arith, number);
  begin = refl;
  lack = refl;
  more = more;
  more_lack = more_lack;
  value = value;
  again = again;
  here = here;
}

-- at a line without its line feed
stops_cut : {A : Type 0} (reads : List (List ℕ) → Result A BadSchedule) (start : ℕ) (line : List ℕ) (bad : BadSchedule) (more : List (List ℕ)) (value : A) → lacks 10 line ≡ true → reads (line ∷ []) ≡ Err bad → bad.line ≡ start
    → list_all (lacks 10) more ≡ true → reads (more ++ [] ∷ []) ≡ Ok value → Stops reads start (line ∷ []) bad
stops_cut reads start line bad more value l e number more_lack again =
    stops_at_once reads start (line ∷ []) bad more value number more_lack again
    (λ others x k some same is. not_both (reads others) x bad is (ap reads (same_alone line others k l some same) ∙ e))

-- a reader of parts that begin with this line, by what that is read as, where others follow
module _ {A X : Type 0} (reads : List (List ℕ) → Result A BadSchedule) (line : List ℕ) (one : Result X BadSchedule) (next : X → List (List ℕ) → Result A BadSchedule) (goes : (rest : List (List ℕ)) → rest ≢ [] → reads (line ∷ rest) ≡ (one >>> λ x. next x rest)) where
  reads_as : (rest : List (List ℕ)) (r : Result X BadSchedule) → rest ≢ [] → one ≡ r → reads (line ∷ rest) ≡ (r >>> λ x. next x rest)
  reads_as rest r some e = goes rest some ∙ ap (λ s. s >>> λ x. next x rest) e

  -- at this line
  stops_here : (start : ℕ) (rest : List (List ℕ)) (bad : BadSchedule) (more : List (List ℕ)) (value : A) → rest ≢ [] → lacks 10 line ≡ true → one ≡ Err bad → bad.line ≡ start
      → list_all (lacks 10) more ≡ true → reads (more ++ [] ∷ []) ≡ Ok value → Stops reads start (line ∷ rest) bad
  stops_here start rest bad more value some l e number more_lack again =
      stops_at_once reads start (line ∷ rest) bad more value number more_lack again
      (λ others x k other same is.
      let head = same_head 0 line rest others k l other some same in
      not_both (reads others) x bad is (ap reads head.whole ∙ reads_as head.others (Err bad) head.some e))

  -- at a later one
  stops_later : (start : ℕ) (rest : List (List ℕ)) (bad : BadSchedule) (x : X) → rest ≢ [] → lacks 10 line ≡ true → one ≡ Ok x → Stops (next x) (start + 1) rest bad → Stops reads start (line ∷ rest) bad
  stops_later start rest bad x some l e later = record {
    good = line ∷ later.good;
    number = omega (arith, later.number);
    begin = ap (first_lines (suc (length later.good))) (join_more 10 line rest some) ∙ first_line (length later.good) line (join_with_byte 10 rest) l ∙ ap (λ t. line ++ 10 ∷ t) later.begin ∙ sym (feeds_more line later.good);
    lack = and_from _ _ l later.lack;
    more = later.more;
    more_lack = later.more_lack;
    value = later.value;
    again = reads_as (later.good ++ (later.more ++ [] ∷ [])) (Ok x) (ended_twice later.good later.more) e ∙ later.again;
    here = λ others y k other same is.
        let head = same_head (suc (length later.good)) line rest others k l other some same in
        let lacks_all = and_parts (lacks 10 line) _ (subst (λ (ps : List (List ℕ)). list_all (lacks 10) ps ≡ true) head.whole k) in
        later.here head.others y lacks_all.1 head.some head.same (sym (ap reads head.whole ∙ reads_as head.others (Ok x) head.some e) ∙ is);
  }

-- the same of a reader that reads what begins with this line as another does
module _ {A : Type 0} (reads reads_so : List (List ℕ) → Result A BadSchedule) (line : List ℕ) (so : (rest : List (List ℕ)) → reads (line ∷ rest) ≡ reads_so (line ∷ rest)) where
  record Again (good : List (List ℕ)) : Type 0 where
    more : List (List ℕ)
    more_lack : list_all (lacks 10) more ≡ true
    value : A
    again : reads (good ++ (more ++ [] ∷ [])) ≡ Ok value

  again_so : (rest : List (List ℕ)) (value : A) → rest ≢ [] → lacks 10 line ≡ true → reads ([] ∷ []) ≡ Ok value → (good : List (List ℕ)) → list_all (lacks 10) good ≡ true
      → first_lines (length good) (join_with_byte 10 (line ∷ rest)) ≡ with_feeds good → (more : List (List ℕ)) → list_all (lacks 10) more ≡ true → (x : A) → reads_so (good ++ (more ++ [] ∷ [])) ≡ Ok x → Again good
  again_so rest value some l none [] lack begin more more_lack x e = record { more = []; more_lack = refl; value = value; again = none }
  again_so rest value some l none (g ∷ gs) lack begin more more_lack x e =
      let n = length gs in
      let bytes = sym (first_line n line (join_with_byte 10 rest) l) ∙ ap (first_lines (suc n)) (sym (join_more 10 line rest some)) ∙ begin ∙ feeds_more g gs in
      let same = (heads line g (first_lines n (join_with_byte 10 rest)) (with_feeds gs) l (and_parts (lacks 10 g) _ lack).0 bytes).0 in
      record {
        more = more;
        more_lack = more_lack;
        value = x;
        again = subst (λ (t : List ℕ). reads (t ∷ (gs ++ (more ++ [] ∷ []))) ≡ Ok x) same
            (so (gs ++ (more ++ [] ∷ [])) ∙ subst (λ (t : List ℕ). reads_so (t ∷ (gs ++ (more ++ [] ∷ []))) ≡ Ok x) (sym same) e);
      }

  stops_so : (start : ℕ) (rest : List (List ℕ)) (bad : BadSchedule) (value : A) → rest ≢ [] → lacks 10 line ≡ true → reads ([] ∷ []) ≡ Ok value → Stops reads_so start (line ∷ rest) bad → Stops reads start (line ∷ rest) bad
  stops_so start rest bad value some l none s =
      let a = again_so rest value some l none s.good s.lack s.begin s.more s.more_lack s.value s.again in
      record {
        good = s.good;
        number = s.number;
        begin = s.begin;
        lack = s.lack;
        more = a.more;
        more_lack = a.more_lack;
        value = a.value;
        again = a.again;
        here = λ others x k other same is.
            let head = same_head (length s.good) line rest others k l other some same in
            s.here others x k other same (ap reads_so head.whole ∙ sym (so head.others) ∙ sym (ap reads head.whole) ∙ is);
      }

stops_map : {A B : Type 0} (reads : List (List ℕ) → Result A BadSchedule) (f : A → B) (start : ℕ) (parts : List (List ℕ)) (bad : BadSchedule) → Stops reads start parts bad → Stops (λ ps. reads ps >>> λ x. read (f x)) start parts bad
stops_map reads f start parts bad s = record {
  good = s.good;
  number = s.number;
  begin = s.begin;
  lack = s.lack;
  more = s.more;
  more_lack = s.more_lack;
  value = f s.value;
  again = ap (λ r. r >>> λ x. read (f x)) s.again;
  here = λ others y k some same is.
      let got = then_ok (reads others) (λ x. read (f x)) y is in
      s.here others got.0 k some same got.1;
}

-- ---- the lines

lines_stop : (level : Level) (ids : List Id) (p : Place) (prefix : List Line) (parts : List (List ℕ)) (bad : BadSchedule) → parts ≢ [] → list_all (lacks 10) parts ≡ true → lines_at level ids p prefix parts ≡ Err bad → Stops (lines_at level ids p prefix) p.number parts bad
lines_stop level ids p prefix [] bad some k e = absurd (some refl)
lines_stop level ids p prefix (line ∷ []) bad some k e = stops_cut (lines_at level ids p prefix) p.number line bad [] prefix (and_parts (lacks 10 line) _ k).0 e (end_err p line prefix bad e) refl refl
lines_stop level ids p prefix (line ∷ rest ∷ more) bad some k e =
    let lack = and_parts (lacks 10 line) _ k in
    let next = λ (l : Line) (ps : List (List ℕ)). lines_at level ids (after_line p line) (prefix ++ l ∷ []) ps in
    let goes = more_lines level ids p prefix line in
    let reads = lines_at level ids p prefix in
    elim (one_line_at level ids p line) as (λ r. one_line_at level ids p line ≡ r → (r >>> λ l. next l (rest ∷ more)) ≡ Err bad → Stops reads p.number (line ∷ rest ∷ more) bad) [
      | Ok l ↦ λ is h.
          let later = lines_stop level ids (after_line p line) (prefix ++ l ∷ []) (rest ∷ more) bad (λ x. absurd cc) lack.1 h in
          stops_later reads line (one_line_at level ids p line) next goes p.number (rest ∷ more) bad l (λ x. absurd cc) lack.0 is later
      | Err d ↦ λ is h.
          let same = is ∙ ap (λ b. failed {A = Line} b) (failed_is {A = List Line} d bad h) in
          stops_here reads line (one_line_at level ids p line) next goes p.number (rest ∷ more) bad [] prefix (λ x. absurd cc) lack.0 same (in_line_err p _ bad same) refl refl
    ] refl e

-- ---- a line that may stand here

module _ {X : Type 0} (is_there : List ℕ → Bool) (read_line : Place → List ℕ → Result X BadSchedule) (none : X) (next : X → Place → List (List ℕ) → Result Schedule BadSchedule) where
  abbrev reads_optional : Place → List (List ℕ) → Result Schedule BadSchedule
  reads_optional = optional_at is_there read_line none next

  optional_stop : (p : Place) (parts : List (List ℕ)) (bad : BadSchedule) (value : Schedule) → next none p ([] ∷ []) ≡ Ok value
      → ((line : List ℕ) (d : BadSchedule) → read_line p line ≡ Err d → d.line ≡ p.number)
      → ((line : List ℕ) → next none p (line ∷ []) ≡ Err bad → bad.line ≡ p.number)
      → (next none p parts ≡ Err bad → Stops (next none p) p.number parts bad)
      → ((line : List ℕ) (x : X) (rest : List (List ℕ)) → rest ≢ [] → list_all (lacks 10) rest ≡ true → next x (after_line p line) rest ≡ Err bad → Stops (next x (after_line p line)) (p.number + 1) rest bad)
      → parts ≢ [] → list_all (lacks 10) parts ≡ true → reads_optional p parts ≡ Err bad → Stops (reads_optional p) p.number parts bad
  optional_stop p [] bad value last line_err cut_err absent there some k e = absurd (some refl)
  optional_stop p (line ∷ []) bad value last line_err cut_err absent there some k e =
      stops_cut (reads_optional p) p.number line bad [] value (and_parts (lacks 10 line) _ k).0 e (cut_err line e) refl last
  optional_stop p (line ∷ rest ∷ more) bad value last line_err cut_err absent there some k e =
      let lack = and_parts (lacks 10 line) _ k in
      let go = λ (x : X) (ps : List (List ℕ)). next x (after_line p line) ps in
      elim (is_there line) as (λ b. is_there line ≡ b → (if b then (read_line p line >>> λ x. go x (rest ∷ more)) else next none p (line ∷ rest ∷ more)) ≡ Err bad → Stops (reads_optional p) p.number (line ∷ rest ∷ more) bad) [
        | true ↦ λ is h.
            let goes = λ (ps : List (List ℕ)) (others : ps ≢ []). optional_there is_there read_line none next p line ps others is in
            elim (read_line p line) as (λ r. read_line p line ≡ r → (r >>> λ x. go x (rest ∷ more)) ≡ Err bad → Stops (reads_optional p) p.number (line ∷ rest ∷ more) bad) [
              | Ok x ↦ λ got f.
                  stops_later (reads_optional p) line (read_line p line) go goes p.number (rest ∷ more) bad x (λ y. absurd cc) lack.0 got (there line x (rest ∷ more) (λ y. absurd cc) lack.1 f)
              | Err d ↦ λ got f.
                  let same = got ∙ ap (λ b. failed {A = X} b) (failed_is {A = Schedule} d bad f) in
                  stops_here (reads_optional p) line (read_line p line) go goes p.number (rest ∷ more) bad [] value (λ y. absurd cc) lack.0 same (line_err line bad same) refl last
            ] refl h
        | false ↦ λ is h.
            let so = λ (ps : List (List ℕ)). optional_absent is_there read_line none next p line ps is in
            stops_so (reads_optional p) (next none p) line so p.number (rest ∷ more) bad value (λ y. absurd cc) lack.0 last (absent h)
      ] refl e

-- ---- the profile and the voting-only nodes, and the lines

header_err : (name : List ℕ) (good : List Id → Bool) (p : Place) (line : List ℕ) (bad : BadSchedule) → (header_at name p line >>> passing good p) ≡ Err bad → bad.line ≡ p.number
header_err name good p line bad e =
    elim (header_at name p line) as (λ r. header_at name p line ≡ r → (r >>> passing good p) ≡ Err bad → bad.line ≡ p.number) [
      | Ok xs ↦ λ is h. pass_err (good xs) p xs bad h
      | Err d ↦ λ is h. in_line_err p _ bad (is ∙ ap (λ b. failed {A = List Id} b) (failed_is {A = List Id} d bad h))
    ] refl e

module _ (level : Level) (ids initial : List Id) where
  abbrev made : List Id → Bool → List Line → Schedule
  made voting_only second lines = record { nodes = ids; initial = initial; voting_only = voting_only; second = second; lines = lines }

  with_stop : (voting_only : List Id) (second : Bool) (p : Place) (parts : List (List ℕ)) (bad : BadSchedule) → parts ≢ [] → list_all (lacks 10) parts ≡ true → with_lines_at level ids initial voting_only second p parts ≡ Err bad
      → Stops (with_lines_at level ids initial voting_only second p) p.number parts bad
  with_stop voting_only second p parts bad some k e =
      let lines = lines_at level ids p [] in
      stops_map lines (made voting_only second) p.number parts bad (lines_stop level ids p [] parts bad some k (map_err (lines parts) (made voting_only second) bad e))

  cut_err : (voting_only : List Id) (second : Bool) (p : Place) (line : List ℕ) (bad : BadSchedule) → with_lines_at level ids initial voting_only second p (line ∷ []) ≡ Err bad → bad.line ≡ p.number
  cut_err voting_only second p line bad e = end_err {A = List Line} p line [] bad (map_err (lines_at level ids p [] (line ∷ [])) (made voting_only second) bad e)

  profile_stop : (voting_only : List Id) (p : Place) (parts : List (List ℕ)) (bad : BadSchedule) → parts ≢ [] → list_all (lacks 10) parts ≡ true → profile_at level ids initial voting_only p parts ≡ Err bad
      → Stops (profile_at level ids initial voting_only p) p.number parts bad
  profile_stop voting_only p parts bad some k e =
      optional_stop (is_named level (codes "profile")) profile_line_at false (with_lines_at level ids initial voting_only) p parts bad (made voting_only false []) refl
      (λ line d h. in_line_err p _ d h) (λ line h. cut_err voting_only false p line bad h) (with_stop voting_only false p parts bad some k)
      (λ line second rest more lack h. with_stop voting_only second (after_line p line) rest bad more lack h) some k e

  tail_stop : (p : Place) (parts : List (List ℕ)) (bad : BadSchedule) → parts ≢ [] → list_all (lacks 10) parts ≡ true → voting_only_at level ids initial p parts ≡ Err bad
      → Stops (voting_only_at level ids initial p) p.number parts bad
  tail_stop p parts bad some k e =
      optional_stop (is_named level (codes "voting-only")) (voting_only_line_at ids) [] (profile_at level ids initial) p parts bad (made [] false []) refl
      (λ line d h. header_err (codes "voting-only") (are_among ids) p line d h) (λ line h. cut_err [] false p line bad h) (profile_stop [] p parts bad some k)
      (λ line voting_only rest more lack h. profile_stop voting_only (after_line p line) rest bad more lack h) some k e

-- ---- the header

-- a second line that may stand here
record Second (level : Level) (ids : List Id) (p : Place) : Type 0 where
  text : List ℕ
  lack : lacks 10 text ≡ true
  value : Schedule
  reads : initial_at level ids p (text ∷ [] ∷ []) ≡ Ok value

second_by : (level : Level) (ids : List Id) (p : Place) (xs : List Id) → second_line_at ids p (codes "initial" ++ 32 ∷ list_text xs) ≡ Ok xs → are_ids_after [] xs ≡ true → Second level ids p
second_by level ids p xs e after =
    let text = codes "initial" ++ 32 ∷ list_text xs in
    record {
      text = text;
      lack = header_lacks (codes "initial") xs refl after;
      value = record { nodes = ids; initial = xs; voting_only = []; second = false; lines = [] };
      reads = ap (λ r. r >>> λ initial. voting_only_at level ids initial (after_line p text) ([] ∷ [])) e;
    }

-- the one with the first node
second_for : (level : Level) (ids : List Id) (line : List ℕ) → IsSized first_place line → are_ids_after [] ids ≡ true → 0 < length ids → Second level ids (after_line first_place line)
second_for level [] line sized after some = absurd (omega (arith, some))
second_for level (x ∷ xs) line sized after some =
    let may = (and_parts (may_follow [] x) _ after).0 in
    let id = (and_parts (is_id x) _ (and_parts (is_id x && nat_lt 0 most_ids) _ may).0).0 in
    let sizes = and_parts (nat_lt 0 (length x) && nat_le (length x) 32) _ id in
    let short : length x ≤ 32 = grind (arith, nat_tests, (and_parts (nat_lt 0 (length x)) _ sizes.0).1) in
    let one : are_ids_after [] (x ∷ []) ≡ true = and_from _ _ may refl in
    let among : are_among (x ∷ xs) (x ∷ []) ≡ true = rw ((bytes_eq-Decides x x).1 refl) refl in
    let long = length-append (codes "initial ") x in
    let place = after_line first_place line in
    let fits : IsSized place (codes "initial" ++ 32 ∷ list_text (x ∷ [])) = record { bytes = omega (arith, sized.long, short, long); count = omega arith; long = omega (arith, short, long) } in
    second_by level (x ∷ xs) place (x ∷ []) (header_again (codes "initial") (λ ys. is_some_list ys && are_among (x ∷ xs) ys) place (x ∷ []) refl refl one among fits) one

initial_stop : (level : Level) (ids : List Id) (p : Place) (parts : List (List ℕ)) (bad : BadSchedule) → Second level ids p → parts ≢ [] → list_all (lacks 10) parts ≡ true → initial_at level ids p parts ≡ Err bad → Stops (initial_at level ids p) p.number parts bad
initial_stop level ids p [] bad second some k e = absurd (some refl)
initial_stop level ids p (line ∷ []) bad second some k e =
    stops_cut (initial_at level ids p) p.number line bad (second.text ∷ []) second.value (and_parts (lacks 10 line) _ k).0 e (initial_err {A = Schedule} p line bad e) (and_from _ _ second.lack refl) second.reads
initial_stop level ids p (line ∷ rest ∷ more) bad second some k e =
    let lack = and_parts (lacks 10 line) _ k in
    let next = λ (initial : List Id) (ps : List (List ℕ)). voting_only_at level ids initial (after_line p line) ps in
    let goes = more_initial level ids p line in
    let reads = initial_at level ids p in
    elim (second_line_at ids p line) as (λ r. second_line_at ids p line ≡ r → (r >>> λ initial. next initial (rest ∷ more)) ≡ Err bad → Stops reads p.number (line ∷ rest ∷ more) bad) [
      | Ok initial ↦ λ is h.
          let later = tail_stop level ids initial (after_line p line) (rest ∷ more) bad (λ x. absurd cc) lack.1 h in
          stops_later reads line (second_line_at ids p line) next goes p.number (rest ∷ more) bad initial (λ x. absurd cc) lack.0 is later
      | Err d ↦ λ is h.
          let same = is ∙ ap (λ b. failed {A = List Id} b) (failed_is {A = Schedule} d bad h) in
          let number = header_err (codes "initial") (λ xs. is_some_list xs && are_among ids xs) p line bad same in
          stops_here reads line (second_line_at ids p line) next goes p.number (rest ∷ more) bad (second.text ∷ []) second.value (λ x. absurd cc) lack.0 same number (and_from _ _ second.lack refl) second.reads
    ] refl e

more_nodes : (level : Level) (line : List ℕ) (rest : List (List ℕ)) → rest ≢ [] → nodes_at level first_place (line ∷ rest) ≡ (first_line_at first_place line >>> λ ids. initial_at level ids (after_line first_place line) rest)
more_nodes level line [] h = absurd (h refl)
more_nodes level line (next ∷ more) h = refl

nodes_stop : (level : Level) (parts : List (List ℕ)) (bad : BadSchedule) → parts ≢ [] → list_all (lacks 10) parts ≡ true → nodes_at level first_place parts ≡ Err bad → Stops (nodes_at level first_place) 1 parts bad
nodes_stop level [] bad some k e = absurd (some refl)
nodes_stop level (line ∷ []) bad some k e = stops_cut (nodes_at level first_place) 1 line bad [] no_schedule (and_parts (lacks 10 line) _ k).0 e (end_err first_place line no_schedule bad e) refl refl
nodes_stop level (line ∷ rest ∷ more) bad some k e =
    let lack = and_parts (lacks 10 line) _ k in
    let next = λ (ids : List Id) (ps : List (List ℕ)). initial_at level ids (after_line first_place line) ps in
    let goes = more_nodes level line in
    let reads = nodes_at level first_place in
    elim (first_line_at first_place line) as (λ r. first_line_at first_place line ≡ r → (r >>> λ ids. next ids (rest ∷ more)) ≡ Err bad → Stops reads 1 (line ∷ rest ∷ more) bad) [
      | Ok ids ↦ λ is h.
          let header = header_takes (codes "nodes") is_some_list first_place line ids is in
          let second = second_for level ids line header.sized header.header.ids (some_list ids header.passes) in
          stops_later reads line (first_line_at first_place line) next goes 1 (rest ∷ more) bad ids (λ x. absurd cc) lack.0 is (initial_stop level ids (after_line first_place line) (rest ∷ more) bad second (λ x. absurd cc) lack.1 h)
      | Err d ↦ λ is h.
          let same = is ∙ ap (λ b. failed {A = List Id} b) (failed_is {A = Schedule} d bad h) in
          let number = header_err (codes "nodes") is_some_list first_place line bad same in
          stops_here reads line (first_line_at first_place line) next goes 1 (rest ∷ more) bad [] no_schedule (λ x. absurd cc) lack.0 same number refl refl
    ] refl e

-- ---- the whole

both_lack : (xs ys : List (List ℕ)) → list_all (lacks 10) xs ≡ true → list_all (lacks 10) ys ≡ true → list_all (lacks 10) (xs ++ ys) ≡ true
both_lack [] ys h k = k
both_lack (x ∷ xs) ys h k = let parts = and_parts (lacks 10 x) _ h in and_from _ _ parts.0 (both_lack xs ys parts.1 k)

first_bad : (level : Level) (bytes : List ℕ) (bad : BadSchedule) → schedule_at level bytes ≡ Err bad → IsFirstBad level bad.line bytes
first_bad level bytes bad e =
    let stop = nodes_stop level (pieces bytes) bad (parts_not_empty 10 bytes) (parts_lack 10 bytes) e in
    let n = length stop.good in
    let text = with_feeds (stop.good ++ stop.more) in
    let reads : schedule_at level text ≡ Ok stop.value =
    ap (nodes_at level first_place) (feeds_split (stop.good ++ stop.more) (both_lack stop.good stop.more stop.lack stop.more_lack) ∙ append_assoc stop.good stop.more ([] ∷ [])) ∙ stop.again in
    let same : first_lines n text ≡ first_lines n bytes =
    ap (first_lines n) (feeds_join stop.good stop.more) ∙ first_feeds stop.good (with_feeds stop.more) stop.lack ∙ sym stop.begin ∙ ap (first_lines n) (join_split 10 bytes) in
    let before_it : n ≡ bad.line - 1 = omega (arith, stop.number) in
    let with_it : bad.line ≡ suc n = omega (arith, stop.number) in
    record {
      before = subst (λ (m : ℕ). BeginsSchedule level m bytes) before_it (text, stop.value, schedule_takes level text stop.value reads, same);
      here = λ begins.
          let agree = subst (λ (m : ℕ). first_lines m begins.0 ≡ first_lines m bytes) with_it begins.3 in
          stop.here (pieces begins.0) begins.1 (parts_lack 10 begins.0) (parts_not_empty 10 begins.0)
          (ap (first_lines (suc n)) (join_split 10 begins.0) ∙ agree ∙ ap (first_lines (suc n)) (sym (join_split 10 bytes))) (schedule_again level begins.0 begins.1 begins.2);
    }

begins_fewer : (level : Level) (n m : ℕ) (bytes : List ℕ) → n ≤ m → BeginsSchedule level m bytes → BeginsSchedule level n bytes
begins_fewer level n m bytes h begins = (begins.0, begins.1, begins.2, sym (fewer_lines n m begins.0 h) ∙ ap (first_lines n) begins.3 ∙ fewer_lines n m bytes h)

not_later : (level : Level) (bytes : List ℕ) (m n : ℕ) → IsFirstBad level m bytes → IsFirstBad level n bytes → n ≤ m
not_later level bytes m n a b = elim (cases_lt m n) [
  | inl lt ↦ absurd (a.here (begins_fewer level m (n - 1) bytes (omega (arith, lt)) b.before))
  | inr le ↦ le
]

one_first_bad : (level : Level) (bytes : List ℕ) (m n : ℕ) → IsFirstBad level m bytes → IsFirstBad level n bytes → m ≡ n
one_first_bad level bytes m n a b = omega (arith, not_later level bytes m n a b, not_later level bytes n m b a)

abbrev some_bad : BadSchedule → Option BadSchedule
some_bad bad = Some bad

fault_err : {A : Type 0} (r : Result A BadSchedule) (bad : BadSchedule) → fault_in r ≡ Some bad → r ≡ Err bad
fault_err (Ok x) bad e = absurd cc
fault_err {A} (Err d) bad e = let same : d ≡ bad = cc in ap (λ b. failed {A = A} b) same

abbrev Named : Level → ℕ → List ℕ → Type 0
Named level line bytes = (why : WhyBad) × (fault_of level bytes ≡ Some (record { line = line; why = why }))

named : (level : Level) (bytes : List ℕ) (line : ℕ) (r : Result Schedule BadSchedule) → schedule_at level bytes ≡ r → IsFirstBad level line bytes → Named level line bytes
named level bytes line (Ok s) e is = absurd (is.here (bytes, s, schedule_takes level bytes s e, refl))
named level bytes line (Err bad) e is =
    let same = one_first_bad level bytes bad.line line (first_bad level bytes bad e) is in
    (bad.why, ap fault_in e ∙ ap (λ n. some_bad (record { line = n; why = bad.why })) same)

pub law_first_bad_line : LawFirstBadLine
law_first_bad_line level bytes line =
    (λ fault. first_bad level bytes (record { line = line; why = fault.0 }) (fault_err (schedule_at level bytes) (record { line = line; why = fault.0 }) fault.1), λ is. named level bytes line (schedule_at level bytes) refl is)
