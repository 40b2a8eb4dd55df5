-- The echo of a line of a schedule is read as that line.
use Rattle.std.proofs.Common.{◌≡◌, ℕ, ◌-◌, ◌^◌, ◌<◌, ◌≤◌, Bool, true, false, cond, ◌&&◌, ◌||◌, Result, Ok, List, [], ◌∷◌, ◌++◌, length, get_or, refl, sym, ap, ◌∙◌, ◌≢◌, subst, codes, decimal, arith}
use Rattle.std.specs.Prelude.{if◌then◌else◌, nat_lt}
use Rattle.std.specs.Str.{bytes_eq}
use Rattle.std.specs.List.{list_all, join_with_byte}
use Rattle.std.proofs.Math.Bool.{or-true}
use Rattle.std.proofs.lemmas.Bool.{and_parts, and_from, lt-ltb}
use Rattle.voting_config.specs.Ids.{Id, is_id, has, put, with_id, with_room, most_ids, same, IsIdSet}
use Rattle.voting_config.proofs.Sorted.{has-with_id, list_all-put}
use Rattle.voting_config.proofs.Sets.{same_self}
use Rattle.schedule_text.specs.declared.fault.WhyBad.{WhyBad}
use Rattle.schedule_text.specs.declared.fault.WhyBad.TheVariants as why
use Rattle.schedule_text.specs.declared.level.Level.{Level}
use Rattle.schedule_text.specs.declared.level.Level.TheVariants.{Core, Node}
use Rattle.schedule_text.specs.declared.schedule.Line.{Line}
use Rattle.schedule_text.specs.declared.schedule.Line.TheVariants as line
use Rattle.schedule_text.specs.Words.{◌>>=◌, mode_text}
use Rattle.voting_config.specs.Lists.{are_ids_after, items_of, list_text}
use Rattle.voting_config.specs.Ids.{are_among}
use Rattle.schedule_text.specs.Lines.{FitsLine, line_at, line_text, words_of}
use Rattle.schedule_text.proofs.WordLaws.{lacks, ids_each, has_id, split_first, split_alone, parts_not_empty, join_split, list_law, want_ok, ok_is}
use Rattle.schedule_text.proofs.LineLaws.{line_again, line_lacks}
use Rattle.trace_reader.specs.Echoes.{echo_at, ids_in, level_of, named_in, said_by, with_word, word_at}
use Rattle.trace_reader.specs.Reading.{rest_of, words_said}
use Rattle.trace_laws.specs.Laws.{LawEcho}
use Rattle.line_laws.proofs.Plain.{spaceless, number_plain}
use Rattle.line_laws.proofs.Cuts.{done, id_lacks}
use Rattle.trace_laws.proofs.Lines.{read_by}
use Rattle.trace_laws.proofs.Sets.{all_ids, all_self, has_room}
use Rattle.trace_text.proofs.IdLists.{ids_set}

-- ---- the nodes that a line names

-- an id that is among some stays there
kept : (x w : Id) (ids : List Id) → has x ids ≡ true → has x (with_word w ids) ≡ true
kept x w ids h =
    elim (is_id w) as (λ b. has x (cond b (with_room ids w) ids) ≡ true) [
      | true ↦ elim (nat_lt (length ids) most_ids) as (λ b. has x (cond b (with_id w ids) ids) ≡ true) [
        | true ↦ has-with_id x w ids ∙ ap (λ (b : Bool). same w x || b) h ∙ or-true (same w x)
        | false ↦ h
      ]
      | false ↦ h
    ]

-- an id for which there is room is among them
named : (w : Id) (ids : List Id) → is_id w ≡ true → (has w ids ≡ false → length ids < most_ids) → has w (with_word w ids) ≡ true
named w ids good room =
    elim (has w ids) as (λ b. has w ids ≡ b → has w (with_word w ids) ≡ true) [
      | true ↦ λ e. kept w w ids e
      | false ↦ λ e.
          let taken : with_word w ids ≡ with_id w ids = rw (good, lt-ltb (length ids) most_ids (room e)) refl in
          ap (has w) taken ∙ has-with_id w w ids ∙ ap (λ (b : Bool). b || has w ids) (same_self w)
    ] refl

all_with : (w : Id) (ids : List Id) → list_all is_id ids ≡ true → list_all is_id (with_word w ids) ≡ true
all_with w ids h =
    elim (is_id w) as (λ b. is_id w ≡ b → list_all is_id (cond b (with_room ids w) ids) ≡ true) [
      | true ↦ λ e. elim (nat_lt (length ids) most_ids) as (λ b. list_all is_id (cond b (with_id w ids) ids) ≡ true) [
        | true ↦ elim (has w ids) as (λ b. list_all is_id (cond b ids (put w ids)) ≡ true) [ true ↦ h | false ↦ list_all-put is_id w ids e h ]
        | false ↦ h
      ]
      | false ↦ λ e. h
    ] refl

all_in : (w : List ℕ) → list_all is_id (ids_in w) ≡ true
all_in w =
    elim (are_ids_after [] (items_of w)) as (λ b. are_ids_after [] (items_of w) ≡ b → list_all is_id (cond b (items_of w) []) ≡ true) [
      | true ↦ λ e. ids_each is_id (λ x h. h) [] (items_of w) e
      | false ↦ λ e. refl
    ] refl

-- the nodes that a line of these words names
abbrev named_by : List (List ℕ) → List Id
named_by ws = with_word (get_or ws 2 []) (with_word (get_or ws 1 []) (ids_in (if bytes_eq (get_or ws 0 []) (codes "value") then get_or ws 4 [] else [])))

all_named : (ws : List (List ℕ)) → list_all is_id (named_by ws) ≡ true
all_named ws =
    let listed = if bytes_eq (get_or ws 0 []) (codes "value") then get_or ws 4 [] else [] in
    all_with (get_or ws 2 []) (with_word (get_or ws 1 []) (ids_in listed)) (all_with (get_or ws 1 []) (ids_in listed) (all_in listed))

few : (w : Id) → length (with_word w []) ≤ 1
few w = elim (is_id w) as (λ b. length (cond b (with_room [] w) []) ≤ 1) [ true ↦ omega arith | false ↦ omega arith ]

first_named : (n w : Id) → is_id n ≡ true → has n (with_word w (with_word n [])) ≡ true
first_named n w good = kept n w (with_word n []) (named n [] good (λ e. omega arith))

-- ---- a line by its words

echo_by : (l : Line) (ws : List (List ℕ)) → words_of (line_text l) ≡ ws → FitsLine (level_of (get_or ws 0 [])) (named_by ws) l → echo_at (line_text l) ≡ Ok (said_by l)
echo_by l ws e fits =
    let again : line_at (level_of (get_or ws 0 [])) (named_by ws) (line_text l) ≡ Ok l = line_again (level_of (get_or ws 0 [])) {ids = named_by ws} (record { each = all_named ws }) l fits in
    let read : line_at (level_of (word_at 0 (line_text l))) (named_in (line_text l)) (line_text l) ≡ Ok l =
    ap (λ (us : List (List ℕ)). line_at (level_of (get_or us 0 [])) (named_by us) (line_text l)) e ∙ again in
    ap (λ (r : Result Line WhyBad). r >>= λ (x : Line). done (said_by x)) read

-- a verb and a node, and what stands behind them
two_cut : (v n : List ℕ) → lacks 32 v ≡ true → lacks 32 n ≡ true → words_of (v ++ 32 ∷ n) ≡ v ∷ n ∷ []
two_cut v n h k = split_first 32 v n h ∙ ap (λ (t : List (List ℕ)). v ∷ t) (split_alone 32 n k)

more_cut : (v n rest : List ℕ) → lacks 32 v ≡ true → lacks 32 n ≡ true → words_of (v ++ 32 ∷ (n ++ 32 ∷ rest)) ≡ v ∷ n ∷ words_of rest
more_cut v n rest h k = split_first 32 v (n ++ 32 ∷ rest) h ∙ ap (λ (t : List (List ℕ)). v ∷ t) (split_first 32 n rest k)

-- the word behind them
abbrev behind : List ℕ → List ℕ
behind rest = get_or (words_of rest) 0 []

module _ {ids : List Id} (set : IsIdSet ids) where
  is_one : (n : Id) → has n ids ≡ true → is_id n ≡ true
  is_one n h = has_id n ids set.each h

  clear : (n : Id) → has n ids ≡ true → lacks 32 n ≡ true
  clear n h = id_lacks n (is_one n h)

  by_more : (l : Line) (v n rest : List ℕ) → line_text l ≡ v ++ 32 ∷ (n ++ 32 ∷ rest) → lacks 32 v ≡ true → has n ids ≡ true → FitsLine (level_of v) (named_by (v ∷ n ∷ words_of rest)) l → echo_at (line_text l) ≡ Ok (said_by l)
  by_more l v n rest e h k fits = echo_by l (v ∷ n ∷ words_of rest) (ap words_of e ∙ more_cut v n rest h (clear n k)) fits

  -- the list of a line `value` is read again
  list_again : (cfg : List Id) → are_ids_after [] cfg ≡ true → ids_in (list_text cfg) ≡ cfg
  list_again cfg h =
      let any = λ (xs : List Id). true in
      let read = (list_law any).again cfg (and_from _ _ h refl) in
      let got = want_ok (are_ids_after [] (items_of (list_text cfg)) && true) why.List (done (items_of (list_text cfg))) cfg read in
      let good = (and_parts (are_ids_after [] (items_of (list_text cfg))) true got.0).0 in
      rw good (ok_is (items_of (list_text cfg)) cfg got.1)

  value_again : (n : Id) (v : ℕ) (x : List ℕ) (cfg : List Id) → has n ids ≡ true → v ≤ 2 ^ 64 - 1 → is_id x ≡ true → (are_ids_after [] cfg && are_among ids cfg) ≡ true → echo_at (line_text (line.Value n v x cfg)) ≡ Ok (said_by (line.Value n v x cfg))
  value_again n v x cfg inside small text listed =
      let parts = and_parts (are_ids_after [] cfg) (are_among ids cfg) listed in
      let list = list_text cfg in
      let ws = codes "value" ∷ n ∷ decimal v ∷ x ∷ list ∷ [] in
      let digits = spaceless (decimal v) (number_plain v (omega (arith, small))) in
      let plain = spaceless list ((list_law (λ (xs : List Id). true)).plain cfg (and_from _ _ parts.0 refl)) in
      let word = id_lacks x text in
      let words : words_of (line_text (line.Value n v x cfg)) ≡ ws =
      more_cut (codes "value") n (decimal v ++ 32 ∷ (x ++ 32 ∷ list)) refl (clear n inside)
      ∙ ap (λ (t : List (List ℕ)). codes "value" ∷ n ∷ t) (more_cut (decimal v) x list digits word ∙ ap (λ (t : List (List ℕ)). decimal v ∷ x ∷ t) (split_alone 32 list plain)) in
      let set_of = ids_set cfg parts.0 in
      let prefix = with_word n cfg in
      let all : named_by ws ≡ with_word (decimal v) prefix = ap (λ (t : List Id). with_word (decimal v) (with_word n t)) (list_again cfg parts.0) in
      let first : has n prefix ≡ true = named n cfg (is_one n inside) (λ e. has_room n cfg ids set set_of.ascending parts.1 inside e) in
      let each : list_all (λ y. has y (with_word (decimal v) prefix)) cfg ≡ true =
      all_ids (λ y. has y cfg) (λ y. has y (with_word (decimal v) prefix)) (λ y h. kept y (decimal v) prefix (kept y n cfg h)) cfg (all_self cfg) in
      let good : FitsLine Core (with_word (decimal v) prefix) (line.Value n v x cfg) =
      (kept n (decimal v) prefix first, (omega arith, small), text, and_from _ _ parts.0 each) in
      echo_by (line.Value n v x cfg) ws words (subst (λ (t : List Id). FitsLine Core t (line.Value n v x cfg)) (sym all) good)

  echo_again : (level : Level) (l : Line) → FitsLine level ids l → echo_at (line_text l) ≡ Ok (said_by l)
  echo_again Core (line.Boot n) f = echo_by (line.Boot n) (codes "boot" ∷ n ∷ []) (two_cut (codes "boot") n refl (clear n f)) (first_named n [] (is_one n f))
  echo_again Core (line.StartJoin n c t) f =
      let rest = c ++ 32 ∷ decimal t in
      let words : words_of (line_text (line.StartJoin n c t)) ≡ codes "startjoin" ∷ n ∷ c ∷ words_of (decimal t) =
      more_cut (codes "startjoin") n rest refl (clear n f.0) ∙ ap (λ (x : List (List ℕ)). codes "startjoin" ∷ n ∷ x) (split_first 32 c (decimal t) (clear c f.1)) in
      echo_by (line.StartJoin n c t) (codes "startjoin" ∷ n ∷ c ∷ words_of (decimal t)) words
      (first_named n c (is_one n f.0), named c (with_word n []) (is_one c f.1) (λ e. omega (arith, few n)), f.2)
  echo_again Core (line.Value n v x cfg) f = value_again n v x cfg f.0 f.1.1 f.2 f.3
  echo_again Core (line.Deliver n k) f = by_more (line.Deliver n k) (codes "deliver") n (decimal k) refl refl f.0 (first_named n (behind (decimal k)) (is_one n f.0), f.1)
  echo_again Core (line.Crash n w) f = by_more (line.Crash n w) (codes "crash") n (mode_text w) refl refl f.0 (first_named n (behind (mode_text w)) (is_one n f.0), f.1)
  echo_again Core (line.Restart n) f = echo_by (line.Restart n) (codes "restart" ∷ n ∷ []) (two_cut (codes "restart") n refl (clear n f)) (first_named n [] (is_one n f))
  echo_again Core (line.Fuse n k w) f = by_more (line.Fuse n k w) (codes "fuse") n (decimal k ++ 32 ∷ mode_text w) refl refl f.0 (first_named n (behind (decimal k ++ 32 ∷ mode_text w)) (is_one n f.0), f.1, f.2)
  echo_again Core (line.Fail n k) f = by_more (line.Fail n k) (codes "fail") n (decimal k) refl refl f.0 (first_named n (behind (decimal k)) (is_one n f.0), f.1)
  echo_again Core (line.Tick n m w) f = absurd f
  echo_again Core (line.Client n r) f = absurd f
  echo_again Core (line.Disconnect n q) f = absurd f
  echo_again Node (line.Boot n) f = absurd f
  echo_again Node (line.StartJoin n c t) f = absurd f
  echo_again Node (line.Value n v x cfg) f = absurd f
  echo_again Node (line.Deliver n k) f = by_more (line.Deliver n k) (codes "deliver") n (decimal k) refl refl f.0 (first_named n (behind (decimal k)) (is_one n f.0), f.1)
  echo_again Node (line.Crash n w) f = by_more (line.Crash n w) (codes "crash") n (mode_text w) refl refl f.0 (first_named n (behind (mode_text w)) (is_one n f.0), f.1)
  echo_again Node (line.Restart n) f = echo_by (line.Restart n) (codes "restart" ∷ n ∷ []) (two_cut (codes "restart") n refl (clear n f)) (first_named n [] (is_one n f))
  echo_again Node (line.Fuse n k w) f = by_more (line.Fuse n k w) (codes "fuse") n (decimal k ++ 32 ∷ mode_text w) refl refl f.0 (first_named n (behind (decimal k ++ 32 ∷ mode_text w)) (is_one n f.0), f.1, f.2)
  echo_again Node (line.Fail n k) f = by_more (line.Fail n k) (codes "fail") n (decimal k) refl refl f.0 (first_named n (behind (decimal k)) (is_one n f.0), f.1)
  echo_again Node (line.Tick n m w) f = by_more (line.Tick n m w) (codes "tick") n (decimal m ++ 32 ∷ decimal w) refl refl f.0 (first_named n (behind (decimal m ++ 32 ∷ decimal w)) (is_one n f.0), f.1, f.2)
  echo_again Node (line.Disconnect n q) f =
      let words : words_of (line_text (line.Disconnect n q)) ≡ codes "disconnect" ∷ n ∷ q ∷ [] =
      more_cut (codes "disconnect") n q refl (clear n f.0) ∙ ap (λ (x : List (List ℕ)). codes "disconnect" ∷ n ∷ x) (split_alone 32 q (clear q f.1)) in
      echo_by (line.Disconnect n q) (codes "disconnect" ∷ n ∷ q ∷ []) words (first_named n q (is_one n f.0), named q (with_word n []) (is_one q f.1) (λ e. omega (arith, few n)))
  echo_again Node (line.Client n r) f = by_more (line.Client n r) (codes "client") n r refl refl f.0 (first_named n (behind r) (is_one n f.0), f.1)

-- ---- the line

rest_by : (parts : List (List ℕ)) → parts ≢ [] → rest_of parts ≡ Ok (join_with_byte 32 parts)
rest_by [] some = absurd (some refl)
rest_by (w ∷ ws) some = refl

rest_again : (text : List ℕ) → rest_of (words_of text) ≡ Ok text
rest_again text = rest_by (words_of text) (parts_not_empty 32 text) ∙ ap done (join_split 32 text)

pub echo_read : LawEcho
echo_read p level ids l set fits =
    let words : words_of (codes ">" ++ 32 ∷ line_text l) ≡ codes ">" ∷ words_of (line_text l) = split_first 32 (codes ">") (line_text l) refl in
    let read : (rest_of (words_of (line_text l)) >>= echo_at) ≡ Ok (said_by l) =
    ap (λ (r : Result (List ℕ) WhyBad). r >>= echo_at) (rest_again (line_text l)) ∙ echo_again set level l fits in
    read_by p (codes ">" ++ 32 ∷ line_text l) (said_by l) (line_lacks level (record { each = set.each }) l fits) (ap (words_said p) words ∙ read)
