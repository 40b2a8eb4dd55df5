-- What clap makes of a command's words, and of a whole command line.
use Rattle.std.proofs.Common.{◌≡◌, ◌∙◌, sym, refl, ap, Bool, true, false, cond, not, ◌&&◌, ◌||◌, List, [], ◌∷◌, ◌++◌, map, ◌⊎◌, inl, inr, Option, Some, None, option_map, option_and_then, is_some, codes, append-nil, append_assoc}
use Rattle.std.specs.Prelude.{find, fold, if◌then◌else◌}
use Rattle.std.specs.List.{list_any}
use Rattle.std.specs.Option.{option_map_or}
use Rattle.std.specs.Str.{bytes_eq}
use Rattle.std.proofs.lemmas.Slice.Eq.{bytes_eq-Decides}
use Rattle.clap.specs.declared.error.kind.ErrorKind.TheVariants as kind
use Rattle.clap.specs.Kinds.{Kinds, or_else}
use Rattle.clap.specs.Walk.{Row, Walk, Names, idle, after_step, subcommand_or_other, has_row, with_default, walk_from, nothing_held, walked, answers_to, settled, walk, finished, rows_after, stop_after}
use Rattle.clap.specs.Simple.{App, Shape, new_shape, label_of, names_of, entered, rows_at}
use Rattle.clap.specs.Takes.{is_given}
use Rattle.clap.specs.Faults.{turn_fault, other_fault, step_fault, walk_fault, settle_fault, level_fault, default_fault, defaults_fault, check_fault, entered_fault, built_fault}
use Rattle.command_line.specs.Given.{Text, Named, option, flag, Given, given_from, is_fresh, given, CommandForm, chosen, words_given}
use Rattle.command_line.proofs.Walks.{rule, rules_of, leaf, rows, at, ends, checked, Runs, AreFair, IsFair, fair_empty, fair_plain, fair_long, not_short, left_empty, runs}

-- ---- a level

none_wanted : (b : Bool) (ks : Kinds) → cond (b || true) [] ks ≡ []
none_wanted true ks = refl
none_wanted false ks = refl

none_fails : (b : Bool) (ks : Kinds) → ks ≡ [] → cond (b || false) [] ks ≡ []
none_fails true ks e = refl
none_fails false ks e = e

default_passes : (k : Named) (rs : List Row) → default_fault rs (rule k) ≡ []
default_passes (option n) rs = none_wanted (has_row n rs) _
default_passes (flag n) rs = none_fails (has_row n rs) _ refl

defaults_pass : (ks : List Named) (rs : List Row) → defaults_fault rs (rules_of ks) ≡ []
unfolding defaults_fault
defaults_pass [] rs = refl
defaults_pass (k ∷ ks) rs = rw (default_passes k rs) (defaults_pass ks (with_default rs (rule k)))

none_required : (ks : List Named) (rs : List Row) → list_any (λ a. a.required && not (is_given a.id rs)) (rules_of ks) ≡ false
none_required [] rs = refl
none_required (option n ∷ ks) rs = none_required ks rs
none_required (flag n ∷ ks) rs = none_required ks rs

check_passes : (name : Text) (ks : List Named) (rs : List Row) → check_fault (leaf name ks) rs false ≡ []
check_passes name ks rs = rw (none_required ks rs) refl

or_else_none : (a : Kinds) → or_else a [] ≡ a
or_else_none [] = refl
or_else_none (k ∷ a) = refl

level_is : (name : Text) (ks : List Named) (words : List Text) → level_fault (leaf name ks) [] nothing_held words false [] ≡ ends name ks (at [] None idle) words
level_is name ks words =
    let end = (walk (rules_of ks) [] nothing_held words).held in
    rw (defaults_pass ks (settled (rules_of ks) end).rows, check_passes name ks (finished (rules_of ks) end))
    (ap (λ (s : Kinds). or_else (walk_fault (leaf name ks) [] (at [] None idle) words) s) (or_else_none _))

-- the rows of a level, where it takes the words
abbrev pub all_rows : List Named → List Given → List Row
all_rows ks gs = fold with_default (rows gs) (rules_of ks)

abbrev pub Level : Text → List Named → List Text → Option (List Given) → Type 0
Level name ks words None = ¬ (level_fault (leaf name ks) [] nothing_held words false [] ≡ [])
Level name ks words (Some gs) = (level_fault (leaf name ks) [] nothing_held words false [] ≡ []) × (rows_after (rules_of ks) [] words ≡ all_rows ks gs)

level_from : (name : Text) (ks : List Named) (words : List Text) (o : Option (List Given)) → Runs name ks (at [] None idle) words (checked [] o) → Level name ks words (option_and_then (λ gs. if is_fresh [] gs then Some gs else None) o)
level_from name ks words None h = λ e. h (sym (level_is name ks words) ∙ e)
level_from name ks words (Some gs) h =
    let go : (b : Bool) → Runs name ks (at [] None idle) words (cond b (Some (rows gs)) None) → Level name ks words (cond b (Some gs) None) =
    λ b. elim b as (λ b. Runs name ks (at [] None idle) words (cond b (Some (rows gs)) None) → Level name ks words (cond b (Some gs) None)) [
      | true ↦ λ r. (level_is name ks words ∙ r.0, ap (λ (rs : List Row). fold with_default rs (rules_of ks)) r.1)
      | false ↦ λ r e. r (sym (level_is name ks words) ∙ e)
    ] in
    go (is_fresh [] gs) h

-- a command takes the words that give it something
pub level : (name : Text) (ks : List Named) (words : List Text) → AreFair words → Level name ks words (given ks words)
level name ks words fair = level_from name ks words (given_from ks None words) ((runs name ks words fair).0 [])

-- ---- the whole line

abbrev pub top_shape : Shape
top_shape = record (new_shape (codes "zen")) {
  is_leaf = false;
  no_binary_name = true;
  disable_help_flag = true;
  disable_help_subcommand = true;
  disable_version_flag = true;
  is_built = true;
}

abbrev pub leaf_of : CommandForm → Shape
leaf_of c = leaf c.0 c.1

abbrev pub top : List CommandForm → App
top cs = record { top = top_shape; subs = map leaf_of cs }

find_name : (cs : List CommandForm) (w : Text) → option_map (λ s. s.0) (find (answers_to w) (names_of (top cs))) ≡ option_map (λ c. c.0) (chosen cs w)
find_name [] w = refl
find_name (c ∷ cs) w =
    elim (bytes_eq c.0 w) as (λ b. option_map (λ s. s.0) (cond (b || false) (Some (c.0, [])) (find (answers_to w) (names_of (top cs)))) ≡ option_map (λ d. d.0) (cond b (Some c) (chosen cs w))) [ true ↦ refl | false ↦ find_name cs w ]

find_sub : (cs : List CommandForm) (w : Text) → find (λ s. answers_to w (label_of s)) (map leaf_of cs) ≡ option_map leaf_of (chosen cs w)
find_sub [] w = refl
find_sub (c ∷ cs) w =
    elim (bytes_eq c.0 w) as (λ b. cond (b || false) (Some (leaf_of c)) (find (λ s. answers_to w (label_of s)) (map leaf_of cs)) ≡ option_map leaf_of (cond b (Some c) (chosen cs w))) [ true ↦ refl | false ↦ find_sub cs w ]

chosen_name : (cs : List CommandForm) (w : Text) (c : CommandForm) → chosen cs w ≡ Some c → c.0 ≡ w
chosen_name [] w c e = absurd (cc)
chosen_name (d ∷ cs) w c e =
    let go : (b : Bool) → bytes_eq d.0 w ≡ b → cond b (Some d) (chosen cs w) ≡ Some c → c.0 ≡ w =
    λ b. elim b as (λ b. bytes_eq d.0 w ≡ b → cond b (Some d) (chosen cs w) ≡ Some c → c.0 ≡ w) [
      | true ↦ λ x z. let same : d ≡ c = cc in ap (λ (f : CommandForm). f.0) (sym same) ∙ (bytes_eq-Decides d.0 w).0 x
      | false ↦ λ x z. chosen_name cs w c z
    ] in
    go (bytes_eq d.0 w) refl e

-- the walk before and after the command's name
abbrev start : Walk
start = walk_from nothing_held

abbrev stopped_at : Text → List Text → Walk
stopped_at name words = record start { stopped = Some (name, words) }

abbrev top_turn : Option Text → Text → Kinds
top_turn o word = or_else (other_fault top_shape o word nothing_held) (let met = subcommand_or_other [] o idle 1 word nothing_held in step_fault top_shape 1 met.0 met.1)

abbrev top_walked : Option Text → Text → Walk
top_walked o word = let met = subcommand_or_other [] o idle 1 word nothing_held in after_step [] word start met.0 met.1

turn_top : (cs : List CommandForm) (w : Text) → turn_fault top_shape (names_of (top cs)) start w ≡ top_turn (option_map (λ c. c.0) (chosen cs w)) w
turn_top cs w = ap (λ (o : Option Text). top_turn o w) (find_name cs w)

walked_top : (cs : List CommandForm) (w : Text) → walked [] (names_of (top cs)) start w ≡ top_walked (option_map (λ c. c.0) (chosen cs w)) w
unfolding walked
walked_top cs w = ap (λ (o : Option Text). top_walked o w) (find_name cs w)

no_help : (b : Bool) (ks : Kinds) → or_else (cond (b && false) ks []) [] ≡ []
no_help true ks = refl
no_help false ks = refl

name_turn : (name w : Text) → top_turn (Some name) w ≡ []
name_turn name w = no_help (bytes_eq name (codes "help")) _

other_turn : (w : Text) → IsFair w → ¬ (top_turn None w ≡ [])
other_turn _ fair_empty e = let bad : kind.UnknownArgument ∷ kind.InvalidSubcommand ∷ [] ≡ [] = e in absurd (cc)
other_turn _ (fair_plain x xs f) e = let bad : kind.UnknownArgument ∷ kind.InvalidSubcommand ∷ [] ≡ [] = rw (f, not_short x xs f) at e in absurd (cc)
other_turn _ (fair_long x xs) e = let bad : kind.UnknownArgument ∷ [] ≡ [] = e in absurd (cc)

rest_walk : (names : Names) (name : Text) (prefix ws : List Text) → fold (walked [] names) (stopped_at name prefix) ws ≡ stopped_at name (prefix ++ ws)
unfolding walked
rest_walk names name prefix [] = ap (stopped_at name) (sym (append-nil prefix))
rest_walk names name prefix (w ∷ ws) = rest_walk names name (prefix ++ w ∷ []) ws ∙ ap (stopped_at name) (append_assoc prefix (w ∷ []) ws)

rest_passes : (names : Names) (name : Text) (prefix ws : List Text) → walk_fault top_shape names (stopped_at name prefix) ws ≡ []
unfolding walk_fault walked
rest_passes names name prefix [] = refl
rest_passes names name prefix (w ∷ ws) = rest_passes names name (prefix ++ w ∷ []) ws

top_checks : (b : Bool) (rs : List Row) → check_fault top_shape rs b ≡ []
top_checks true rs = refl
top_checks false rs = refl

known_walk : (cs : List CommandForm) (w : Text) (ws : List Text) (c : CommandForm) → chosen cs w ≡ Some c → fold (walked [] (names_of (top cs))) start (w ∷ ws) ≡ stopped_at c.0 ws
known_walk cs w ws c e =
    ap (λ (v : Walk). fold (walked [] (names_of (top cs))) v ws) (walked_top cs w ∙ ap (λ (o : Option CommandForm). top_walked (option_map (λ c. c.0) o) w) e)
    ∙ rest_walk (names_of (top cs)) c.0 [] ws

known_passes : (cs : List CommandForm) (w : Text) (ws : List Text) (c : CommandForm) → chosen cs w ≡ Some c → walk_fault top_shape (names_of (top cs)) start (w ∷ ws) ≡ []
unfolding walk_fault
known_passes cs w ws c e =
    let t : turn_fault top_shape (names_of (top cs)) start w ≡ [] = turn_top cs w ∙ ap (λ (o : Option CommandForm). top_turn (option_map (λ c. c.0) o) w) e ∙ name_turn c.0 w in
    let v : walked [] (names_of (top cs)) start w ≡ stopped_at c.0 [] = walked_top cs w ∙ ap (λ (o : Option CommandForm). top_walked (option_map (λ c. c.0) o) w) e in
    rw t (ap (λ (x : Walk). walk_fault top_shape (names_of (top cs)) x ws) v ∙ rest_passes (names_of (top cs)) c.0 [] ws)

known_again : (cs : List CommandForm) (w : Text) (c : CommandForm) → chosen cs w ≡ Some c → chosen cs c.0 ≡ Some c
known_again cs w c e = ap (chosen cs) (chosen_name cs w c e) ∙ e

-- what fails of a line, from where its walk ended
abbrev line_from : List CommandForm → Kinds → Walk → Kinds
line_from cs before v =
    or_else before (or_else (entered_fault (top cs) v.stopped) (or_else (settle_fault [] false v.held) (or_else (defaults_fault (settled [] v.held).rows []) (check_fault top_shape (finished [] v.held) (is_some (entered (top cs) v.stopped))))))

line_is : (cs : List CommandForm) (words : List Text) → built_fault (top cs) nothing_held words ≡ line_from cs (walk_fault top_shape (names_of (top cs)) start words) (fold (walked [] (names_of (top cs))) start words)
line_is cs words = refl

sub_fault : (cs : List CommandForm) (ws : List Text) (c : CommandForm) → chosen cs c.0 ≡ Some c → entered_fault (top cs) (Some (c.0, ws)) ≡ level_fault (leaf_of c) [] nothing_held ws false []
sub_fault cs ws c e = ap (λ (o : Option Shape). option_map_or (λ s. level_fault s [] nothing_held ws false []) o []) (find_sub cs c.0 ∙ ap (option_map leaf_of) e)

known_fault : (cs : List CommandForm) (w : Text) (ws : List Text) (c : CommandForm) → chosen cs w ≡ Some c → built_fault (top cs) nothing_held (w ∷ ws) ≡ level_fault (leaf_of c) [] nothing_held ws false []
unfolding defaults_fault
known_fault cs w ws c e =
    line_is cs (w ∷ ws)
    ∙ ap (λ (v : Walk). line_from cs (walk_fault top_shape (names_of (top cs)) start (w ∷ ws)) v) (known_walk cs w ws c e)
    ∙ ap (λ (k : Kinds). line_from cs k (stopped_at c.0 ws)) (known_passes cs w ws c e)
    ∙ ap (λ (k : Kinds). or_else (entered_fault (top cs) (Some (c.0, ws))) k) (top_checks (is_some (entered (top cs) (Some (c.0, ws)))) [])
    ∙ or_else_none (entered_fault (top cs) (Some (c.0, ws)))
    ∙ sub_fault cs ws c (known_again cs w c e)

known_entered : (cs : List CommandForm) (w : Text) (ws : List Text) (c : CommandForm) → chosen cs w ≡ Some c → entered (top cs) (stop_after [] (names_of (top cs)) (w ∷ ws)) ≡ Some (c.0, rows_after (rules_of c.1) [] ws)
known_entered cs w ws c e =
    ap (λ (v : Walk). entered (top cs) v.stopped) (known_walk cs w ws c e)
    ∙ ap (λ (o : Option Shape). option_map (λ s. rows_at s ws) o) (find_sub cs c.0 ∙ ap (option_map leaf_of) (known_again cs w c e))

unknown_fault : (cs : List CommandForm) (w : Text) (ws : List Text) → IsFair w → chosen cs w ≡ None → ¬ (built_fault (top cs) nothing_held (w ∷ ws) ≡ [])
unfolding walk_fault
unknown_fault cs w ws fair e h =
    let t : turn_fault top_shape (names_of (top cs)) start w ≡ [] = left_empty _ _ (left_empty _ _ h) in
    other_turn w fair (sym (turn_top cs w ∙ ap (λ (o : Option CommandForm). top_turn (option_map (λ c. c.0) o) w) e) ∙ t)

-- A line that gives nothing is refused, or enters no command. One that gives something is taken, and enters its command.
pub record Enters (cs : List CommandForm) (words : List Text) (p : CommandForm × List Given) : Type 0 where
  pub passes : built_fault (top cs) nothing_held words ≡ []
  pub enters : entered (top cs) (stop_after [] (names_of (top cs)) words) ≡ Some (p.0.0, all_rows p.0.1 p.1)

abbrev pub Line : List CommandForm → List Text → Option (CommandForm × List Given) → Type 0
Line cs words None = (words ≡ []) ⊎ ¬ (built_fault (top cs) nothing_held words ≡ [])
Line cs words (Some p) = Enters cs words p

line_entry : (cs : List CommandForm) (w : Text) (ws : List Text) (c : CommandForm) (o : Option (List Given)) → chosen cs w ≡ Some c → Level c.0 c.1 ws o → Line cs (w ∷ ws) (option_map (λ gs. (c, gs)) o)
line_entry cs w ws c None e h = inr (λ z. h (sym (known_fault cs w ws c e) ∙ z))
line_entry cs w ws c (Some gs) e h = record {
  passes = known_fault cs w ws c e ∙ h.0;
  enters = known_entered cs w ws c e ∙ ap (λ (rs : List Row). Some (c.0, rs)) h.1;
}

line_word : (cs : List CommandForm) (w : Text) (ws : List Text) (o : Option CommandForm) → IsFair w → AreFair ws → chosen cs w ≡ o → Line cs (w ∷ ws) (option_and_then (λ c. option_map (λ gs. (c, gs)) (given c.1 ws)) o)
line_word cs w ws None fair rest e = inr (unknown_fault cs w ws fair e)
line_word cs w ws (Some c) fair rest e = line_entry cs w ws c (given c.1 ws) e (level c.0 c.1 ws rest)

pub line : (cs : List CommandForm) (words : List Text) → AreFair words → Line cs words (words_given cs words)
line cs [] fair = inl refl
line cs (w ∷ ws) fair = line_word cs w ws (chosen cs w) fair.0 fair.1 refl
