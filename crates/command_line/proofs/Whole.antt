-- The whole line: which command, or none.
use Rattle.std.proofs.Common.{◌≡◌, ◌∙◌, sym, refl, ap, subst, ℕ, suc, Bool, true, false, cond, not, ◌&&◌, ◌||◌, List, [], ◌∷◌, ◌++◌, length, map, inl, inr, Option, Some, None, option_map, option_and_then, codes, arith}
use Rattle.std.specs.Prelude.{◌==◌, find, fold, slice_get, nat_lt}
use Rattle.std.specs.List.{list_all}
use Rattle.std.specs.Option.{option_or}
use Rattle.std.specs.Str.{bytes_eq}
use Rattle.std.proofs.Math.Path.{fun_ext}
use Rattle.std.proofs.lemmas.Bool.Decides.{Decides-eqb, Decides-ltb}
use Rattle.std.proofs.lemmas.Bool.{false_from_ne_true, and_parts}
use Rattle.std.proofs.lemmas.Slice.Eq.{bytes_eq-Decides}
use Rattle.clap.specs.Lexer.{long_of}
use Rattle.clap.specs.Words.{Row, fault_of, subcommand_of, first_of}
use Rattle.clap.specs.Walk.{has_row, with_default, with_values, more_values, nothing_held, stop_after}
use Rattle.clap.specs.Simple.{App, names_of, entered}
use Rattle.clap.specs.declared.builder.value_parser.Reading.TheVariants as reading
use Rattle.clap.specs.declared.parser.matches.ValueSource.TheVariants.{DefaultValue}
use Rattle.clap.specs.Faults.{built_fault}
use Rattle.command_line.specs.Given.{Text, Named, option, flag, Given, value, set, is_hyphened, long_given, word_given, given_from, given, value_in, CommandForm, chosen, words_given, unless_given, look}
use Rattle.command_line.specs.Program.{program_app, commands}
use Rattle.command_line.specs.Commands.{command_by, command_of, entered_command, is_fair, FailsToParse}
use Rattle.command_line.specs.Answers.{Fails}
use Rattle.command_line.specs.declared.command.WordsError.{WordsError}
use Rattle.command_line.specs.declared.command.WordsError.TheVariants.{Usage, Memory}
use Rattle.command_line.proofs.Walks.{IsFair, AreFair, fair_empty, fair_plain, fair_long, rules_of, row, rows, at_none}
use Rattle.command_line.proofs.Levels.{Line, all_rows, line, top}
use Rattle.command_line.proofs.Built.{built_is}

-- ---- fair words

not_empty : (n : ℕ) → (suc n == 0) ≡ false
not_empty n = false_from_ne_true _ (λ e. let bad : suc n ≡ 0 = (Decides-eqb (suc n) 0).0 e in absurd (omega arith))

fair_is : (x y z : ℕ) (zs : Text) → is_fair (x ∷ y ∷ z ∷ zs) ≡ (not (x == 45) || (nat_lt 2 (length (x ∷ y ∷ z ∷ zs)) && (y == 45)))
fair_is x y z zs = rw (not_empty (suc (suc (length zs)))) refl

pub fair_of : (w : Text) → is_fair w ≡ true → IsFair w
fair_of [] h = fair_empty
fair_of (x ∷ []) h = go (x == 45) refl h
  where
    go : (b : Bool) → (x == 45) ≡ b → (not b || false) ≡ true → IsFair (x ∷ [])
    go false e h = fair_plain x [] e
    go true e h = absurd (cc)
fair_of (x ∷ y ∷ []) h = go (x == 45) refl h
  where
    go : (b : Bool) → (x == 45) ≡ b → (not b || false) ≡ true → IsFair (x ∷ y ∷ [])
    go false e h = fair_plain x (y ∷ []) e
    go true e h = absurd (cc)
fair_of (x ∷ y ∷ z ∷ zs) h = go (x == 45) refl (sym (fair_is x y z zs) ∙ h)
  where
    go : (b : Bool) → (x == 45) ≡ b → (not b || (nat_lt 2 (length (x ∷ y ∷ z ∷ zs)) && (y == 45))) ≡ true → IsFair (x ∷ y ∷ z ∷ zs)
    go false e h = fair_plain x (y ∷ z ∷ zs) e
    go true e h =
        let first : x ≡ 45 = (Decides-eqb x 45).0 e in
        let second : y ≡ 45 = (Decides-eqb y 45).0 (and_parts _ _ h).1 in
        rw (first, second) (fair_long z zs)

pub are_fair_of : (ws : List Text) → list_all is_fair ws ≡ true → AreFair ws
are_fair_of [] h = tt
are_fair_of (w ∷ ws) h = (let parts = and_parts (is_fair w) _ h in (fair_of w parts.0, are_fair_of ws parts.1))

-- a word that is not fair
pub record IsUnfair (w : Text) : Type 0 where
  pub rest : Text
  pub is : w ≡ 45 ∷ rest
  pub none : long_of (45 ∷ rest) ≡ None

not_second : (y : ℕ) (b : Bool) → (y == 45) ≡ b → long_of (45 ∷ y ∷ []) ≡ None
not_second y true e = rw e refl
not_second y false e = rw e refl

unfair_of : (w : Text) → is_fair w ≡ false → IsUnfair w
unfair_of [] h = absurd (cc)
unfair_of (x ∷ []) h = go (x == 45) refl h
  where
    go : (b : Bool) → (x == 45) ≡ b → (not b || false) ≡ false → IsUnfair (x ∷ [])
    go false e h = absurd (cc)
    go true e h = record { rest = []; is = ap (λ (k : ℕ). k ∷ []) ((Decides-eqb x 45).0 e); none = refl }
unfair_of (x ∷ y ∷ []) h = go (x == 45) refl h
  where
    go : (b : Bool) → (x == 45) ≡ b → (not b || false) ≡ false → IsUnfair (x ∷ y ∷ [])
    go false e h = absurd (cc)
    go true e h = record { rest = y ∷ []; is = ap (λ (k : ℕ). k ∷ y ∷ []) ((Decides-eqb x 45).0 e); none = not_second y (y == 45) refl }
unfair_of (x ∷ y ∷ z ∷ zs) h = go (x == 45) refl (sym (fair_is x y z zs) ∙ h)
  where
    long : nat_lt 2 (length (x ∷ y ∷ z ∷ zs)) ≡ true
    long = (Decides-ltb 2 (length (x ∷ y ∷ z ∷ zs))).1 (omega arith)

    go : (b : Bool) → (x == 45) ≡ b → (not b || (nat_lt 2 (length (x ∷ y ∷ z ∷ zs)) && (y == 45))) ≡ false → IsUnfair (x ∷ y ∷ z ∷ zs)
    go false e h = absurd (cc)
    go true e h =
        let other : (y == 45) ≡ false = rw long at h in
        record { rest = y ∷ z ∷ zs; is = ap (λ (k : ℕ). k ∷ y ∷ z ∷ zs) ((Decides-eqb x 45).0 e); none = rw other refl }

both_none : (b : Bool) (o : Option (List Given)) → o ≡ None → cond b None o ≡ None
both_none true o e = refl
both_none false o e = e

long_none : (ks : List Named) (k : Option Named) (v : Option Text) (go : Option Text → Option (List Given)) → ((x : Option Text) → go x ≡ None) → long_given k v go ≡ None
long_none ks None v go h = refl
long_none ks (Some (option n)) (Some u) go h = rw (h None) refl
long_none ks (Some (option n)) None go h = h (Some n)
long_none ks (Some (flag n)) (Some u) go h = refl
long_none ks (Some (flag n)) None go h = rw (h None) refl

word_none : (ks : List Named) (o : Option (Text × Option Text)) (go : Option Text → Option (List Given)) → ((x : Option Text) → go x ≡ None) → word_given ks o go ≡ None
word_none ks None go h = refl
word_none ks (Some p) go h = long_none ks _ p.1 go h

unfair_given : (ks : List Named) (w : Text) (ws : List Text) → IsUnfair w → (waiting : Option Text) → given_from ks waiting (w ∷ ws) ≡ None
unfair_given ks w ws u waiting = rw u.is (go waiting)
  where
    go : (waiting : Option Text) → given_from ks waiting ((45 ∷ u.rest) ∷ ws) ≡ None
    go None = ap (λ (o : Option (Text × Option Text)). word_given ks o (λ x. given_from ks x ws)) u.none
    go (Some n) = refl

later_unfair : (ks : List Named) (w : Text) (ws : List Text) → ((x : Option Text) → given_from ks x ws ≡ None) → (waiting : Option Text) → given_from ks waiting (w ∷ ws) ≡ None
later_unfair ks w ws h None = word_none ks (long_of w) (λ x. given_from ks x ws) h
later_unfair ks w ws h (Some n) = both_none (is_hyphened w) _ (rw (h None) refl)

unfair_words : (ks : List Named) (ws : List Text) → list_all is_fair ws ≡ false → (waiting : Option Text) → given_from ks waiting ws ≡ None
unfair_words ks [] h = absurd (cc)
unfair_words ks (w ∷ ws) h = go (is_fair w) (λ e. unfair_words ks ws e) refl h
  where
    go : (b : Bool) → (list_all is_fair ws ≡ false → (x : Option Text) → given_from ks x ws ≡ None) → is_fair w ≡ b → (b && list_all is_fair ws) ≡ false → (waiting : Option Text) → given_from ks waiting (w ∷ ws) ≡ None
    go true below e h = later_unfair ks w ws (below h)
    go false below e h = unfair_given ks w ws (unfair_of w e)

first_unfair : (w : Text) (ws : List Text) → IsUnfair w → words_given commands (w ∷ ws) ≡ None
first_unfair w ws u = rw u.is refl

rest_unfair : (w : Text) (ws : List Text) (o : Option CommandForm) → list_all is_fair ws ≡ false → option_and_then (λ c. option_map {U = CommandForm × List Given} (λ gs. (c, gs)) (given c.1 ws)) o ≡ None
rest_unfair w ws None h = refl
rest_unfair w ws (Some c) h = rw (unfair_words c.1 ws h None) refl

pub unfair_none : (words : List Text) → list_all is_fair words ≡ false → command_of words ≡ None
unfair_none [] h = refl
unfair_none (w ∷ ws) h = go (is_fair w) refl h
  where
    go : (b : Bool) → is_fair w ≡ b → (b && list_all is_fair ws) ≡ false → command_of (w ∷ ws) ≡ None
    go true e h = ap (option_and_then (λ (p : CommandForm × List Given). command_by p.0.0 (look p.0.1 p.1))) (rest_unfair w ws (chosen commands w) h)
    go false e h = ap (option_and_then (λ (p : CommandForm × List Given). command_by p.0.0 (look p.0.1 p.1))) (first_unfair w ws (unfair_of w e))

-- ---- the values of a command

same_rows : (b : Bool) (rs : List Row) → cond b rs rs ≡ rs
same_rows true rs = refl
same_rows false rs = refl

-- each row has a value
abbrev Full : List Row → Type 0
Full [] = Unit {0}
Full (r ∷ rs) = ((v : Text) × (slice_get r.values 0 ≡ Some v)) × Full rs

full_rows : (gs : List Given) → Full (rows gs)
full_rows [] = tt
full_rows (value n v ∷ gs) = ((v, refl), full_rows gs)
full_rows (set n ∷ gs) = ((codes "true", refl), full_rows gs)

-- the row of a flag that is not given
abbrev off : Text → Row
off m = record { id = m; values = codes "false" ∷ []; count = None; source = Some DefaultValue; reading = reading.AsWritten }

full_more : (rs : List Row) (m : Text) → Full rs → Full (rs ++ off m ∷ [])
full_more [] m f = ((codes "false", refl), tt)
full_more (r ∷ rs) m f = (f.0, full_more rs m f.1)

abbrev first_in : Option Row → Option Text
first_in = option_and_then (λ (r : Row). slice_get r.values 0)

first_more : (rs : List Row) (m n : Text) → Full rs → first_of n (rs ++ off m ∷ []) ≡ option_or (first_of n rs) (cond (bytes_eq m n) (Some (codes "false")) None)
first_more [] m n f =
    elim (bytes_eq m n) as (λ b. first_in (cond b (Some (off m)) None) ≡ cond b (Some (codes "false")) None) [ true ↦ refl | false ↦ refl ]
first_more (r ∷ rs) m n f =
    elim (bytes_eq r.id n) as (λ b. first_in (cond b (Some r) (find (λ r. bytes_eq r.id n) (rs ++ off m ∷ []))) ≡ option_or (first_in (cond b (Some r) (find (λ r. bytes_eq r.id n) rs))) (cond (bytes_eq m n) (Some (codes "false")) None)) [
      | true ↦ rw f.0.1 refl
      | false ↦ first_more rs m n f.1
    ]

found_full : (rs : List Row) (n : Text) (o : Option Text) → Full rs → has_row n rs ≡ true → option_or (first_of n rs) o ≡ first_of n rs
found_full [] n o f h = absurd (cc)
found_full (r ∷ rs) n o f h = go (bytes_eq r.id n) (λ e. found_full rs n o f.1 e) h
  where
    go : (b : Bool) → (has_row n rs ≡ true → option_or (first_of n rs) o ≡ first_of n rs) → (b || has_row n rs) ≡ true → option_or (first_in (cond b (Some r) (find (λ r. bytes_eq r.id n) rs))) o ≡ first_in (cond b (Some r) (find (λ r. bytes_eq r.id n) rs))
    go true below e = rw f.0.1 refl
    go false below e = below e

or_none : (o : Option Text) → option_or o None ≡ o
or_none None = refl
or_none (Some x) = refl

or_more : (a d : Option Text) (b : Bool) (x : Text) → option_or (option_or a (cond b (Some x) None)) d ≡ option_or a (cond b (Some x) d)
or_more None d true x = refl
or_more None d false x = refl
or_more (Some y) d b x = refl

-- the rows with the defaults, looked up
with_defaults : (ks : List Named) (rs : List Row) (n : Text) → Full rs → first_of n (fold with_default rs (rules_of ks)) ≡ option_or (first_of n rs) (unless_given ks n)
with_defaults [] rs n f = sym (or_none (first_of n rs))
with_defaults (option m ∷ ks) rs n f = ap (λ (r : List Row). first_of n (fold with_default r (rules_of ks))) (same_rows (has_row m rs) rs) ∙ with_defaults ks rs n f
with_defaults (flag m ∷ ks) rs n f = go (has_row m rs) refl (λ r g. with_defaults ks r n g)
  where
    again : (b : Bool) → bytes_eq m n ≡ b → has_row m rs ≡ true → option_or (first_of n rs) (unless_given ks n) ≡ option_or (first_of n rs) (cond b (Some (codes "false")) (unless_given ks n))
    again true e h =
        let there : has_row n rs ≡ true = subst (λ (t : Text). has_row t rs ≡ true) ((bytes_eq-Decides m n).0 e) h in
        found_full rs n (unless_given ks n) f there ∙ sym (found_full rs n (Some (codes "false")) f there)
    again false e h = refl

    go : (b : Bool) → has_row m rs ≡ b → ((r : List Row) → Full r → first_of n (fold with_default r (rules_of ks)) ≡ option_or (first_of n r) (unless_given ks n))
        → first_of n (fold with_default (cond b rs (with_values m reading.AsWritten DefaultValue (codes "false" ∷ []) rs)) (rules_of ks)) ≡ option_or (first_of n rs) (cond (bytes_eq m n) (Some (codes "false")) (unless_given ks n))
    go true h below = below rs f ∙ again (bytes_eq m n) refl h
    go false h below =
        let grown : with_values m reading.AsWritten DefaultValue (codes "false" ∷ []) rs ≡ rs ++ off m ∷ [] = at_none rs m (more_values DefaultValue (codes "false" ∷ [])) (off m ∷ []) h in
        ap (λ (r : List Row). first_of n (fold with_default r (rules_of ks))) grown
        ∙ below (rs ++ off m ∷ []) (full_more rs m f)
        ∙ ap (λ (o : Option Text). option_or o (unless_given ks n)) (first_more rs m n f)
        ∙ or_more (first_of n rs) (unless_given ks n) (bytes_eq m n) (codes "false")

first_rows : (gs : List Given) (n : Text) → first_of n (rows gs) ≡ value_in n gs
first_rows [] n = refl
first_rows (value m v ∷ gs) n =
    elim (bytes_eq m n) as (λ b. first_in (cond b (Some (row (value m v))) (find (λ r. bytes_eq r.id n) (rows gs))) ≡ cond b (Some v) (value_in n gs)) [ true ↦ refl | false ↦ first_rows gs n ]
first_rows (set m ∷ gs) n =
    elim (bytes_eq m n) as (λ b. first_in (cond b (Some (row (set m))) (find (λ r. bytes_eq r.id n) (rows gs))) ≡ cond b (Some (codes "true")) (value_in n gs)) [ true ↦ refl | false ↦ first_rows gs n ]

abbrev clap_look : List Named → List Given → Text → Option Text
clap_look ks gs n = first_of n (all_rows ks gs)

looks : (ks : List Named) (gs : List Given) → clap_look ks gs ≡ look ks gs
looks ks gs = fun_ext (λ n. with_defaults ks (rows gs) n (full_rows gs) ∙ ap (λ (o : Option Text). option_or o (unless_given ks n)) (first_rows gs n))

-- ---- from clap's answer

fault_is : (words : List Text) → fault_of program_app words ≡ built_fault (top commands) nothing_held words
fault_is words = ap (λ (a : App). built_fault a nothing_held words) built_is

sub_is : (words : List Text) → subcommand_of program_app words ≡ entered (top commands) (stop_after [] (names_of (top commands)) words)
sub_is words = ap (λ (a : App). entered a (stop_after a.top.rules (names_of a) words)) built_is

pub taken_is : (words : List Text) → list_all is_fair words ≡ true → fault_of program_app words ≡ [] → entered_command (subcommand_of program_app words) ≡ command_of words
taken_is words fair none = ap entered_command (sub_is words) ∙ go (words_given commands words) (line commands words (are_fair_of words fair))
  where
    go : (o : Option (CommandForm × List Given)) → Line commands words o → entered_command (entered (top commands) (stop_after [] (names_of (top commands)) words)) ≡ option_and_then (λ (p : CommandForm × List Given). command_by p.0.0 (look p.0.1 p.1)) o
    go None (inl e) = rw e refl
    go None (inr f) = absurd (f (sym (fault_is words) ∙ none))
    go (Some p) h = ap entered_command h.enters ∙ ap (command_by p.0.0) (looks p.0.1 p.1)

pub refused_is : (words : List Text) → list_all is_fair words ≡ true → ¬ (fault_of program_app words ≡ []) → command_of words ≡ None
refused_is words fair fails = go (words_given commands words) (line commands words (are_fair_of words fair))
  where
    go : (o : Option (CommandForm × List Given)) → Line commands words o → option_and_then (λ (p : CommandForm × List Given). command_by p.0.0 (look p.0.1 p.1)) o ≡ None
    go None h = refl
    go (Some p) h = absurd (fails (fault_is words ∙ h.passes))

pub fair_map : {X : Type 0} (f : X → Text) (xs : List X) → list_all (λ x. is_fair (f x)) xs ≡ list_all is_fair (map f xs)
fair_map f [] = refl
fair_map f (x ∷ xs) = ap (λ b. is_fair (f x) && b) (fair_map f xs)

pub err_is : (e : WordsError) (words : List Text) → list_all is_fair words ≡ true → FailsToParse e words → Fails e (command_of words)
err_is Usage words fair h = refused_is words fair h
err_is Memory words fair h = tt
