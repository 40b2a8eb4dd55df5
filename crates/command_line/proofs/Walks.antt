-- What clap's walk makes of words, where the rules are options and flags with long names.
use Rattle.std.proofs.Common.{◌≡◌, ◌∙◌, sym, refl, ap, subst, ℕ, Bool, true, false, cond, ◌&&◌, ◌||◌, List, [], ◌∷◌, ◌++◌, map, Option, Some, None, option_map, option_and_then, codes, append-nil, append_assoc}
use Rattle.std.proofs.lemmas.List.{map_push}
use Rattle.std.proofs.lemmas.Slice.Eq.{bytes_eq-Decides}
use Rattle.clap.specs.declared.error.kind.ErrorKind.TheVariants as kind
use Rattle.std.specs.Prelude.{◌==◌, fold, if◌then◌else◌}
use Rattle.std.specs.Option.{option_map_or}
use Rattle.std.specs.Str.{bytes_eq}
use Rattle.clap.specs.Lexer.{name_and_value, short_of, long_of}
use Rattle.clap.specs.Kinds.{Kinds, or_else}
use Rattle.clap.specs.Walk.{Held, Row, Rule, Waiting, Walk, idle, arg_by_id, arg_by_long, arg_by_index, has_row, without, at_row, more_values, used, settled, walked, long_word, long_met, after_flag, after_step, option_word, used_by_id}
use Rattle.clap.specs.Walk.{option as waits_for}
use Rattle.clap.specs.Simple.{Shape, new_rule, new_shape}
use Rattle.clap.specs.Faults.{turn_fault, walk_fault, settle_fault, use_fault, long_fault, step_fault, positional_fault}
use Rattle.clap.specs.declared.builder.action.ArgAction.TheVariants.{Set, SetTrue}
use Rattle.clap.specs.declared.builder.value_parser.ValueParser.TheVariants as vp
use Rattle.clap.specs.declared.builder.value_parser.Reading.TheVariants as reading
use Rattle.clap.specs.declared.parser.matches.ValueSource.TheVariants.{CommandLine}
use Rattle.command_line.specs.Given.{Text, Named, option, flag, name_of, named, Given, value, set, given_name, has_name, is_hyphened, long_given, given_from, is_fresh}

-- ---- the rules, as they are built

abbrev pub rule : Named → Rule
rule (option n) = record (new_rule n) {
  long = Some n;
  action = Some Set;
  parser = Some vp.String;
  range = Some (record { start_inclusive = 1; end_inclusive = 1 });
}
rule (flag n) = record (new_rule n) {
  long = Some n;
  action = Some SetTrue;
  defaults = codes "false" ∷ [];
  missing = codes "true" ∷ [];
  parser = Some vp.Bool;
  range = Some (record { start_inclusive = 0; end_inclusive = 0 });
}

abbrev pub rules_of : List Named → List Rule
rules_of ks = map rule ks

abbrev pub leaf : Text → List Named → Shape
leaf name ks = record (new_shape name) {
  rules = rules_of ks;
  no_binary_name = true;
  disable_help_flag = true;
  disable_help_subcommand = true;
  disable_version_flag = true;
  is_built = true;
}

by_id : (ks : List Named) (id : Text) → arg_by_id (rules_of ks) id ≡ option_map rule (named ks id)
by_id [] id = refl
by_id (option n ∷ ks) id =
    elim (bytes_eq n id) as (λ b. cond b (Some (rule (option n))) (arg_by_id (rules_of ks) id) ≡ option_map rule (cond b (Some (option n)) (named ks id))) [ true ↦ refl | false ↦ by_id ks id ]
by_id (flag n ∷ ks) id =
    elim (bytes_eq n id) as (λ b. cond b (Some (rule (flag n))) (arg_by_id (rules_of ks) id) ≡ option_map rule (cond b (Some (flag n)) (named ks id))) [ true ↦ refl | false ↦ by_id ks id ]

by_long : (ks : List Named) (name : Text) → arg_by_long (rules_of ks) name ≡ option_map rule (named ks name)
by_long [] name = refl
by_long (option n ∷ ks) name =
    elim (bytes_eq n name) as (λ b. cond (true && (b || false)) (Some (rule (option n))) (arg_by_long (rules_of ks) name) ≡ option_map rule (cond b (Some (option n)) (named ks name))) [ true ↦ refl | false ↦ by_long ks name ]
by_long (flag n ∷ ks) name =
    elim (bytes_eq n name) as (λ b. cond (true && (b || false)) (Some (rule (flag n))) (arg_by_long (rules_of ks) name) ≡ option_map rule (cond b (Some (flag n)) (named ks name))) [ true ↦ refl | false ↦ by_long ks name ]

by_index : (ks : List Named) (i : ℕ) → arg_by_index (rules_of ks) i ≡ None
by_index [] i = refl
by_index (option n ∷ ks) i = by_index ks i
by_index (flag n ∷ ks) i = by_index ks i

-- ---- rows

abbrev pub row : Given → Row
row (value n v) = record { id = n; values = v ∷ []; count = None; source = Some CommandLine; reading = reading.AsWritten }
row (set n) = record { id = n; values = codes "true" ∷ []; count = None; source = Some CommandLine; reading = reading.AsWritten }

abbrev pub rows : List Given → List Row
rows gs = map row gs

has_row_is : (gs : List Given) (n : Text) → has_row n (rows gs) ≡ has_name n gs
has_row_is [] n = refl
has_row_is (value m v ∷ gs) n = ap (λ b. bytes_eq m n || b) (has_row_is gs n)
has_row_is (set m ∷ gs) n = ap (λ b. bytes_eq m n || b) (has_row_is gs n)

pub at_none : (rs : List Row) (n : Text) (change : Row → List Row) (missing : List Row) → has_row n rs ≡ false → at_row n change missing rs ≡ rs ++ missing
at_none [] n change missing h = refl
at_none (r ∷ rs) n change missing h =
    let go : (b : Bool) → (b || has_row n rs) ≡ false → cond b (change r ++ rs) (r ∷ at_row n change missing rs) ≡ r ∷ (rs ++ missing) =
    λ b. elim b as (λ v. (v || has_row n rs) ≡ false → cond v (change r ++ rs) (r ∷ at_row n change missing rs) ≡ r ∷ (rs ++ missing)) [
      | true ↦ λ e. absurd (cc)
      | false ↦ λ e. ap (λ (l : List Row). r ∷ l) (at_none rs n change missing e)
    ] in
    go (bytes_eq r.id n) h

without_none : (rs : List Row) (n : Text) → has_row n rs ≡ false → without n rs ≡ rs
without_none rs n h = at_none rs n (λ _. []) [] h ∙ append-nil rs

-- ---- one use

used_value : (n v : Text) (done : List Given) → has_name n done ≡ false → used (rule (option n)) (v ∷ []) (rows done) ≡ rows (done ++ value n v ∷ [])
used_value n v done h =
    let none : has_row n (rows done) ≡ false = has_row_is done n ∙ h in
    rw (without_none (rows done) n none) (at_none (rows done) n (more_values CommandLine (v ∷ [])) _ none ∙ sym (map_push row done (value n v)))

used_set : (n : Text) (done : List Given) → has_name n done ≡ false → used (rule (flag n)) [] (rows done) ≡ rows (done ++ set n ∷ [])
used_set n done h =
    let none : has_row n (rows done) ≡ false = has_row_is done n ∙ h in
    rw (without_none (rows done) n none) (at_none (rows done) n (more_values CommandLine (codes "true" ∷ [])) _ none ∙ sym (map_push row done (set n)))

value_passes : (n v : Text) (done : List Given) → has_name n done ≡ false → use_fault false (rule (option n)) (v ∷ []) (rows done) ≡ []
value_passes n v done h = rw (has_row_is done n, h) refl

value_again : (n v : Text) (done : List Given) → has_name n done ≡ true → ¬ (use_fault false (rule (option n)) (v ∷ []) (rows done) ≡ [])
value_again n v done h e = let bad : kind.ArgumentConflict ∷ [] ≡ [] = rw (has_row_is done n, h) at e in absurd (cc)

set_passes : (n : Text) (done : List Given) → has_name n done ≡ false → use_fault false (rule (flag n)) [] (rows done) ≡ []
set_passes n done h = rw (has_row_is done n, h) refl

set_again : (n : Text) (done : List Given) → has_name n done ≡ true → ¬ (use_fault false (rule (flag n)) [] (rows done) ≡ [])
set_again n done h e = let bad : kind.ArgumentConflict ∷ [] ≡ [] = rw (has_row_is done n, h) at e in absurd (cc)

-- ---- states of the walk

abbrev pub held : List Given → Option (Text × List Text) → Held
held done p = record { rows = rows done; pending = p; skip = 0 }

abbrev pub at : List Given → Option (Text × List Text) → Waiting → Walk
at done p waiting = record { held = held done p; waiting = waiting; position = 1; is_trailing = false; stopped = None }

-- what fails from here on
abbrev pub ends : Text → List Named → Walk → List Text → Kinds
ends name ks w words = or_else (walk_fault (leaf name ks) [] w words) (settle_fault (rules_of ks) false (fold (walked (rules_of ks) []) w words).held)

abbrev pub final : List Named → Walk → List Text → List Row
final ks w words = (settled (rules_of ks) (fold (walked (rules_of ks) []) w words).held).rows

abbrev pub Runs : Text → List Named → Walk → List Text → Option (List Row) → Type 0
Runs name ks w words None = ¬ (ends name ks w words ≡ [])
Runs name ks w words (Some rs) = (ends name ks w words ≡ []) × (final ks w words ≡ rs)

pub left_empty : (a b : Kinds) → or_else a b ≡ [] → a ≡ []
left_empty [] b e = refl
left_empty (k ∷ a) b e = absurd (cc)

ends_step : (name : Text) (ks : List Named) (w next : Walk) (word : Text) (words : List Text) → turn_fault (leaf name ks) [] w word ≡ [] → walked (rules_of ks) [] w word ≡ next → ends name ks w (word ∷ words) ≡ ends name ks next words
unfolding walk_fault
ends_step name ks w next word words t e = rw t (ap (λ (v : Walk). ends name ks v words) e)

step : (name : Text) (ks : List Named) (w next : Walk) (word : Text) (words : List Text) (o : Option (List Row)) → turn_fault (leaf name ks) [] w word ≡ [] → walked (rules_of ks) [] w word ≡ next → Runs name ks next words o → Runs name ks w (word ∷ words) o
step name ks w next word words None t e h = λ x. h (sym (ends_step name ks w next word words t e) ∙ x)
step name ks w next word words (Some rs) t e h = (ends_step name ks w next word words t e ∙ h.0, ap (λ (v : Walk). final ks v words) e ∙ h.1)

fails : (name : Text) (ks : List Named) (w : Walk) (word : Text) (words : List Text) → ¬ (turn_fault (leaf name ks) [] w word ≡ []) → Runs name ks w (word ∷ words) None
unfolding walk_fault
fails name ks w word words h e = h (left_empty _ _ (left_empty _ _ e))

-- ---- what a word does

-- an option that waits, or a value that waits to be used
abbrev waits : Text → Waiting
waits n = waits_for n

-- `--name=value` and the like, where nothing waits
long_turn : (name : Text) (ks : List Named) (done : List Given) (p : Option (Text × List Text)) (x : ℕ) (xs : Text) →
    let nv = name_and_value (x ∷ xs) in
    turn_fault (leaf name ks) [] (at done p idle) (45 ∷ 45 ∷ x ∷ xs)
    ≡ or_else (long_fault (rules_of ks) false (arg_by_long (rules_of ks) nv.0) nv.1 (held done p))
    (let met = long_word (rules_of ks) idle (45 ∷ 45 ∷ x ∷ xs) nv.0 nv.1 (held done p) in step_fault (leaf name ks) 1 met.0 met.1)
long_turn name ks done p x xs = refl

long_turn_waiting : (name : Text) (ks : List Named) (done : List Given) (p : Option (Text × List Text)) (n : Text) (x : ℕ) (xs : Text) →
    let nv = name_and_value (x ∷ xs) in
    turn_fault (leaf name ks) [] (at done p (waits_for n)) (45 ∷ 45 ∷ x ∷ xs)
    ≡ or_else (long_fault (rules_of ks) false (arg_by_long (rules_of ks) nv.0) nv.1 (held done p))
    (let met = long_word (rules_of ks) (waits_for n) (45 ∷ 45 ∷ x ∷ xs) nv.0 nv.1 (held done p) in step_fault (leaf name ks) 1 met.0 met.1)
long_turn_waiting name ks done p n x xs = refl

long_walked : (ks : List Named) (done : List Given) (p : Option (Text × List Text)) (x : ℕ) (xs : Text) →
    let nv = name_and_value (x ∷ xs) in
    let met = long_word (rules_of ks) idle (45 ∷ 45 ∷ x ∷ xs) nv.0 nv.1 (held done p) in
    walked (rules_of ks) [] (at done p idle) (45 ∷ 45 ∷ x ∷ xs) ≡ after_step (rules_of ks) (45 ∷ 45 ∷ x ∷ xs) (at done p idle) met.0 met.1
unfolding walked
long_walked ks done p x xs = refl

pub not_short : (x : ℕ) (xs : Text) → (x == 45) ≡ false → short_of (x ∷ xs) ≡ None
not_short x xs e = rw e refl

plain_turn : (name : Text) (ks : List Named) (done : List Given) (p : Option (Text × List Text)) (x : ℕ) (xs : Text) → (x == 45) ≡ false → turn_fault (leaf name ks) [] (at done p idle) (x ∷ xs) ≡ option_map_or (λ a. positional_fault (rules_of ks) false a (held done p)) (arg_by_index (rules_of ks) 1) (kind.UnknownArgument ∷ [])
plain_turn name ks done p x xs e = rw (e, not_short x xs e) refl

plain_walked : (ks : List Named) (done : List Given) (p : Option (Text × List Text)) (n : Text) (x : ℕ) (xs : Text) → (x == 45) ≡ false → walked (rules_of ks) [] (at done p (waits_for n)) (x ∷ xs) ≡ record (at done p idle) { held = (option_word (arg_by_id (rules_of ks) n) n (x ∷ xs) (held done p)).0; waiting = (option_word (arg_by_id (rules_of ks) n) n (x ∷ xs) (held done p)).1 }
unfolding walked
plain_walked ks done p n x xs e = rw (e, not_short x xs e) refl

-- the same by what the name and the value of the word are
abbrev turn_by : Text → List Named → List Given → Option (Text × List Text) → Waiting → Text → Option Rule → Option Text → Kinds
turn_by name ks done p waiting word o v =
    let c = rules_of ks in
    let met = after_flag c waiting word (long_met c o v (held done p)).0 (long_met c o v (held done p)).1 in
    or_else (long_fault c false o v (held done p)) (step_fault (leaf name ks) 1 met.0 met.1)

abbrev walk_by : List Named → List Given → Option (Text × List Text) → Text → Option Rule → Option Text → Walk
walk_by ks done p word o v =
    let c = rules_of ks in
    let met = after_flag c idle word (long_met c o v (held done p)).0 (long_met c o v (held done p)).1 in
    after_step c word (at done p idle) met.0 met.1

abbrev nv : ℕ → Text → Text × Option Text
nv x xs = name_and_value (x ∷ xs)

abbrev dashed : ℕ → Text → Text
dashed x xs = 45 ∷ 45 ∷ x ∷ xs

turn_at : (name : Text) (ks : List Named) (done : List Given) (p : Option (Text × List Text)) (x : ℕ) (xs : Text) (k : Option Named) (v : Option Text) → named ks (nv x xs).0 ≡ k → (nv x xs).1 ≡ v
    → turn_fault (leaf name ks) [] (at done p idle) (dashed x xs) ≡ turn_by name ks done p idle (dashed x xs) (option_map rule k) v
turn_at name ks done p x xs k v e f =
    long_turn name ks done p x xs
    ∙ ap (λ (o : Option Rule). turn_by name ks done p idle (dashed x xs) o (nv x xs).1) (by_long ks (nv x xs).0 ∙ ap (option_map rule) e)
    ∙ ap (λ (u : Option Text). turn_by name ks done p idle (dashed x xs) (option_map rule k) u) f

turn_waiting : (name : Text) (ks : List Named) (done : List Given) (p : Option (Text × List Text)) (n : Text) (x : ℕ) (xs : Text) (k : Option Named) (v : Option Text) → named ks (nv x xs).0 ≡ k → (nv x xs).1 ≡ v
    → turn_fault (leaf name ks) [] (at done p (waits_for n)) (dashed x xs) ≡ turn_by name ks done p (waits_for n) (dashed x xs) (option_map rule k) v
turn_waiting name ks done p n x xs k v e f =
    long_turn_waiting name ks done p n x xs
    ∙ ap (λ (o : Option Rule). turn_by name ks done p (waits_for n) (dashed x xs) o (nv x xs).1) (by_long ks (nv x xs).0 ∙ ap (option_map rule) e)
    ∙ ap (λ (u : Option Text). turn_by name ks done p (waits_for n) (dashed x xs) (option_map rule k) u) f

walked_at : (ks : List Named) (done : List Given) (p : Option (Text × List Text)) (x : ℕ) (xs : Text) (k : Option Named) (v : Option Text) → named ks (nv x xs).0 ≡ k → (nv x xs).1 ≡ v
    → walked (rules_of ks) [] (at done p idle) (dashed x xs) ≡ walk_by ks done p (dashed x xs) (option_map rule k) v
walked_at ks done p x xs k v e f =
    long_walked ks done p x xs
    ∙ ap (λ (o : Option Rule). walk_by ks done p (dashed x xs) o (nv x xs).1) (by_long ks (nv x xs).0 ∙ ap (option_map rule) e)
    ∙ ap (λ (u : Option Text). walk_by ks done p (dashed x xs) (option_map rule k) u) f

-- ---- what is pending

settle_is : (ks : List Named) (done : List Given) (n : Text) (vs : List Text) → named ks n ≡ Some (option n) → settle_fault (rules_of ks) false (held done (Some (n, vs))) ≡ use_fault false (rule (option n)) vs (rows done)
settle_is ks done n vs e = ap (λ (o : Option Rule). option_map_or (λ a. use_fault false a vs (rows done)) o []) (by_id ks n ∙ ap (option_map rule) e)

settled_is : (ks : List Named) (done : List Given) (n : Text) (vs : List Text) → named ks n ≡ Some (option n) → (settled (rules_of ks) (held done (Some (n, vs)))).rows ≡ used (rule (option n)) vs (rows done)
settled_is ks done n vs e = ap (λ (o : Option Rule). used_by_id o vs (rows done)) (by_id ks n ∙ ap (option_map rule) e)

-- an option without its value
bare_fails : (ks : List Named) (done : List Given) (n : Text) → named ks n ≡ Some (option n) → ¬ (settle_fault (rules_of ks) false (held done (Some (n, []))) ≡ [])
bare_fails ks done n e h = let bad : kind.InvalidValue ∷ [] ≡ [] = sym (settle_is ks done n [] e) ∙ h in absurd (cc)

-- a word fails where what is pending does, or as none of the options
fails_pending : (name : Text) (ks : List Named) (done : List Given) (p : Option (Text × List Text)) (waiting : Waiting) (word : Text) (k : Option Named) (v : Option Text) → ¬ (settle_fault (rules_of ks) false (held done p) ≡ [])
    → ¬ (turn_by name ks done p waiting word (option_map rule k) v ≡ [])
fails_pending name ks done p waiting word None v h e = let bad : kind.UnknownArgument ∷ [] ≡ [] = e in absurd (cc)
fails_pending name ks done p waiting word (Some (option n)) (Some u) h e = h (left_empty _ _ (left_empty _ _ e))
fails_pending name ks done p waiting word (Some (option n)) None h e = h (left_empty _ _ e)
fails_pending name ks done p waiting word (Some (flag n)) (Some u) h e = let bad : kind.TooManyValues ∷ [] ≡ [] = e in absurd (cc)
fails_pending name ks done p waiting word (Some (flag n)) None h e = h (left_empty _ _ (left_empty _ _ e))

-- a word with no hyphen, where nothing waits
plain_fails : (name : Text) (ks : List Named) (done : List Given) (p : Option (Text × List Text)) (x : ℕ) (xs : Text) → (x == 45) ≡ false → ¬ (turn_fault (leaf name ks) [] (at done p idle) (x ∷ xs) ≡ [])
plain_fails name ks done p x xs e h =
    let is : turn_fault (leaf name ks) [] (at done p idle) (x ∷ xs) ≡ kind.UnknownArgument ∷ [] =
    plain_turn name ks done p x xs e ∙ ap (λ (o : Option Rule). option_map_or (λ a. positional_fault (rules_of ks) false a (held done p)) o (kind.UnknownArgument ∷ [])) (by_index ks 1) in
    let bad : kind.UnknownArgument ∷ [] ≡ [] = sym is ∙ h in absurd (cc)

empty_fails : (name : Text) (ks : List Named) (done : List Given) (p : Option (Text × List Text)) → ¬ (turn_fault (leaf name ks) [] (at done p idle) [] ≡ [])
empty_fails name ks done p h =
    let is : turn_fault (leaf name ks) [] (at done p idle) [] ≡ kind.UnknownArgument ∷ [] =
    ap (λ (o : Option Rule). option_map_or (λ a. positional_fault (rules_of ks) false a (held done p)) o (kind.UnknownArgument ∷ [])) (by_index ks 1) in
    let bad : kind.UnknownArgument ∷ [] ≡ [] = sym is ∙ h in absurd (cc)

-- ---- the whole walk

abbrev pub checked : List Given → Option (List Given) → Option (List Row)
checked done o = option_and_then (λ gs. if is_fresh done gs then Some (rows (done ++ gs)) else None) o

checked_cons : (done : List Given) (g : Given) (o : Option (List Given)) → has_name (given_name g) done ≡ false → checked (done ++ g ∷ []) o ≡ checked done (option_map (λ gs. g ∷ gs) o)
checked_cons done g None h = refl
checked_cons done g (Some gs) h =
    rw h (ap (λ (l : List Given). if is_fresh (done ++ g ∷ []) gs then Some (rows l) else None) (append_assoc done (g ∷ []) gs))

checked_again : (done : List Given) (g : Given) (o : Option (List Given)) → has_name (given_name g) done ≡ true → None ≡ checked done (option_map (λ gs. g ∷ gs) o)
checked_again done g None h = refl
checked_again done g (Some gs) h = rw h refl

-- the words that are left have no bare hyphens
pub data IsFair : Text → Type 0 where
  fair_empty : IsFair []
  fair_plain : (x : ℕ) (xs : Text) → (x == 45) ≡ false → IsFair (x ∷ xs)
  fair_long : (x : ℕ) (xs : Text) → IsFair (dashed x xs)

abbrev pub AreFair : List Text → Type 0
AreFair [] = Unit {0}
AreFair (w ∷ ws) = IsFair w × AreFair ws

runs_like : (name : Text) (ks : List Named) (w next : Walk) (words : List Text) (o : Option (List Row)) → ends name ks w words ≡ ends name ks next words → final ks w words ≡ final ks next words → Runs name ks next words o → Runs name ks w words o
runs_like name ks w next words None e f h = λ x. h (sym e ∙ x)
runs_like name ks w next words (Some rs) e f h = (e ∙ h.0, f ∙ h.1)

-- both fail
fails_both : (name : Text) (ks : List Named) (w next : Walk) (word : Text) (words : List Text) (o : Option (List Row)) → ¬ (turn_fault (leaf name ks) [] w word ≡ []) → ¬ (turn_fault (leaf name ks) [] next word ≡ []) → Runs name ks next (word ∷ words) o → Runs name ks w (word ∷ words) o
fails_both name ks w next word words None a b h = fails name ks w word words a
fails_both name ks w next word words (Some rs) a b h = absurd (fails name ks next word words b h.0)

like_step : (name : Text) (ks : List Named) (w next : Walk) (word : Text) (words : List Text) (o : Option (List Row)) → turn_fault (leaf name ks) [] w word ≡ turn_fault (leaf name ks) [] next word → walked (rules_of ks) [] w word ≡ walked (rules_of ks) [] next word → Runs name ks next (word ∷ words) o → Runs name ks w (word ∷ words) o
unfolding walk_fault
like_step name ks w next word words o t e h =
    runs_like name ks w next (word ∷ words) o
    (rw t (ap (λ (v : Walk). or_else (or_else (turn_fault (leaf name ks) [] next word) (walk_fault (leaf name ks) [] v words)) (settle_fault (rules_of ks) false (fold (walked (rules_of ks) []) v words).held)) e))
    (ap (λ (v : Walk). final ks v words) e) h

-- a value that waits to be used is as one that is used
pending_turn : (name : Text) (ks : List Named) (done : List Given) (n u : Text) (word : Text) (k : Option Named) (v : Option Text) → named ks n ≡ Some (option n) → has_name n done ≡ false
    → (turn_by name ks done (Some (n, u ∷ [])) idle word (option_map rule k) v ≡ turn_by name ks (done ++ value n u ∷ []) None idle word (option_map rule k) v)
pending_turn name ks done n u word None v e h = refl
pending_turn name ks done n u word (Some (option m)) (Some t) e h = rw (settle_is ks done n (u ∷ []) e ∙ value_passes n u done h, settled_is ks done n (u ∷ []) e ∙ used_value n u done h) refl
pending_turn name ks done n u word (Some (option m)) None e h = rw (settle_is ks done n (u ∷ []) e ∙ value_passes n u done h) refl
pending_turn name ks done n u word (Some (flag m)) (Some t) e h = refl
pending_turn name ks done n u word (Some (flag m)) None e h = rw (settle_is ks done n (u ∷ []) e ∙ value_passes n u done h, settled_is ks done n (u ∷ []) e ∙ used_value n u done h) refl

pending_option : (ks : List Named) (done : List Given) (n u : Text) (word : Text) (m : Text) (v : Option Text) → named ks n ≡ Some (option n) → has_name n done ≡ false
    → walk_by ks done (Some (n, u ∷ [])) word (Some (rule (option m))) v ≡ walk_by ks (done ++ value n u ∷ []) None word (Some (rule (option m))) v
pending_option ks done n u word m (Some t) e h = rw (settled_is ks done n (u ∷ []) e ∙ used_value n u done h) refl
pending_option ks done n u word m None e h = rw (settled_is ks done n (u ∷ []) e ∙ used_value n u done h) refl

pending_flag : (ks : List Named) (done : List Given) (n u : Text) (word : Text) (m : Text) → named ks n ≡ Some (option n) → has_name n done ≡ false
    → walk_by ks done (Some (n, u ∷ [])) word (Some (rule (flag m))) None ≡ walk_by ks (done ++ value n u ∷ []) None word (Some (rule (flag m))) None
pending_flag ks done n u word m e h = rw (settled_is ks done n (u ∷ []) e ∙ used_value n u done h) refl

unknown_fails : (name : Text) (ks : List Named) (done : List Given) (p : Option (Text × List Text)) (x : ℕ) (xs : Text) → named ks (nv x xs).0 ≡ None → ¬ (turn_fault (leaf name ks) [] (at done p idle) (dashed x xs) ≡ [])
unknown_fails name ks done p x xs e h = let bad : kind.UnknownArgument ∷ [] ≡ [] = sym (turn_at name ks done p x xs None _ e refl) ∙ h in absurd (cc)

flag_value_fails : (name : Text) (ks : List Named) (done : List Given) (p : Option (Text × List Text)) (x : ℕ) (xs : Text) (n u : Text) → named ks (nv x xs).0 ≡ Some (flag n) → (nv x xs).1 ≡ Some u → ¬ (turn_fault (leaf name ks) [] (at done p idle) (dashed x xs) ≡ [])
flag_value_fails name ks done p x xs n u e f h = let bad : kind.TooManyValues ∷ [] ≡ [] = sym (turn_at name ks done p x xs (Some (flag n)) (Some u) e f) ∙ h in absurd (cc)

-- the walk with a value that waits to be used, from the walk with the value used
pending_long : (name : Text) (ks : List Named) (done : List Given) (n u : Text) (x : ℕ) (xs : Text) (words : List Text) (o : Option (List Row)) (k : Option Named) (v : Option Text) → named ks (nv x xs).0 ≡ k → (nv x xs).1 ≡ v → named ks n ≡ Some (option n) → has_name n done ≡ false
    → Runs name ks (at (done ++ value n u ∷ []) None idle) (dashed x xs ∷ words) o → Runs name ks (at done (Some (n, u ∷ [])) idle) (dashed x xs ∷ words) o
pending_long name ks done n u x xs words o None v e f known new h =
    fails_both name ks _ _ _ words o (unknown_fails name ks done (Some (n, u ∷ [])) x xs e) (unknown_fails name ks (done ++ value n u ∷ []) None x xs e) h
pending_long name ks done n u x xs words o (Some (option m)) v e f known new h =
    like_step name ks _ _ _ words o
    (turn_at name ks done (Some (n, u ∷ [])) x xs (Some (option m)) v e f ∙ pending_turn name ks done n u (dashed x xs) (Some (option m)) v known new ∙ sym (turn_at name ks (done ++ value n u ∷ []) None x xs (Some (option m)) v e f))
    (walked_at ks done (Some (n, u ∷ [])) x xs (Some (option m)) v e f ∙ pending_option ks done n u (dashed x xs) m v known new ∙ sym (walked_at ks (done ++ value n u ∷ []) None x xs (Some (option m)) v e f)) h
pending_long name ks done n u x xs words o (Some (flag m)) (Some t) e f known new h =
    fails_both name ks _ _ _ words o (flag_value_fails name ks done (Some (n, u ∷ [])) x xs m t e f) (flag_value_fails name ks (done ++ value n u ∷ []) None x xs m t e f) h
pending_long name ks done n u x xs words o (Some (flag m)) None e f known new h =
    like_step name ks _ _ _ words o
    (turn_at name ks done (Some (n, u ∷ [])) x xs (Some (flag m)) None e f ∙ pending_turn name ks done n u (dashed x xs) (Some (flag m)) None known new ∙ sym (turn_at name ks (done ++ value n u ∷ []) None x xs (Some (flag m)) None e f))
    (walked_at ks done (Some (n, u ∷ [])) x xs (Some (flag m)) None e f ∙ pending_flag ks done n u (dashed x xs) m known new ∙ sym (walked_at ks (done ++ value n u ∷ []) None x xs (Some (flag m)) None e f)) h

pending_runs : (name : Text) (ks : List Named) (done : List Given) (n u : Text) (words : List Text) (o : Option (List Row)) → AreFair words → named ks n ≡ Some (option n) → has_name n done ≡ false
    → Runs name ks (at (done ++ value n u ∷ []) None idle) words o → Runs name ks (at done (Some (n, u ∷ [])) idle) words o
unfolding walk_fault
pending_runs name ks done n u [] o fair known new h =
    runs_like name ks (at done (Some (n, u ∷ [])) idle) (at (done ++ value n u ∷ []) None idle) [] o (settle_is ks done n (u ∷ []) known ∙ value_passes n u done new) (settled_is ks done n (u ∷ []) known ∙ used_value n u done new) h
pending_runs name ks done n u (w ∷ words) o fair known new h = go w fair.0 h
  where
    go : (w : Text) → IsFair w → Runs name ks (at (done ++ value n u ∷ []) None idle) (w ∷ words) o → Runs name ks (at done (Some (n, u ∷ [])) idle) (w ∷ words) o
    go _ fair_empty h = fails_both name ks (at done (Some (n, u ∷ [])) idle) (at (done ++ value n u ∷ []) None idle) [] words o (empty_fails name ks done (Some (n, u ∷ []))) (empty_fails name ks (done ++ value n u ∷ []) None) h
    go _ (fair_plain x xs e) h = fails_both name ks (at done (Some (n, u ∷ [])) idle) (at (done ++ value n u ∷ []) None idle) (x ∷ xs) words o (plain_fails name ks done (Some (n, u ∷ [])) x xs e) (plain_fails name ks (done ++ value n u ∷ []) None x xs e) h
    go _ (fair_long x xs) h = pending_long name ks done n u x xs words o (named ks (nv x xs).0) (nv x xs).1 refl refl known new h

-- a walk fails where what is pending does
doomed : (name : Text) (ks : List Named) (done : List Given) (p : Option (Text × List Text)) (words : List Text) → AreFair words → ¬ (settle_fault (rules_of ks) false (held done p) ≡ []) → ¬ (ends name ks (at done p idle) words ≡ [])
unfolding walk_fault
doomed name ks done p [] fair h = h
doomed name ks done p (w ∷ words) fair h = go w fair.0
  where
    go : (w : Text) → IsFair w → ¬ (ends name ks (at done p idle) (w ∷ words) ≡ [])
    go _ fair_empty = fails name ks (at done p idle) [] words (empty_fails name ks done p)
    go _ (fair_plain x xs e) = fails name ks (at done p idle) (x ∷ xs) words (plain_fails name ks done p x xs e)
    go _ (fair_long x xs) = fails name ks (at done p idle) (dashed x xs) words (λ z. fails_pending name ks done p idle (dashed x xs) (named ks (nv x xs).0) (nv x xs).1 h (sym (turn_at name ks done p x xs (named ks (nv x xs).0) (nv x xs).1 refl refl) ∙ z))

-- ---- the words that are read

found_name : (ks : List Named) (name : Text) (k : Named) → named ks name ≡ Some k → name_of k ≡ name
found_name [] name k e = absurd (cc)
found_name (j ∷ ks) name k e =
    let go : (b : Bool) → bytes_eq (name_of j) name ≡ b → cond b (Some j) (named ks name) ≡ Some k → name_of k ≡ name =
    λ b. elim b as (λ b. bytes_eq (name_of j) name ≡ b → cond b (Some j) (named ks name) ≡ Some k → name_of k ≡ name) [
      | true ↦ λ x z. let same : j ≡ k = cc in ap name_of (sym same) ∙ (bytes_eq-Decides (name_of j) name).0 x
      | false ↦ λ x z. found_name ks name k z
    ] in
    go (bytes_eq (name_of j) name) refl e

named_itself : (ks : List Named) (name : Text) (k : Named) → named ks name ≡ Some k → named ks (name_of k) ≡ Some k
named_itself ks name k e = rw (found_name ks name k e) e

same_bytes : (n : Text) → bytes_eq n n ≡ true
same_bytes n = (bytes_eq-Decides n n).1 refl

-- a value for the option that waits
abbrev taken_by : List Given → Text → Text → Option Rule → Walk
taken_by done n word o = record (at done (Some (n, [])) idle) { held = (option_word o n word (held done (Some (n, [])))).0; waiting = (option_word o n word (held done (Some (n, [])))).1 }

taken_by_is : (ks : List Named) (done : List Given) (n word : Text) → named ks n ≡ Some (option n) → taken_by done n word (arg_by_id (rules_of ks) n) ≡ at done (Some (n, word ∷ [])) idle
taken_by_is ks done n word known = ap (taken_by done n word) (by_id ks n ∙ ap (option_map rule) known) ∙ rw (same_bytes n) refl

taken_walk : (ks : List Named) (done : List Given) (n : Text) (x : ℕ) (xs : Text) → (x == 45) ≡ false → named ks n ≡ Some (option n) → walked (rules_of ks) [] (at done (Some (n, [])) (waits_for n)) (x ∷ xs) ≡ at done (Some (n, (x ∷ xs) ∷ [])) idle
taken_walk ks done n x xs e known = plain_walked ks done (Some (n, [])) n x xs e ∙ taken_by_is ks done n (x ∷ xs) known

taken_turn : (name : Text) (ks : List Named) (done : List Given) (p : Option (Text × List Text)) (n : Text) (x : ℕ) (xs : Text) → (x == 45) ≡ false → turn_fault (leaf name ks) [] (at done p (waits_for n)) (x ∷ xs) ≡ []
taken_turn name ks done p n x xs e = rw (e, not_short x xs e) refl

empty_walk : (ks : List Named) (done : List Given) (n : Text) → named ks n ≡ Some (option n) → walked (rules_of ks) [] (at done (Some (n, [])) (waits_for n)) [] ≡ at done (Some (n, [] ∷ [])) idle
unfolding walked
empty_walk ks done n known = taken_by_is ks done n [] known

not_long : (x : ℕ) (xs : Text) → (x == 45) ≡ false → long_of (x ∷ xs) ≡ None
not_long x xs e = rw e refl

not_hyphened : (x : ℕ) (xs : Text) → (x == 45) ≡ false → is_hyphened (x ∷ xs) ≡ false
not_hyphened x xs e = rw e refl

abbrev Free : Text → List Named → List Text → Type 0
Free name ks words = (done : List Given) → Runs name ks (at done None idle) words (checked done (given_from ks None words))

abbrev Waits : Text → List Named → List Text → Type 0
Waits name ks words = (done : List Given) (n : Text) → named ks n ≡ Some (option n) → Runs name ks (at done (Some (n, [])) (waits_for n)) words (checked done (given_from ks (Some n) words))

-- a value is used, once
use_value : (name : Text) (ks : List Named) (words : List Text) (done : List Given) (n u : Text) (b : Bool) → AreFair words → Free name ks words → named ks n ≡ Some (option n) → has_name n done ≡ b
    → Runs name ks (at done (Some (n, u ∷ [])) idle) words (checked done (option_map (λ gs. value n u ∷ gs) (given_from ks None words)))
use_value name ks words done n u false fair free known new =
    pending_runs name ks done n u words _ fair known new
    (subst (λ (o : Option (List Row)). Runs name ks (at (done ++ value n u ∷ []) None idle) words o) (checked_cons done (value n u) (given_from ks None words) new) (free (done ++ value n u ∷ [])))
use_value name ks words done n u true fair free known again =
    subst (λ (o : Option (List Row)). Runs name ks (at done (Some (n, u ∷ [])) idle) words o) (checked_again done (value n u) (given_from ks None words) again)
    (doomed name ks done (Some (n, u ∷ [])) words fair (λ z. value_again n u done again (sym (settle_is ks done n (u ∷ []) known) ∙ z)))

waits_at : (name : Text) (ks : List Named) (w : Text) (words : List Text) → IsFair w → AreFair words → Free name ks words → Waits name ks (w ∷ words)
waits_at name ks _ words fair_empty fair free done n known =
    step name ks (at done (Some (n, [])) (waits_for n)) (at done (Some (n, [] ∷ [])) idle) [] words _ refl (empty_walk ks done n known) (use_value name ks words done n [] (has_name n done) fair free known refl)
waits_at name ks _ words (fair_plain x xs e) fair free done n known =
    rw (not_hyphened x xs e)
    (step name ks (at done (Some (n, [])) (waits_for n)) (at done (Some (n, (x ∷ xs) ∷ [])) idle) (x ∷ xs) words _ (taken_turn name ks done (Some (n, [])) n x xs e) (taken_walk ks done n x xs e known)
    (use_value name ks words done n (x ∷ xs) (has_name n done) fair free known refl))
waits_at name ks _ words (fair_long x xs) fair free done n known =
    fails name ks (at done (Some (n, [])) (waits_for n)) (dashed x xs) words
    (λ z. fails_pending name ks done (Some (n, [])) (waits_for n) (dashed x xs) (named ks (nv x xs).0) (nv x xs).1 (bare_fails ks done n known) (sym (turn_waiting name ks done (Some (n, [])) n x xs (named ks (nv x xs).0) (nv x xs).1 refl refl) ∙ z))

-- a value that is attached, or a flag, is used, once
attached_walk : (ks : List Named) (done : List Given) (n u word : Text) → has_name n done ≡ false → walk_by ks done None word (Some (rule (option n))) (Some u) ≡ at (done ++ value n u ∷ []) None idle
attached_walk ks done n u word h = rw (used_value n u done h) refl

flag_walk : (ks : List Named) (done : List Given) (n word : Text) → has_name n done ≡ false → walk_by ks done None word (Some (rule (flag n))) None ≡ at (done ++ set n ∷ []) None idle
flag_walk ks done n word h = rw (used_set n done h) refl

attached_turn : (name : Text) (ks : List Named) (done : List Given) (n u word : Text) → has_name n done ≡ false → turn_by name ks done None idle word (Some (rule (option n))) (Some u) ≡ []
attached_turn name ks done n u word h = rw (value_passes n u done h) refl

flag_turn : (name : Text) (ks : List Named) (done : List Given) (n word : Text) → has_name n done ≡ false → turn_by name ks done None idle word (Some (rule (flag n))) None ≡ []
flag_turn name ks done n word h = rw (set_passes n done h) refl

attached : (name : Text) (ks : List Named) (words : List Text) (done : List Given) (x : ℕ) (xs n u : Text) (b : Bool) → Free name ks words → named ks (nv x xs).0 ≡ Some (option n) → (nv x xs).1 ≡ Some u → has_name n done ≡ b
    → Runs name ks (at done None idle) (dashed x xs ∷ words) (checked done (option_map (λ gs. value n u ∷ gs) (given_from ks None words)))
attached name ks words done x xs n u false free e f new =
    step name ks (at done None idle) (at (done ++ value n u ∷ []) None idle) (dashed x xs) words _
    (turn_at name ks done None x xs (Some (option n)) (Some u) e f ∙ attached_turn name ks done n u (dashed x xs) new)
    (walked_at ks done None x xs (Some (option n)) (Some u) e f ∙ attached_walk ks done n u (dashed x xs) new)
    (subst (λ (o : Option (List Row)). Runs name ks (at (done ++ value n u ∷ []) None idle) words o) (checked_cons done (value n u) (given_from ks None words) new) (free (done ++ value n u ∷ [])))
attached name ks words done x xs n u true free e f again =
    subst (λ (o : Option (List Row)). Runs name ks (at done None idle) (dashed x xs ∷ words) o) (checked_again done (value n u) (given_from ks None words) again)
    (fails name ks (at done None idle) (dashed x xs) words (λ z. value_again n u done again (left_empty _ _ (sym (turn_at name ks done None x xs (Some (option n)) (Some u) e f) ∙ z))))

flagged : (name : Text) (ks : List Named) (words : List Text) (done : List Given) (x : ℕ) (xs n : Text) (b : Bool) → Free name ks words → named ks (nv x xs).0 ≡ Some (flag n) → (nv x xs).1 ≡ None → has_name n done ≡ b
    → Runs name ks (at done None idle) (dashed x xs ∷ words) (checked done (option_map (λ gs. set n ∷ gs) (given_from ks None words)))
flagged name ks words done x xs n false free e f new =
    step name ks (at done None idle) (at (done ++ set n ∷ []) None idle) (dashed x xs) words _
    (turn_at name ks done None x xs (Some (flag n)) None e f ∙ flag_turn name ks done n (dashed x xs) new)
    (walked_at ks done None x xs (Some (flag n)) None e f ∙ flag_walk ks done n (dashed x xs) new)
    (subst (λ (o : Option (List Row)). Runs name ks (at (done ++ set n ∷ []) None idle) words o) (checked_cons done (set n) (given_from ks None words) new) (free (done ++ set n ∷ [])))
flagged name ks words done x xs n true free e f again =
    subst (λ (o : Option (List Row)). Runs name ks (at done None idle) (dashed x xs ∷ words) o) (checked_again done (set n) (given_from ks None words) again)
    (fails name ks (at done None idle) (dashed x xs) words (λ z. set_again n done again (left_empty _ _ (sym (turn_at name ks done None x xs (Some (flag n)) None e f) ∙ z))))

free_long : (name : Text) (ks : List Named) (words : List Text) (done : List Given) (x : ℕ) (xs : Text) (k : Option Named) (v : Option Text) → Free name ks words → Waits name ks words → named ks (nv x xs).0 ≡ k → (nv x xs).1 ≡ v
    → Runs name ks (at done None idle) (dashed x xs ∷ words) (checked done (long_given k v (λ waiting. given_from ks waiting words)))
free_long name ks words done x xs None v free waits e f = fails name ks (at done None idle) (dashed x xs) words (unknown_fails name ks done None x xs e)
free_long name ks words done x xs (Some (option n)) (Some u) free waits e f = attached name ks words done x xs n u (has_name n done) free e f refl
free_long name ks words done x xs (Some (option n)) None free waits e f =
    step name ks (at done None idle) (at done (Some (n, [])) (waits_for n)) (dashed x xs) words _
    (turn_at name ks done None x xs (Some (option n)) None e f) (walked_at ks done None x xs (Some (option n)) None e f) (waits done n (named_itself ks (nv x xs).0 (option n) e))
free_long name ks words done x xs (Some (flag n)) (Some u) free waits e f = fails name ks (at done None idle) (dashed x xs) words (flag_value_fails name ks done None x xs n u e f)
free_long name ks words done x xs (Some (flag n)) None free waits e f = flagged name ks words done x xs n (has_name n done) free e f refl

free_at : (name : Text) (ks : List Named) (w : Text) (words : List Text) → IsFair w → Free name ks words → Waits name ks words → Free name ks (w ∷ words)
free_at name ks _ words fair_empty free waits done = fails name ks (at done None idle) [] words (empty_fails name ks done None)
free_at name ks _ words (fair_plain x xs e) free waits done = rw (not_long x xs e) (fails name ks (at done None idle) (x ∷ xs) words (plain_fails name ks done None x xs e))
free_at name ks _ words (fair_long x xs) free waits done = free_long name ks words done x xs (named ks (nv x xs).0) (nv x xs).1 free waits refl refl

-- the walk over fair words is as what they give
pub runs : (name : Text) (ks : List Named) (words : List Text) → AreFair words → Free name ks words × Waits name ks words
unfolding walk_fault
runs name ks [] fair = (
  λ done. (refl, ap rows (sym (append-nil done))),
  λ done n known. bare_fails ks done n known,
)
runs name ks (w ∷ words) fair =
    let below = runs name ks words fair.1 in
    (free_at name ks w words fair.0 below.0 below.1, waits_at name ks w words fair.0 fair.1 below.0)
