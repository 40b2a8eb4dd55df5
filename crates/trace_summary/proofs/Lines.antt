-- Lines are counted one after the other, and texts piece by piece.
use Rattle.std.proofs.Common.{◌≡◌, ℕ, ◌+◌, ◌<◌, Bool, true, false, cond, List, [], ◌∷◌, ◌++◌, length, refl, sym, ap, ◌∙◌, arith, append_assoc}
use Rattle.std.specs.Prelude.{count_by, ◌==◌}
use Rattle.std.specs.List.{slice_split, onto_first}
use Rattle.std.proofs.lemmas.List.Sums.{sum_by-append, sum_by-cons}
use Rattle.std.proofs.lemmas.List.Splits.{length-slice_split}
use Rattle.trace_summary.specs.Counted.{after_lines, counts_in, is_act, is_committed, is_crash, is_refused, is_step, is_won, lines_of, with_line}
use Rattle.trace_summary.specs.Tallies.{EndsLine, Empty, Fed}
use Rattle.trace_summary.specs.declared.counts.Counts.{Counts}

-- ---- counts

-- a field that each line of a kind makes one greater
counted_on : (field : Counts → ℕ) (kind : List ℕ → Bool) → ((c : Counts) (line : List ℕ) → field (with_line c line) ≡ field c + cond (kind line) 1 0)
    → (c : Counts) (lines : List (List ℕ)) → field (after_lines c lines) ≡ field c + count_by kind lines
counted_on field kind one c [] = omega arith
counted_on field kind one c (line ∷ lines) =
    omega (arith, one c line, counted_on field kind one (with_line c line) lines, sum_by-cons (λ (l : List ℕ). cond (kind l) 1 0) line lines)

join : (kind : List ℕ → Bool) (xs ys : List (List ℕ)) → count_by kind (xs ++ ys) ≡ count_by kind xs + count_by kind ys
join kind xs ys = sum_by-append (λ (l : List ℕ). cond (kind l) 1 0) xs ys

pub lines_join : (xs ys : List (List ℕ)) → after_lines (counts_in xs) ys ≡ counts_in (xs ++ ys)
unfolding with_line
lines_join xs ys = λ i. record {
  steps = (counted_on (λ c. c.steps) is_step (λ c l. refl) (counts_in xs) ys ∙ sym (join is_step xs ys)) i;
  acts = (counted_on (λ c. c.acts) is_act (λ c l. refl) (counts_in xs) ys ∙ sym (join is_act xs ys)) i;
  refused = (counted_on (λ c. c.refused) is_refused (λ c l. refl) (counts_in xs) ys ∙ sym (join is_refused xs ys)) i;
  won = (counted_on (λ c. c.won) is_won (λ c l. refl) (counts_in xs) ys ∙ sym (join is_won xs ys)) i;
  committed = (counted_on (λ c. c.committed) is_committed (λ c l. refl) (counts_in xs) ys ∙ sym (join is_committed xs ys)) i;
  crashes = (counted_on (λ c. c.crashes) is_crash (λ c l. refl) (counts_in xs) ys ∙ sym (join is_crash xs ys)) i;
}

-- an empty line counts for nothing
empty_adds : (kind : List ℕ → Bool) → kind [] ≡ false → (xs : List (List ℕ)) → count_by kind (xs ++ [] ∷ []) ≡ count_by kind xs
empty_adds kind none xs =
    let one : count_by kind ([] ∷ []) ≡ 0 = ap (λ (b : Bool). 0 + cond b 1 0) none in
    omega (arith, join kind xs ([] ∷ []), one)

last_is_empty : (xs : List (List ℕ)) → counts_in (xs ++ [] ∷ []) ≡ counts_in xs
last_is_empty xs = λ i. record {
  steps = empty_adds is_step refl xs i;
  acts = empty_adds is_act refl xs i;
  refused = empty_adds is_refused refl xs i;
  won = empty_adds is_won refl xs i;
  committed = empty_adds is_committed refl xs i;
  crashes = empty_adds is_crash refl xs i;
}

empty_counts : (kind : List ℕ → Bool) → kind [] ≡ false → (xs : List (List ℕ)) → count_by kind ([] ∷ xs) ≡ count_by kind xs
empty_counts kind none xs =
    let one : count_by kind ([] ∷ []) ≡ 0 = ap (λ (b : Bool). 0 + cond b 1 0) none in
    omega (arith, join kind ([] ∷ []) xs, one)

empty_first : (xs : List (List ℕ)) → counts_in ([] ∷ xs) ≡ counts_in xs
empty_first xs = λ i. record {
  steps = empty_counts is_step refl xs i;
  acts = empty_counts is_act refl xs i;
  refused = empty_counts is_refused refl xs i;
  won = empty_counts is_won refl xs i;
  committed = empty_counts is_committed refl xs i;
  crashes = empty_counts is_crash refl xs i;
}

-- ---- lines

onto_prefix : (x : ℕ) (xs ys : List (List ℕ)) → 0 < length xs → onto_first x (xs ++ ys) ≡ onto_first x xs ++ ys
onto_prefix x [] ys some = absurd (omega arith)
onto_prefix x (w ∷ xs) ys some = refl

split_append : (p : ℕ → Bool) (xs : List ℕ) (y : ℕ) (ys : List ℕ) → p y ≡ true → slice_split p (xs ++ y ∷ ys) ≡ slice_split p xs ++ slice_split p ys
split_append p [] y ys e = ap (λ (b : Bool). cond b ([] ∷ slice_split p ys) (onto_first y (slice_split p ys))) e
split_append p (x ∷ xs) y ys e =
    elim (p x) as (λ b. cond b ([] ∷ slice_split p (xs ++ y ∷ ys)) (onto_first x (slice_split p (xs ++ y ∷ ys))) ≡ cond b ([] ∷ slice_split p xs) (onto_first x (slice_split p xs)) ++ slice_split p ys) [
      | true ↦ ap (λ (l : List (List ℕ)). [] ∷ l) (split_append p xs y ys e)
      | false ↦ ap (onto_first x) (split_append p xs y ys e) ∙ onto_prefix x (slice_split p xs) (slice_split p ys) (omega (arith, length-slice_split p xs))
    ]

-- the counts of a text that goes on after a whole line
pub pieces_join : (text piece : List ℕ) → EndsLine text → after_lines (counts_in (lines_of text)) (lines_of piece) ≡ counts_in (lines_of (text ++ piece))
pieces_join text piece Empty = lines_join ([] ∷ []) (lines_of piece) ∙ empty_first (lines_of piece)
pieces_join text piece (Fed prefix) =
    let p : ℕ → Bool = λ b. b == 10 in
    ap (λ (c : Counts). after_lines c (lines_of piece)) (ap counts_in (split_append p prefix 10 [] refl) ∙ last_is_empty (lines_of prefix))
    ∙ lines_join (lines_of prefix) (lines_of piece)
    ∙ ap counts_in (sym (split_append p prefix 10 piece refl))
    ∙ ap (λ (t : List ℕ). counts_in (lines_of t)) (sym (append_assoc prefix (10 ∷ []) piece))
