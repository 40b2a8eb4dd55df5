-- Lines that end in bytes, one line feed after another.
use Rattle.std.proofs.Common.{◌≡◌, refl, sym, ◌∙◌, ap, subst, ℕ, zero, suc, ◌+◌, ◌-◌, ◌<◌, ◌≤◌, drop, not, Bool, true, false, List, [], ◌∷◌, ◌++◌, length, map, take, append_assoc, arith}
use Rattle.std.specs.Prelude.{◌==◌, slice_index}
use Rattle.std.specs.List.{list_all}
use Rattle.std.proofs.Math.Seq.{take-add, drop-cons}
use Rattle.std.proofs.lemmas.Bool.{and_from}
use Rattle.std.proofs.lemmas.List.{append-nil, take_all, length-drop, length-take, take-append-drop}
use Rattle.std.proofs.lemmas.List.Folds.{list_all-append}
use Rattle.memchr.specs.Find.{Nowhere, NoneBefore, Passes, is_byte}
use Rattle.client_lines.specs.Lines.{Cut, cut, kept, lines_of, rest_of}
use Rattle.client_lines.specs.Ends.{IsEnding, IsWhole}
use Rattle.client_lines.proofs.Cuts.{has_no_feed, is_other, no_feed_in_take, cut-held, cut-feed, behind}

abbrev is_feed : ℕ → Bool
is_feed = is_byte 10

-- ---- bytes without a line feed

fails : (bytes : List ℕ) (i k : ℕ) → Nowhere (Passes is_feed bytes) 0 i → k < i → (slice_index bytes k == 10) ≡ false
fails bytes i k none within =
    elim (slice_index bytes k == 10) as (λ b. (slice_index bytes k == 10) ≡ b → b ≡ false) [
      | true ↦ λ e. absurd (none k (omega arith) within e)
      | false ↦ λ e. refl
    ] refl

no_feed_before : (bytes : List ℕ) (i : ℕ) → ((k : ℕ) → k < i → (slice_index bytes k == 10) ≡ false) → has_no_feed (take i bytes) ≡ true
no_feed_before bytes zero none = refl
no_feed_before [] (suc i) none = refl
no_feed_before (b ∷ bytes) (suc i) none =
    and_from _ _ (is_other (b == 10) (none 0 (omega arith))) (no_feed_before bytes i (λ k within. none (suc k) (omega (arith, within))))

no_feed_at_all : (bytes : List ℕ) → Nowhere (Passes is_feed bytes) 0 (length bytes) → has_no_feed bytes ≡ true
no_feed_at_all bytes none =
    subst (λ l. has_no_feed l ≡ true) (take_whole bytes) (no_feed_before bytes (length bytes) (λ k within. fails bytes (length bytes) k none within))
  where
    take_whole : (xs : List ℕ) → take (length xs) xs ≡ xs
    take_whole [] = refl
    take_whole (x ∷ xs) = ap (λ l. x ∷ l) (take_whole xs)

no_feed_in_both : (xs ys : List ℕ) → has_no_feed xs ≡ true → has_no_feed ys ≡ true → has_no_feed (xs ++ ys) ≡ true
no_feed_in_both xs ys a b = list_all-append (λ b. not (b == 10)) xs ys ∙ and_from _ _ a b

-- ---- what stands behind the lines so far

abbrev none : List ℕ
none = []

drop_none : (n : ℕ) → drop n none ≡ none
drop_none zero = refl
drop_none (suc n) = refl

drop_both : (n m : ℕ) (xs : List ℕ) → drop m (drop n xs) ≡ drop (n + m) xs
drop_both zero m xs = ap (λ k. drop k xs) (omega arith)
drop_both (suc n) m [] = drop_none m ∙ sym (drop_none (suc n + m))
drop_both (suc n) m (x ∷ xs) = drop_both n m xs ∙ ap (λ k. drop k (x ∷ xs)) (more n m)
  where
    more : (n m : ℕ) → suc (n + m) ≡ suc n + m
    more n m = omega arith

behind_seen : (used seen : ℕ) (bytes : List ℕ) → used ≤ seen → drop (seen - used) (drop used bytes) ≡ drop seen bytes
behind_seen used seen bytes order = drop_both used (seen - used) bytes ∙ ap (λ n. drop n bytes) (omega (arith, order))

-- a line feed behind bytes without one
line_and_more : (begun left : List ℕ) (b : ℕ) → has_no_feed begun ≡ true → (b == 10) ≡ true → cut (begun ++ b ∷ left) ≡ record { ended = (begun ++ []) ∷ (cut left).ended; rest = (cut left).rest }
line_and_more begun left b none e = cut-held begun (b ∷ left) none ∙ ap (λ (c : Cut). behind begun c.ended c.rest) (cut-feed b left e)

record IsNext (begun left xs : List ℕ) : Type 0 where
  lines : lines_of xs ≡ kept begun ∷ lines_of left
  rest : rest_of xs ≡ rest_of left

next_line : (begun left : List ℕ) (b : ℕ) → has_no_feed begun ≡ true → (b == 10) ≡ true → IsNext begun left (begun ++ b ∷ left)
next_line begun left b none e = record {
  lines = ap (λ (c : Cut). map kept c.ended) (line_and_more begun left b none e) ∙ ap (λ l. kept l ∷ lines_of left) (append-nil begun);
  rest = ap (λ (c : Cut). kept c.rest) (line_and_more begun left b none e);
}

-- the first bytes up to a line feed, and what is behind it
split_at_feed : (used seen more : ℕ) (bytes : List ℕ) → used ≤ seen → more < length (drop seen bytes)
    → drop used bytes ≡ take ((seen + more) - used) (drop used bytes) ++ slice_index (drop seen bytes) more ∷ drop (seen + more + 1) bytes
split_at_feed used seen more bytes order within =
    let at : drop ((seen + more) - used) (drop used bytes) ≡ drop (seen + more) bytes = behind_seen used (seen + more) bytes (omega (arith, order)) in
    let here : drop (seen + more) bytes ≡ slice_index (drop seen bytes) more ∷ drop (seen + more + 1) bytes =
    sym (drop_both seen more bytes)
    ∙ drop-cons (drop seen bytes) more 0 within
    ∙ ap (λ l. slice_index (drop seen bytes) more ∷ l) (drop_both seen (suc more) bytes ∙ ap (λ n. drop n bytes) (omega arith)) in
    sym (take-append-drop ((seen + more) - used) (drop used bytes)) ∙ ap (λ l. take ((seen + more) - used) (drop used bytes) ++ l) (at ∙ here)

-- the bytes of the line that ends
no_feed_in_line : (used seen more : ℕ) (bytes : List ℕ) → used ≤ seen → has_no_feed (take (seen - used) (drop used bytes)) ≡ true → has_no_feed (take more (drop seen bytes)) ≡ true
    → has_no_feed (take ((seen + more) - used) (drop used bytes)) ≡ true
no_feed_in_line used seen more bytes order clean more_clean =
    let parts : take ((seen + more) - used) (drop used bytes) ≡ take (seen - used) (drop used bytes) ++ take more (drop seen bytes) =
    ap (λ n. take n (drop used bytes)) (omega (arith, order))
    ∙ take-add (seen - used) more (drop used bytes)
    ∙ ap (λ l. take (seen - used) (drop used bytes) ++ take more l) (behind_seen used seen bytes order) in
    subst (λ l. has_no_feed l ≡ true) (sym parts) (no_feed_in_both (take (seen - used) (drop used bytes)) (take more (drop seen bytes)) clean more_clean)

pub ending_feed : (lines : List (List ℕ)) (used seen more : ℕ) (bytes : List ℕ) → IsEnding lines used seen bytes
    → NoneBefore (Passes is_feed (drop seen bytes)) 0 (length (drop seen bytes)) more → Passes is_feed (drop seen bytes) more
    → IsEnding (lines ++ kept (take ((seen + more) - used) (drop used bytes)) ∷ []) (seen + more + 1) (seen + more + 1) bytes
ending_feed lines used seen more bytes so_far first here =
    let begun = take ((seen + more) - used) (drop used bytes) in
    let left = drop (seen + more + 1) bytes in
    let before = no_feed_before (drop seen bytes) more (λ k within. fails (drop seen bytes) more k first.before within) in
    let none = no_feed_in_line used seen more bytes so_far.order so_far.clean before in
    let next : IsNext begun left (drop used bytes) =
    subst (IsNext begun left) (sym (split_at_feed used seen more bytes so_far.order first.high)) (next_line begun left (slice_index (drop seen bytes) more) none here) in
    record {
      all = append_assoc lines (kept begun ∷ []) (lines_of left) ∙ ap (λ l. lines ++ l) (sym next.lines) ∙ so_far.all;
      rest = sym next.rest ∙ so_far.rest;
      clean = ap (λ n. list_all (λ b. not (b == 10)) (take n left)) (nothing (seen + more + 1));
      order = omega arith;
      within = within;
    }
  where
    nothing : (n : ℕ) → n - n ≡ 0
    nothing n = omega arith

    within : seen + more + 1 ≤ length bytes
    within = let rest : more < length bytes - seen = subst (λ n. more < n) (length-drop seen bytes) first.high in omega (arith, rest)

pub ending_last : (lines : List (List ℕ)) (used seen : ℕ) (bytes : List ℕ) → IsEnding lines used seen bytes
    → Nowhere (Passes is_feed (drop seen bytes)) 0 (length (drop seen bytes)) → IsWhole lines used bytes
ending_last lines used seen bytes so_far nowhere =
    let left = drop used bytes in
    let quiet : has_no_feed left ≡ true =
    subst (λ l. has_no_feed l ≡ true) (take-append-drop (seen - used) left)
    (no_feed_in_both (take (seen - used) left) (drop (seen - used) left) so_far.clean (subst (λ l. has_no_feed l ≡ true) (sym (behind_seen used seen bytes so_far.order)) (no_feed_at_all (drop seen bytes) nowhere))) in
    let alone : cut left ≡ record { ended = []; rest = left ++ [] } = ap cut (sym (append-nil left)) ∙ cut-held left [] quiet in
    record {
      all = sym (append-nil lines) ∙ ap (λ l. lines ++ l) (sym (ap (λ (c : Cut). map kept c.ended) alone)) ∙ so_far.all;
      rest = sym (ap (λ (c : Cut). kept c.rest) alone ∙ ap kept (append-nil left)) ∙ so_far.rest;
      held = record { no_line_feed = no_feed_in_take 8193 left quiet; short = short };
      within = omega (arith, so_far.order, so_far.within);
    }
  where
    short : length (kept (drop used bytes)) ≤ 8193
    short = rw (length-take 8193 (drop used bytes)) (omega arith)

-- a slice up to the end
pub slice_to_end : (n : ℕ) (xs : List ℕ) → take (length xs - n) (drop n xs) ≡ drop n xs
slice_to_end n xs = take_all (length xs - n) (drop n xs) (rw (length-drop n xs) (omega arith))
