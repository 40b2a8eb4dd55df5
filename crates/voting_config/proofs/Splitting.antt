-- A text that is cut at a byte.
use Rattle.std.proofs.Common.{◌≡◌, ℕ, suc, ◌+◌, ◌-◌, ◌<◌, ◌≤◌, Bool, true, false, cond, not, Some, None, List, [], ◌∷◌, length, take, drop, position, refl, ◌∙◌, ap, arith, nat_lt}
use Rattle.std.specs.List.{slice_split, onto_first, position_or_len}
use Rattle.std.proofs.lemmas.Bool.{ltb-true, ltb-false}
use Rattle.std.proofs.lemmas.List.{take_rest}

prefix : (x n : ℕ) (xs : List ℕ) (f : List ℕ → List (List ℕ)) → ((x ∷ take n xs) ∷ f (drop (n + 1) xs)) ≡ take (1 + n) (x ∷ xs) ∷ f (drop (1 + n + 1) (x ∷ xs))
prefix x n xs f =
    let one : 1 + n ≡ suc n = omega arith in
    let two : 1 + n + 1 ≡ suc (n + 1) = omega arith in
    rw (two, one) refl

split_first : (p : ℕ → Bool) (xs : List ℕ) → position_or_len p xs < length xs → slice_split p xs ≡ take (position_or_len p xs) xs ∷ slice_split p (drop (position_or_len p xs + 1) xs)
split_first p [] h = absurd (omega arith)
split_first p (x ∷ xs) h =
    elim (p x) as (λ b. cond (not b) (1 + position_or_len p xs) 0 < length (x ∷ xs) → cond b ([] ∷ slice_split p xs) (onto_first x (slice_split p xs)) ≡ take (cond (not b) (1 + position_or_len p xs) 0) (x ∷ xs) ∷ slice_split p (drop (cond (not b) (1 + position_or_len p xs) 0 + 1) (x ∷ xs))) [
      | true ↦ λ k. refl
      | false ↦ λ k. ap (λ (l : List (List ℕ)). onto_first x l) (split_first p xs (omega arith)) ∙ prefix x (position_or_len p xs) xs (slice_split p)
    ] h

split_none : (p : ℕ → Bool) (xs : List ℕ) → length xs ≤ position_or_len p xs → slice_split p xs ≡ xs ∷ []
split_none p [] h = refl
split_none p (x ∷ xs) h =
    elim (p x) as (λ b. length (x ∷ xs) ≤ cond (not b) (1 + position_or_len p xs) 0 → cond b ([] ∷ slice_split p xs) (onto_first x (slice_split p xs)) ≡ (x ∷ xs) ∷ []) [
      | true ↦ λ k. absurd (omega arith)
      | false ↦ λ k. ap (λ (l : List (List ℕ)). onto_first x l) (split_none p xs (omega arith))
    ] h

pub word_found : (line : List ℕ) (p : ℕ → Bool) (at : ℕ) → position p line ≡ Some at → slice_split p line ≡ take at line ∷ slice_split p (take (length line - (at + 1)) (drop (at + 1) line))
word_found line p at h =
    elim (nat_lt (position_or_len p line) (length line)) as (λ b. nat_lt (position_or_len p line) (length line) ≡ b → cond b (Some (position_or_len p line)) None ≡ Some at → slice_split p line ≡ take at line ∷ slice_split p (take (length line - (at + 1)) (drop (at + 1) line))) [
      | true ↦ λ e k.
          let is : position_or_len p line ≡ at = cc in
          rw (take_rest line (at + 1), ← is) (split_first p line (ltb-true _ _ e))
      | false ↦ λ e k. absurd (cc)
    ] refl h

pub word_alone : (line : List ℕ) (p : ℕ → Bool) → position p line ≡ None → slice_split p line ≡ line ∷ []
word_alone line p h =
    elim (nat_lt (position_or_len p line) (length line)) as (λ b. nat_lt (position_or_len p line) (length line) ≡ b → cond b (Some (position_or_len p line)) None ≡ None → slice_split p line ≡ line ∷ []) [
      | true ↦ λ e k. absurd (cc)
      | false ↦ λ e k. split_none p line (ltb-false _ _ e)
    ] refl h
