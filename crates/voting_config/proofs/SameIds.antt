-- Two ids are the same where all bytes that hold them are.
use Rattle.std.proofs.Common.{◌≡◌, ℕ, ◌+◌, ◌*◌, ◌%◌, ◌^◌, Bool, true, false, cond, not, eqb, List, [], ◌∷◌, length, take, map, refl, sym, ap, ◌∙◌, arith, w8, subst}
use lib.Lanes.{mask_l, zip2, top}
use Rattle.std.specs.Prelude.{nat_eq}
use Rattle.std.specs.Str.{bytes_eq}
use Rattle.std.specs.Cmp.Lexicographic.{same_text}
use Rattle.std.proofs.lemmas.Bool.Decides.{nat_tests}
use Rattle.std.proofs.lemmas.Simd.{length-zip2, mask_l-mod, tops_compared}
use Rattle.std.proofs.lemmas.Slice.Eq.{bytes_eq-Decides}
use Rattle.voting_config.specs.Padded.{IsPadded, padded, held_length}

abbrev differ : ℕ → ℕ → Bool
differ a b = not (eqb a b)

same_from_mask : (xs ys : List ℕ) → length xs ≡ length ys → mask_l (zip2 differ xs ys) ≡ 0 → xs ≡ ys
same_from_mask [] [] long none = refl
same_from_mask [] (y ∷ ys) long none = absurd (omega arith)
same_from_mask (x ∷ xs) [] long none = absurd (omega arith)
same_from_mask (x ∷ xs) (y ∷ ys) long none =
    elim (eqb x y) as (λ b. eqb x y ≡ b → cond (not b) 1 0 + 2 * mask_l (zip2 differ xs ys) ≡ 0 → x ∷ xs ≡ y ∷ ys) [
      | true ↦ λ e k.
          let head : x ≡ y = grind (arith, nat_tests) in
          let tail : xs ≡ ys = same_from_mask xs ys (omega arith) (omega (arith, k)) in
          cc
      | false ↦ λ e k. absurd (omega (arith, k))
    ] refl none

mask_of_same : (xs : List ℕ) → mask_l (zip2 differ xs xs) ≡ 0
mask_of_same [] = refl
mask_of_same (x ∷ xs) = let e : eqb x x ≡ true = grind (arith, nat_tests) in rw e (omega (arith, mask_of_same xs))

same_test : (mask : ℕ) (a b : List ℕ) → (mask ≡ 0 → a ≡ b) → (a ≡ b → mask ≡ 0) → nat_eq mask 0 ≡ bytes_eq a b
same_test mask a b f g =
    elim (bytes_eq a b) as (λ t. bytes_eq a b ≡ t → nat_eq mask 0 ≡ t) [
      | true ↦ λ e. let none : mask ≡ 0 = g (same_text a b (sym e)) in grind (arith, nat_tests)
      | false ↦ λ e. elim (nat_eq mask 0) as (λ t. nat_eq mask 0 ≡ t → t ≡ false) [
        | true ↦ λ k.
            let none : mask ≡ 0 = grind (arith, nat_tests) in
            let yes : bytes_eq a b ≡ true = (bytes_eq-Decides a b).1 (f none) in
            absurd (cc)
        | false ↦ λ k. refl
      ] refl
    ] refl

pub held_same : (xs ys : List ℕ) → IsPadded xs → IsPadded ys
    → nat_eq (mask_l (map (top 7) (zip2 (λ a b. cond (differ a b) 255 0) xs ys)) % 2 ^ 64) 0 ≡ bytes_eq (take (held_length xs) xs) (take (held_length ys) ys)
held_same xs ys h k =
    let long : length (zip2 differ xs ys) ≡ length xs = length-zip2 differ xs ys (omega (arith, h.full, k.full)) in
    let is = ap (λ ms. mask_l ms % 2 ^ 64) (tops_compared w8 differ xs ys) ∙ mask_l-mod (zip2 differ xs ys) 64 (omega (arith, h.full, long)) in
    same_test _ (take (held_length xs) xs) (take (held_length ys) ys)
    (λ none. ap (λ (l : List ℕ). take (held_length l) l) (same_from_mask xs ys (omega (arith, h.full, k.full)) (sym is ∙ none)))
    (λ one.
    let same : xs ≡ ys = sym h.back ∙ ap padded one ∙ k.back in
    is ∙ subst (λ (l : List ℕ). mask_l (zip2 differ xs l) ≡ 0) same (mask_of_same xs))
