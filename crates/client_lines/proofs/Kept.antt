-- What a line keeps.
use Rattle.std.proofs.Common.{◌≡◌, ◌∙◌, refl, sym, ap, inl, inr, ℕ, zero, suc, ◌<◌, ◌≤◌, true, Err, List, [], ◌∷◌, length, take, nat_lt, arith}
use Rattle.std.proofs.lemmas.Bool.Decides.{nat_tests, leb_tells}
use Rattle.cluster_state.specs.declared.reply.LineFault.TheVariants.{TooLong}
use Rattle.client_lines.specs.Lines.{kept}
use Rattle.client_lines.specs.Reading.{line_request}
use Rattle.client_lines.specs.Laws.{KeepsEnough}

take-all : (n : ℕ) (xs : List ℕ) → length xs ≤ n → take n xs ≡ xs
take-all zero [] h = refl
take-all zero (x ∷ xs) h = absurd (omega arith)
take-all (suc n) [] h = refl
take-all (suc n) (x ∷ xs) h = ap (λ l. x ∷ l) (take-all n xs (omega arith))

length-take-full : (n : ℕ) (xs : List ℕ) → n ≤ length xs → length (take n xs) ≡ n
length-take-full zero xs h = refl
length-take-full (suc n) [] h = absurd (omega arith)
length-take-full (suc n) (x ∷ xs) h = ap suc (length-take-full n xs (omega arith))

too_long : (line : List ℕ) → 8192 < length line → line_request line ≡ Err TooLong
unfolding line_request
too_long line long =
    let test : nat_lt 8192 (length line) ≡ true = grind (arith, nat_tests) in
    rw test refl

pub keeps_enough : (line : List ℕ) → KeepsEnough line
keeps_enough line = elim (leb_tells (length line) 8193) [
  | inl short ↦ ap line_request (take-all 8193 line short.1)
  | inr long ↦
      let cut_length : length (kept line) ≡ 8193 = length-take-full 8193 line (omega (arith, long.1)) in
      too_long (kept line) (omega (arith, cut_length)) ∙ sym (too_long line (omega (arith, long.1)))
]
