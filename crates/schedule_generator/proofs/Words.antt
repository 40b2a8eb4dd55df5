-- Three words in a row.
use Rattle.std.proofs.Common.{◌≡◌, ℕ, ap, ◌∙◌}
use Rattle.rand_pcg.specs.Lcg.{Lcg}
use Rattle.rand_pcg.specs.Pcg.{pcg32}
use Rattle.schedule_generator.specs.Draws.{draw_of, after_draw}

module _ (g h i j : Lcg) (first second third : ℕ) (one : (first, h) ≡ pcg32 g) (two : (second, i) ≡ pcg32 h) (three : (third, j) ≡ pcg32 i) where
  behind_one : h ≡ (pcg32 g).1
  behind_one = ap (λ (p : ℕ × Lcg). p.1) one

  behind_two : i ≡ (pcg32 (pcg32 g).1).1
  behind_two = ap (λ (p : ℕ × Lcg). p.1) two ∙ ap (λ (x : Lcg). (pcg32 x).1) behind_one

  pub drawn : record { first = first; second = second; third = third } ≡ draw_of g
  unfolding draw_of
  drawn = λ k. record {
    first = ap (λ (p : ℕ × Lcg). p.0) one k;
    second = (ap (λ (p : ℕ × Lcg). p.0) two ∙ ap (λ (x : Lcg). (pcg32 x).0) behind_one) k;
    third = (ap (λ (p : ℕ × Lcg). p.0) three ∙ ap (λ (x : Lcg). (pcg32 x).0) behind_two) k;
  }

  pub left : j ≡ after_draw g
  unfolding after_draw
  left = ap (λ (p : ℕ × Lcg). p.1) three ∙ ap (λ (x : Lcg). (pcg32 x).1) behind_two
