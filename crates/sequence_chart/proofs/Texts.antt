-- How long texts are, and what stands at a place of a list.
use Rattle.std.proofs.Common.{◌≡◌, ℕ, zero, suc, ◌+◌, ◌≤◌, ◌<◌, Bool, true, false, cond, Option, Some, List, [], ◌∷◌, ◌++◌, length, take, get_or, slice_get, min, codes, refl, sym, ap, arith, length-append}
use Rattle.std.specs.Prelude.{nat_lt, if◌then◌else◌}
use Rattle.std.proofs.lemmas.Bool.{ltb-false}
use Rattle.std.proofs.lemmas.List.{length-take}
use Rattle.sequence_chart.specs.Words.{capped}

-- a capped text has two bytes more at most
pub capped_few : (most : ℕ) (text : List ℕ) → length (capped most text) ≤ most + 2
capped_few most text =
    elim (nat_lt most (length text)) as (λ b. nat_lt most (length text) ≡ b → length (cond b (take most text ++ codes "..") text) ≤ most + 2) [
      | true ↦ λ e. omega (arith, length-append (take most text) (codes ".."), length-take most text)
      | false ↦ λ e. omega (arith, ltb-false _ _ e)
    ] refl

pub found_at : {A : Type 0} (xs : List A) (i : ℕ) (x : A) → i < length xs → x ≡ get_or xs i x → slice_get xs i ≡ Some x
found_at [] i x h e = absurd (omega (arith, h))
found_at (y ∷ ys) zero x h e = ap (λ z. Some z) (sym e)
found_at (y ∷ ys) (suc i) x h e = found_at ys i x (omega (arith, h)) e
