-- Lists of distinct ids.
use Rattle.std.proofs.Common.{◌≡◌, refl, ◌∙◌, ap, not, Bool, true, false, ◌||◌, List, [], ◌∷◌, ◌++◌}
use Rattle.std.proofs.Math.Bool.{or-false, and-false}
use Rattle.std.proofs.lemmas.Bool.{and_parts, and_from, or_parts, or_right}
use Rattle.std.proofs.lemmas.List.Folds.{list_any-append}
use Rattle.std.specs.Cmp.Lexicographic.{nat_list_eq_equiv}
use Rattle.voting_config.specs.Ids.{Id, same, has}
use Rattle.client_lines.specs.Requests.{are_distinct}

pub has-append : (q : Id) (xs ys : List Id) → has q (xs ++ ys) ≡ (has q xs || has q ys)
has-append q xs ys = list_any-append (λ y. same y q) xs ys

-- an id that stands before and again
pub are_distinct-again : (x : Id) (prefix rest : List Id) → has x prefix ≡ true → are_distinct (prefix ++ x ∷ rest) ≡ false
are_distinct-again x [] rest h = absurd (cc)
are_distinct-again x (y ∷ ys) rest h =
    elim (same y x) as (λ b. same y x ≡ b → are_distinct ((y ∷ ys) ++ x ∷ rest) ≡ false) [
      | true ↦ λ e.
          let here : has y (x ∷ rest) ≡ true = rw (nat_list_eq_equiv.symm x y, e) refl in
          let again : has y (ys ++ x ∷ rest) ≡ true = has-append y ys (x ∷ rest) ∙ or_right (has y ys) _ here in
          rw again refl
      | false ↦ λ e.
          let later : has x ys ≡ true = rw e at h in
          rw (are_distinct-again x ys rest later) (and-false _)
    ] refl

-- one more id that is none of them
pub are_distinct-push : (x : Id) (prefix : List Id) → are_distinct prefix ≡ true → has x prefix ≡ false → are_distinct (prefix ++ x ∷ []) ≡ true
are_distinct-push x [] h k = refl
are_distinct-push x (y ∷ ys) h k =
    let parts : (not (has y ys) ≡ true) × (are_distinct ys ≡ true) = and_parts (not (has y ys)) (are_distinct ys) h in
    let apart : (same y x ≡ false) × (has x ys ≡ false) = or_parts (same y x) (has x ys) k in
    let here : has y (x ∷ []) ≡ false = rw (nat_list_eq_equiv.symm x y, apart.0) refl in
    let same_prefix : has y (ys ++ x ∷ []) ≡ has y ys = has-append y ys (x ∷ []) ∙ ap (λ (b : Bool). has y ys || b) here ∙ or-false (has y ys) in
    and_from _ _ (ap not same_prefix ∙ parts.0) (are_distinct-push x ys parts.1 apart.1)
