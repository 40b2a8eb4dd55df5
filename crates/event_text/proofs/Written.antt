-- What stands in a text after several writes.
use Rattle.std.proofs.Common.{◌≡◌, Result, OnOk, subst, List, ◌++◌, ap, ◌∙◌, ℕ, append_assoc}

-- a word and a field, then two fields with something before each
pub three_fields : {A E : Type 0} (r : Result A E) (old t1 t2 t3 new word x y s z u : List ℕ) → t1 ≡ old ++ word → t2 ≡ t1 ++ x → t3 ≡ t2 ++ (s ++ z) → OnOk r (new ≡ t3 ++ (y ++ u)) → OnOk r (new ≡ old ++ (word ++ x ++ s ++ z ++ y ++ u))
three_fields r old t1 t2 t3 new word x y s z u e1 e2 e3 g =
    let told : t3 ≡ ((old ++ word) ++ x) ++ (s ++ z) = e3 ∙ ap (λ (t : List ℕ). t ++ (s ++ z)) (e2 ∙ ap (λ (t : List ℕ). t ++ x) e1) in
    let regrouped : (((old ++ word) ++ x) ++ (s ++ z)) ++ (y ++ u) ≡ old ++ (word ++ x ++ s ++ z ++ y ++ u) = simp append_assoc in
    let same : t3 ++ (y ++ u) ≡ old ++ (word ++ x ++ s ++ z ++ y ++ u) = ap (λ (t : List ℕ). t ++ (y ++ u)) told ∙ regrouped in
    subst (λ (t : List ℕ). OnOk r (new ≡ t)) same g
