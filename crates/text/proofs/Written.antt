-- What stands in a text after several writes.
use Rattle.std.proofs.Common.{◌≡◌, Result, OnOk, subst, List, [], ◌∷◌, ◌++◌, ◌<◌, ◌≤◌, ◌-◌, suc, length, take, drop, get_or, refl, sym, ap, ◌∙◌, ℕ, arith, append_assoc}
use Rattle.std.specs.List.{flat_map}
use Rattle.std.proofs.lemmas.List.{append-nil, drop_all, take_all}
use Rattle.voting_config.specs.Ids.{Id}
use Rattle.voting_config.specs.Lists.{list_text}

abbrev pub comma_text : List Id → List ℕ
comma_text ids = flat_map (λ (i : Id). 44 ∷ i) ids

pub list_by_commas : (x : Id) (xs : List Id) → list_text (x ∷ xs) ≡ x ++ comma_text xs
list_by_commas x [] = sym (append-nil x)
list_by_commas x (y ∷ ys) = ap (λ t. x ++ 44 ∷ t) (list_by_commas y ys)

pub head_tail : (ids : List Id) (first : Id) → 0 < length ids → first ≡ get_or ids 0 first → ids ≡ first ∷ take (length ids - 1) (drop 1 ids)
head_tail [] first h e = absurd (omega (arith, h))
head_tail (x ∷ xs) first h e =
    let whole : take (suc (length xs) - 1) xs ≡ xs = take_all (suc (length xs) - 1) xs (omega arith) in
    rw (whole, e) refl

pub ids_written : (ids others : List Id) (first : Id) (i : ℕ) (old mid new : List ℕ) → ids ≡ first ∷ others → mid ≡ old ++ first → length others ≤ i → new ++ comma_text (drop i others) ≡ mid ++ comma_text others → new ≡ old ++ list_text ids
ids_written ids others first i old mid new split is past inv =
    sym (append-nil new) ∙ sym (ap (λ (t : List Id). new ++ comma_text t) (drop_all i others past)) ∙ inv
    ∙ ap (λ t. t ++ comma_text others) is ∙ append_assoc old first (comma_text others)
    ∙ ap (λ t. old ++ t) (sym (list_by_commas first others) ∙ ap list_text (sym split))

-- three writes, one after the other
pub three_written : {A E : Type 0} (r : Result A E) (old first second new a b c : List ℕ) → first ≡ old ++ a → second ≡ first ++ b → OnOk r (new ≡ second ++ c) → OnOk r (new ≡ old ++ (a ++ (b ++ c)))
three_written r old first second new a b c e f g =
    let same : second ++ c ≡ old ++ (a ++ (b ++ c)) =
    ap (λ (t : List ℕ). t ++ c) (f ∙ ap (λ (t : List ℕ). t ++ b) e) ∙ append_assoc (old ++ a) b c ∙ append_assoc old a (b ++ c) in
    subst (λ (t : List ℕ). OnOk r (new ≡ t)) same g
