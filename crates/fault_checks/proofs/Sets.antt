-- The set of the ids of some followers, made from the last to the first.
use Rattle.std.proofs.Common.{◌≡◌, ℕ, suc, ◌+◌, ◌-◌, ◌<◌, ◌≤◌, ◌∙◌, sym, get_or, drop, Bool, true, false, cond, List, ◌∷◌, [], length, ap, refl, arith}
use Rattle.std.specs.Prelude.{filter}
use Rattle.std.proofs.lemmas.Bool.{and_parts}
use Rattle.std.proofs.lemmas.List.{drop_more, length-map}
use Rattle.voting_config.specs.Ids.{Id, with_id, is_below, ascends}
use Rattle.fault_checks.specs.declared.followers.Follower.{Follower}
use Rattle.fault_checks.specs.Followers.{ids_of}
use Rattle.voting_config.proofs.Sets.{with_id-first}
use Rattle.fault_checks.proofs.Ascending.{is_below-filter, ascends-drop}

length-filter-le : (p : Follower → Bool) (fs : List Follower) → length (filter p fs) ≤ length fs
length-filter-le p [] = omega arith
length-filter-le p (f ∷ fs) =
    let fewer = length-filter-le p fs in
    elim (p f) as (λ b. length (cond b (f ∷ filter p fs) (filter p fs)) ≤ suc (length fs)) [ true ↦ omega (arith, fewer) | false ↦ omega (arith, fewer) ]

pub length-ids_of-filter : (p : Follower → Bool) (fs : List Follower) → length (ids_of (filter p fs)) ≤ length fs
length-ids_of-filter p fs = omega (arith, length-map (filter p fs) (λ (f : Follower). f.id), length-filter-le p fs)

chosen-first : (p : Follower → Bool) (f : Follower) (fs : List Follower) (ids : List Id) → is_below f.id (ids_of fs) ≡ true → ids ≡ cond (p f) (with_id f.id (ids_of (filter p fs))) (ids_of (filter p fs)) → ids ≡ ids_of (filter p (f ∷ fs))
chosen-first p f fs ids low h =
    elim (p f) as (λ b. ids ≡ cond b (with_id f.id (ids_of (filter p fs))) (ids_of (filter p fs)) → ids ≡ ids_of (cond b (f ∷ filter p fs) (filter p fs))) [
      | true ↦ λ k. k ∙ with_id-first f.id (ids_of (filter p fs)) (is_below-filter f.id p fs low)
      | false ↦ λ k. k
    ] h

-- one follower more is looked at
pub chosen-step : (p : Follower → Bool) (fs : List Follower) (place : ℕ) (f : Follower) (old new : List Id) → ascends (ids_of fs) ≡ true → 0 < place → place ≤ length fs → f ≡ get_or fs (place - 1) f → old ≡ ids_of (filter p (drop place fs)) → new ≡ cond (p f) (with_id f.id old) old → new ≡ ids_of (filter p (drop (place - 1) fs))
chosen-step p fs place f old new up some within read so_far made =
    let below : place - 1 < length fs = omega arith in
    let back : place - 1 + 1 ≡ place = omega arith in
    let rest : drop (place - 1) fs ≡ f ∷ drop place fs =
    drop_more fs (place - 1) f below ∙ ap (λ (n : ℕ). get_or fs (place - 1) f ∷ drop n fs) back ∙ ap (λ t. t ∷ drop place fs) (sym read) in
    let up_here : ascends (ids_of (f ∷ drop place fs)) ≡ true = sym (ap (λ (l : List Follower). ascends (ids_of l)) rest) ∙ ascends-drop (place - 1) fs up in
    let low : is_below f.id (ids_of (drop place fs)) ≡ true = (and_parts (is_below f.id (ids_of (drop place fs))) (ascends (ids_of (drop place fs))) up_here).0 in
    rw rest (chosen-first p f (drop place fs) new low (made ∙ ap (λ (ids : List Id). cond (p f) (with_id f.id ids) ids) so_far))

-- all are chosen by a test that always holds
pub filter-all : (fs : List Follower) → filter (λ (f : Follower). true) fs ≡ fs
filter-all [] = refl
filter-all (f ∷ fs) = ap (λ t. f ∷ t) (filter-all fs)
