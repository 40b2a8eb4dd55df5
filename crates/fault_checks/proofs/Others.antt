-- Those who are watched, where they are the members other than the leader.
use Rattle.std.proofs.Common.{◌≡◌, ℕ, ◌+◌, ◌<◌, Bool, true, false, cond, not, List, [], ◌∷◌, ◌++◌, length, map, take, get_or, refl, sym, ap, ◌∙◌, arith}
use Rattle.std.proofs.lemmas.Bool.{and_parts}
use Rattle.std.proofs.lemmas.List.{append-nil, get_or-map, length-map, take_more}
use Rattle.std.proofs.lemmas.List.Elements.{filter-append}
use Rattle.voting_config.specs.Ids.{Id, ascends, is_below, same, without_id}
use Rattle.voting_config.proofs.Sets.{same_self}
use Rattle.voting_config.proofs.Sorted.{before-not_same}
use Rattle.fault_checks.specs.declared.followers.Follower.{Follower}
use Rattle.fault_checks.specs.Followers.{ids_of, watched_or_new}

pub not_false : (b : Bool) → not b ≡ false → b ≡ true
not_false true h = refl
not_false false h = absurd cc

pub not_true : (b : Bool) → not b ≡ true → b ≡ false
not_true false h = refl
not_true true h = absurd cc

-- one member more
without_more : (me : Id) (members : List Id) (i : ℕ) (m : Id) → i < length members → m ≡ get_or members i m
    → without_id me (take (i + 1) members) ≡ without_id me (take i members) ++ cond (not (same m me)) (m ∷ []) []
without_more me members i m less at =
    ap (without_id me) (take_more members i m less ∙ ap (λ (x : Id). take i members ++ x ∷ []) (sym at))
    ∙ filter-append (λ y. not (same y me)) (take i members) (m ∷ [])

-- the leader itself
pub others-me : (me : Id) (members : List Id) (i : ℕ) (m : Id) (ids : List Id) → i < length members → m ≡ get_or members i m → same m me ≡ true
    → without_id me (take i members) ≡ ids → without_id me (take (i + 1) members) ≡ ids
others-me me members i m ids less at mine so_far =
    without_more me members i m less at
    ∙ ap (λ (b : Bool). without_id me (take i members) ++ cond (not b) (m ∷ []) []) mine
    ∙ append-nil (without_id me (take i members))
    ∙ so_far

-- the next one who is watched
pub others-next : (me : Id) (members : List Id) (i : ℕ) (m : Id) (fs : List Follower) (place : ℕ) (f : Follower) → i < length members → m ≡ get_or members i m → same m me ≡ false
    → place < length fs → f ≡ get_or fs place f → f.id ≡ m
    → without_id me (take i members) ≡ take place (ids_of fs) → without_id me (take (i + 1) members) ≡ take (place + 1) (ids_of fs)
others-next me members i m fs place f less at other within here is so_far =
    let long : place < length (ids_of fs) = omega (arith, within, length-map fs (λ (g : Follower). g.id)) in
    let next : get_or (ids_of fs) place m ≡ m = get_or-map (λ (g : Follower). g.id) fs place f m within ∙ ap (λ (g : Follower). g.id) (sym here) ∙ is in
    without_more me members i m less at
    ∙ ap (λ (b : Bool). without_id me (take i members) ++ cond (not b) (m ∷ []) []) other
    ∙ ap (λ (ids : List Id). ids ++ m ∷ []) so_far
    ∙ ap (λ (x : Id). take place (ids_of fs) ++ x ∷ []) (sym next)
    ∙ sym (take_more (ids_of fs) place m long)

later_again : (f : Follower) (fs gs : List Follower) (now : ℕ) → is_below f.id (ids_of gs) ≡ true
    → map (λ id. watched_or_new (f ∷ fs) id now) (ids_of gs) ≡ map (λ id. watched_or_new fs id now) (ids_of gs)
later_again f fs [] now h = refl
later_again f fs (g ∷ gs) now h =
    let parts = and_parts _ (is_below f.id (ids_of gs)) h in
    let first = before-not_same g.id f.id parts.0 in
    rw (first, later_again f fs gs now parts.1) refl

-- who is watched already goes on as before
pub watched_again : (fs : List Follower) (now : ℕ) → ascends (ids_of fs) ≡ true → map (λ id. watched_or_new fs id now) (ids_of fs) ≡ fs
watched_again [] now h = refl
watched_again (f ∷ fs) now h =
    let parts = and_parts (is_below f.id (ids_of fs)) (ascends (ids_of fs)) h in
    let itself = same_self f.id in
    rw (itself, later_again f fs fs now parts.0, watched_again fs now parts.1) refl
