-- Where the live nodes are the voters of today, none of them excluded, these are chosen again.
use Rattle.std.proofs.Common.{◌≡◌, ℕ, ◌+◌, ◌≤◌, Bool, true, false, cond, not, ◌&&◌, ◌||◌, List, [], ◌∷◌, ◌++◌, length, take, refl, sym, ap, subst, ◌∙◌, arith}
use Rattle.std.specs.Prelude.{if◌then◌else◌}
use Rattle.std.proofs.lemmas.Bool.{and_parts}
use Rattle.std.proofs.lemmas.List.{append-nil, take_all}
use Rattle.voting_config.specs.Ids.{Id, among, are_among, ascends, has, is_quorum_of, outside, same, set_of, some_among, without_id}
use Rattle.voting_config.proofs.Sets.{has-set_of, has-without_id, length-without_id-is, same_flipped}
use Rattle.voting_config.proofs.Sorted.{has_same}
use Rattle.voting_config.proofs.Rosters.{ascends-set_of, same_set}
use Rattle.voting_config.proofs.Words.{among_from}
use Rattle.reconfigurator.specs.Targets.{candidates_of, chosen_of, size_of, target_of}

neither : (a b : Bool) → (a || b) ≡ false → (a ≡ false) × (b ≡ false)
neither true b h = absurd cc
neither false b h = (refl, h)

outside_apart : (xs ys : List Id) → some_among xs ys ≡ false → outside xs ys ≡ xs
outside_apart [] ys h = refl
outside_apart (x ∷ xs) ys h =
    let parts = neither (has x ys) (some_among xs ys) h in
    rw (parts.0, outside_apart xs ys parts.1) refl

among_all : (xs ys : List Id) → are_among ys xs ≡ true → among xs ys ≡ xs
among_all [] ys h = refl
among_all (x ∷ xs) ys h =
    let parts = and_parts (has x ys) (are_among ys xs) h in
    rw (parts.0, among_all xs ys parts.1) refl

outside_all : (xs ys : List Id) → are_among ys xs ≡ true → outside xs ys ≡ []
outside_all [] ys h = refl
outside_all (x ∷ xs) ys h =
    let parts = and_parts (has x ys) (are_among ys xs) h in
    rw (parts.0, outside_all xs ys parts.1) refl

or_none : (b : Bool) → (b || false) ≡ b
or_none true = refl
or_none false = refl

outside_one : (x : Id) (ys : List Id) → outside ys (x ∷ []) ≡ without_id x ys
outside_one x [] = refl
outside_one x (y ∷ ys) =
    let here : (same x y || false) ≡ same y x = or_none (same x y) ∙ same_flipped x y in
    rw (here, outside_one x ys) refl

-- the voters, with the master first
first_and_others : (master : Id) (ids : List Id) → has master ids ≡ true → candidates_of ids ids master ≡ master ∷ without_id master ids
first_and_others master ids in_it =
    let others = outside ids (master ∷ []) in
    let all : are_among others others ≡ true = among_from others others (λ x h. h) in
    let first : (if has master ids || has master ids then master ∷ [] else []) ≡ master ∷ [] = rw in_it refl in
    ap (λ (prefix : List Id). prefix ++ among others others ++ outside others others ++ outside others others) first
    ∙ ap (λ (kept : List Id). (master ∷ []) ++ kept ++ outside others others ++ outside others others) (among_all others others all)
    ∙ ap (λ (none : List Id). (master ∷ []) ++ others ++ none ++ none) (outside_all others others all)
    ∙ append-nil (((master ∷ []) ++ others) ++ [])
    ∙ append-nil ((master ∷ []) ++ others)
    ∙ ap (λ (ids : List Id). master ∷ ids) (outside_one master ids)

again : (b h : Bool) → (b ≡ true → h ≡ true) → (b || (h && not b)) ≡ h
again true h is = sym (is refl)
again false true is = refl
again false false is = refl

back_in : (master : Id) (ids : List Id) → ascends ids ≡ true → has master ids ≡ true → set_of (master ∷ without_id master ids) ≡ ids
back_in master ids up in_it =
    same_set (set_of (master ∷ without_id master ids)) ids (ascends-set_of (master ∷ without_id master ids)) up
    (λ z. has-set_of z (master ∷ without_id master ids)
    ∙ ap (λ (b : Bool). same master z || b) (has-without_id z master ids)
    ∙ again (same master z) (has z ids) (λ e. has_same master z ids e in_it))

taken_all : (master : Id) (ids : List Id) (count : ℕ) → ascends ids ≡ true → has master ids ≡ true → length ids ≤ count → set_of (take count (candidates_of ids ids master)) ≡ ids
taken_all master ids count up in_it fits =
    let with_one : length (without_id master ids) + cond (has master ids) 1 0 ≡ length ids = length-without_id-is master ids up in
    let all : length (without_id master ids) + 1 ≡ length ids = subst (λ (b : Bool). length (without_id master ids) + cond b 1 0 ≡ length ids) in_it with_one in
    ap (λ (xs : List Id). set_of (take count xs)) (first_and_others master ids in_it)
    ∙ ap (λ (xs : List Id). set_of xs) (take_all count (master ∷ without_id master ids) (omega (arith, all, fits)))
    ∙ back_in master ids up in_it

chosen_again : (live excluded config : List Id) (master : Id) (shrink : Bool) → live ≡ config → ascends config ≡ true → has master config ≡ true → some_among config excluded ≡ false
    → length config ≤ size_of (length config) (length config) (length config) shrink → chosen_of live excluded master config shrink ≡ config
chosen_again live excluded config master shrink same up in_it apart fits =
    let kept = outside_apart config excluded apart in
    let count : List Id → List Id → ℕ = λ allowed voters. size_of (length allowed) (length config) (length voters) shrink in
    ap (λ (ids : List Id). chosen_of ids excluded master config shrink) same
    ∙ ap (λ (ids : List Id). set_of (take (count ids ids) (candidates_of ids ids master))) kept
    ∙ taken_all master config (count config config) up in_it fits

either : (b : Bool) (ids : List Id) → (if b then ids else ids) ≡ ids
either true ids = refl
either false ids = refl

-- the members, all of whom voted, are the voters of today
pub stay : (members votes excluded config : List Id) (master : Id) (shrink : Bool) → members ≡ config → are_among votes config ≡ true → ascends config ≡ true → has master config ≡ true
    → some_among config excluded ≡ false → length config ≤ size_of (length config) (length config) (length config) shrink → target_of (among members votes) excluded master config shrink ≡ config
stay members votes excluded config master shrink same voted up in_it apart fits =
    let live = among members votes in
    let all : live ≡ config = ap (λ (ids : List Id). among ids votes) same ∙ among_all config votes voted in
    let again = chosen_again live excluded config master shrink all up in_it apart fits in
    let chosen = chosen_of live excluded master config shrink in
    ap (λ (ids : List Id). if is_quorum_of chosen live then ids else config) again ∙ either (is_quorum_of chosen live) config
