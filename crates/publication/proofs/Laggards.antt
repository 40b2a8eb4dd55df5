-- Who has not applied the state.
use Rattle.std.proofs.Common.{◌≡◌, Bool, true, false, cond, not, ◌||◌, List, [], ◌∷◌, refl, ap}
use Rattle.std.specs.Prelude.{filter}
use Rattle.voting_config.specs.Ids.{Id, same, without_id}
use Rattle.publication.specs.Publications.{Publication, Calls, Then, Applied, StandsFor, publication_of, has_applied, targets_of}

-- before any call all targets lag
pub filter-all : (ids : List Id) → filter (λ id. true) ids ≡ ids
filter-all [] = refl
filter-all (id ∷ ids) = ap (λ t. id ∷ t) (filter-all ids)

gone : (s : Bool) (id : Id) (xs ys : List Id) → xs ≡ ys → xs ≡ cond (not (s || true)) (id ∷ ys) ys
gone true id xs ys h = h
gone false id xs ys h = h

stays : (s : Bool) (id : Id) (xs ys : List Id) → xs ≡ ys → cond (not s) (id ∷ xs) xs ≡ cond (not (s || false)) (id ∷ ys) ys
stays true id xs ys h = h
stays false id xs ys h = ap (λ t. id ∷ t) h

-- who has applied it now is one less of them
pub filter-without : (applied : Id → Bool) (x : Id) (ids : List Id) → without_id x (filter (λ id. not (applied id)) ids) ≡ filter (λ id. not (same id x || applied id)) ids
filter-without applied x [] = refl
filter-without applied x (id ∷ ids) =
    elim (applied id) as (λ b. without_id x (cond (not b) (id ∷ filter (λ i. not (applied i)) ids) (filter (λ i. not (applied i)) ids)) ≡ cond (not (same id x || b)) (id ∷ filter (λ i. not (same i x || applied i)) ids) (filter (λ i. not (same i x || applied i)) ids)) [
      | true ↦ gone (same id x) id _ _ (filter-without applied x ids)
      | false ↦ stays (same id x) id _ _ (filter-without applied x ids)
    ]

pub applied-stands : (p : Publication) (source : Id) (left : List Id) (calls : Calls) → left ≡ without_id source p.laggards → StandsFor p calls → StandsFor (record p { laggards = left }) (Then calls (Applied source))
applied-stands p source left calls gone stands =
    rw (gone, stands) (ap (λ (ids : List Id). record (publication_of calls) { laggards = ids }) (filter-without (has_applied calls) source (targets_of calls)))
