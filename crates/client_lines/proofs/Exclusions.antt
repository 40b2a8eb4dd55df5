-- The ids of an exclude, one after another.
use Rattle.std.proofs.Common.{◌≡◌, refl, sym, ◌∙◌, ap, ◌<◌, ◌≤◌, Bool, true, false, cond, ◌||◌, ◌&&◌, List, [], ◌∷◌, ◌++◌, length, append_assoc, Option, Some, None, arith}
use Rattle.std.specs.Prelude.{◌==◌, nat_le, option_map, option_and_then}
use Rattle.std.proofs.Math.Bool.{or_comm, or-false}
use Rattle.std.proofs.lemmas.Bool.Decides.{nat_tests}
use Rattle.std.proofs.lemmas.List.{append-nil, length-append}
use Rattle.std.proofs.lemmas.List.Sums.{fold-append}
use Rattle.serde_json.specs.Data.{Data, Items, no_items, item}
use Rattle.serde_json.specs.View.{items_view}
use Rattle.serde_json.specs.declared.value.Value.{Value}
use Rattle.serde_json.specs.Find.{as_array}
use Rattle.serde_json.proofs.Views.{items_len-items_view}
use Rattle.voting_config.specs.Ids.{Id, same, has, with_id, set_of}
use Rattle.voting_config.proofs.Sorted.{has-with_id}
use Rattle.cluster_state.specs.declared.request.Ask.TheVariants.{Exclude}
use Rattle.client_lines.specs.Requests.{node_id_of, node_ids_of, are_distinct, as_set, node_set_of, exclude_of}
use Rattle.voting_config.proofs.Sets.{length-with_id-absent}
use Rattle.client_lines.proofs.Distinct.{has-append, are_distinct-again, are_distinct-push}

-- one more id, that is not in yet, where 64 are not in yet
abbrev pub with_new_id : Id → List Id → Option (List Id)
with_new_id id found = cond (has id found) None (cond (length found == 64) None (Some (with_id id found)))

-- the ids found so far, with those that follow
abbrev pub ids_from : Items → List Id → Option (List Id)
ids_from no_items found = Some found
ids_from (item d ds) found = option_and_then (λ id. option_and_then (λ more. ids_from ds more) (with_new_id id found)) (node_id_of d)

-- what was found is the set of the ids at the start
record IsSetOf (found prefix : List Id) : Type 0 where
  members : (q : Id) → has q found ≡ has q prefix
  size : length found ≡ length prefix
  set : found ≡ set_of prefix
  distinct : are_distinct prefix ≡ true
  few : length prefix ≤ 64

as_set-some : (ids : List Id) → are_distinct ids ≡ true → length ids ≤ 64 → as_set ids ≡ Some (set_of ids)
as_set-some ids d few = let e : nat_le (length ids) 64 ≡ true = grind (arith, nat_tests) in rw (d, e) refl

as_set-again : (ids : List Id) → are_distinct ids ≡ false → as_set ids ≡ None
as_set-again ids d = rw d refl

as_set-many : (ids : List Id) → 64 < length ids → as_set ids ≡ None
as_set-many ids many =
    let e : nat_le (length ids) 64 ≡ false = grind (arith, nat_tests) in
    rw e (elim (are_distinct ids) as (λ b. cond (b && false) (Some (set_of ids)) None ≡ None) [ true ↦ refl | false ↦ refl ])

-- whatever ids follow, there is no set
none_follows : (prefix : List Id) (x : Id) (o : Option (List Id)) → ((ids : List Id) → as_set (prefix ++ x ∷ ids) ≡ None)
    → None ≡ option_and_then as_set (option_map (λ ids. prefix ++ ids) (option_map (λ ids. x ∷ ids) o))
none_follows prefix x None h = refl
none_follows prefix x (Some ids) h = sym (h ids)

-- an id goes over to those at the start
goes_over : (prefix : List Id) (x : Id) (o : Option (List Id))
    → option_and_then as_set (option_map (λ ids. (prefix ++ x ∷ []) ++ ids) o) ≡ option_and_then as_set (option_map (λ ids. prefix ++ ids) (option_map (λ ids. x ∷ ids) o))
goes_over prefix x None = refl
goes_over prefix x (Some ids) = ap as_set (append_assoc prefix (x ∷ []) ids)

IsSetOf-with_id : (x : Id) (found prefix : List Id) → IsSetOf found prefix → has x found ≡ false → length found < 64 → IsSetOf (with_id x found) (prefix ++ x ∷ [])
IsSetOf-with_id x found prefix s new room = record {
  members = λ q. has-with_id q x found ∙ or_comm (same x q) (has q found) ∙ ap (λ (b : Bool). b || same x q) (s.members q) ∙ sym (has-append q prefix (x ∷ []) ∙ ap (λ (b : Bool). has q prefix || b) (or-false (same x q)));
  size = let longer = length-with_id-absent x found new in rw (longer, length-append, s.size) (omega arith);
  set = ap (with_id x) s.set ∙ sym (fold-append (λ ids id. with_id id ids) [] prefix (x ∷ []));
  distinct = are_distinct-push x prefix s.distinct (sym (s.members x) ∙ new);
  few = rw length-append (omega (arith, s.size));
}

ids_from-node_ids_of : (ds : Items) (found prefix : List Id) → IsSetOf found prefix → ids_from ds found ≡ option_and_then as_set (option_map (λ ids. prefix ++ ids) (node_ids_of ds))
ids_from-node_ids_of no_items found prefix s = rw append-nil (ap Some s.set ∙ sym (as_set-some prefix s.distinct s.few))
ids_from-node_ids_of (item d ds) found prefix s =
    elim (node_id_of d) as (λ o. option_and_then (λ id. option_and_then (λ more. ids_from ds more) (with_new_id id found)) o ≡ option_and_then as_set (option_map (λ ids. prefix ++ ids) (option_and_then (λ id. option_map (λ ids. id ∷ ids) (node_ids_of ds)) o))) [
      | None ↦ refl
      | Some x ↦ one x (λ t. ids_from-node_ids_of ds (with_id x found) (prefix ++ x ∷ []) t)
    ]
  where
    one : (x : Id) → (IsSetOf (with_id x found) (prefix ++ x ∷ []) → ids_from ds (with_id x found) ≡ option_and_then as_set (option_map (λ ids. (prefix ++ x ∷ []) ++ ids) (node_ids_of ds)))
        → option_and_then (λ more. ids_from ds more) (with_new_id x found) ≡ option_and_then as_set (option_map (λ ids. prefix ++ ids) (option_map (λ ids. x ∷ ids) (node_ids_of ds)))
    one x later =
        elim (has x found) as (λ b. has x found ≡ b → option_and_then (λ more. ids_from ds more) (cond b None (cond (length found == 64) None (Some (with_id x found)))) ≡ option_and_then as_set (option_map (λ ids. prefix ++ ids) (option_map (λ ids. x ∷ ids) (node_ids_of ds)))) [
          | true ↦ λ e. none_follows prefix x (node_ids_of ds) (λ ids. as_set-again (prefix ++ x ∷ ids) (are_distinct-again x prefix ids (sym (s.members x) ∙ e)))
          | false ↦ λ e.
              elim (length found == 64) as (λ b. (length found == 64) ≡ b → option_and_then (λ more. ids_from ds more) (cond b None (Some (with_id x found))) ≡ option_and_then as_set (option_map (λ ids. prefix ++ ids) (option_map (λ ids. x ∷ ids) (node_ids_of ds)))) [
                | true ↦ λ f.
                    let full : length found ≡ 64 = grind (arith, nat_tests) in
                    let many : (ids : List Id) → 64 < length (prefix ++ x ∷ ids) = λ ids. rw length-append (omega (arith, full, s.size)) in
                    none_follows prefix x (node_ids_of ds) (λ ids. as_set-many (prefix ++ x ∷ ids) (many ids))
                | false ↦ λ f.
                    let room : length found < 64 = grind (arith, nat_tests, s.size, s.few) in
                    later (IsSetOf-with_id x found prefix s e room) ∙ goes_over prefix x (node_ids_of ds)
              ] refl
        ] refl

option_map-id : (o : Option (List Id)) → option_map (λ ids. [] ++ ids) o ≡ o
option_map-id None = refl
option_map-id (Some ids) = refl

pub ids_from-start : (ds : Items) → ids_from ds [] ≡ node_set_of ds
ids_from-start ds =
    ids_from-node_ids_of ds [] [] (record { members = λ q. refl; size = refl; set = refl; distinct = refl; few = omega arith })
    ∙ ap (option_and_then as_set) (option_map-id (node_ids_of ds))

-- what an exclude is, where it is an array that is not empty
pub exclude_of-array : (d : Data) (vs : List Value) → as_array d ≡ Some (items_view vs) → (length vs == 0) ≡ false → option_map Exclude (node_set_of (items_view vs)) ≡ exclude_of d
exclude_of-array d vs is some = rw (is, items_len-items_view vs, some) refl
