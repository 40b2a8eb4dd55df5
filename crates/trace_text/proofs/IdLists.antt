-- The ids of a list of a schedule are a set.
use Rattle.std.proofs.Common.{◌≡◌, ◌<◌, true, ◌&&◌, List, [], ◌∷◌, ◌++◌, length, refl, sym, subst, arith, append-nil, append_assoc}
use Rattle.std.specs.Prelude.{nat_lt}
use Rattle.std.proofs.lemmas.Bool.{and_parts}
use Rattle.std.proofs.lemmas.Bool.Decides.{nat_tests}
use Rattle.voting_config.specs.Ids.{Id, is_id, comes_after, most_ids, IsIdSet}
use Rattle.voting_config.proofs.Sorted.{IsIdSet-push}
use Rattle.voting_config.specs.Lists.{may_follow, are_ids_after}

pub none_set : IsIdSet []
none_set = record { ascending = refl; each = refl; fits = omega arith }

sets_after : (prefix xs : List Id) → IsIdSet prefix → are_ids_after prefix xs ≡ true → IsIdSet (prefix ++ xs)
sets_after prefix [] set e = subst IsIdSet (sym (append-nil prefix)) set
sets_after prefix (x ∷ xs) set e =
    let parts = and_parts (may_follow prefix x) (are_ids_after (prefix ++ x ∷ []) xs) e in
    let follows = and_parts (is_id x && nat_lt (length prefix) most_ids) (comes_after x prefix) parts.0 in
    let is = and_parts (is_id x) (nat_lt (length prefix) most_ids) follows.0 in
    let test : nat_lt (length prefix) most_ids ≡ true = is.1 in
    let room : length prefix < most_ids = grind (arith, nat_tests) in
    subst IsIdSet (append_assoc prefix (x ∷ []) xs) (sets_after (prefix ++ x ∷ []) xs (IsIdSet-push x prefix set is.0 follows.1 room) parts.1)

pub ids_set : (xs : List Id) → are_ids_after [] xs ≡ true → IsIdSet xs
ids_set xs e = sets_after [] xs none_set e
