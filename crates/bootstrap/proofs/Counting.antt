-- Quorums of a set with an id more.
use Rattle.std.proofs.Common.{◌≡◌, ◌*◌, ◌||◌, List, length, ap, count_by, nat_lt}
use Rattle.voting_config.specs.Ids.{Id, has, same, with_id, is_quorum_of}
use Rattle.voting_config.proofs.Sorted.{has-with_id}

count_by-with_id : (x : Id) (ys xs : List Id) → count_by (λ id. has id (with_id x ys)) xs ≡ count_by (λ id. same x id || has id ys) xs
count_by-with_id x ys xs = simp has-with_id

pub is_quorum_of-with_id : (config : List Id) (x : Id) (ys : List Id) → is_quorum_of config (with_id x ys) ≡ nat_lt (length config) (2 * count_by (λ id. same x id || has id ys) config)
is_quorum_of-with_id config x ys = ap (λ n. nat_lt (length config) (2 * n)) (count_by-with_id x ys config)
