-- Part of the statement: which nodes are to be the voters.
use Rattle.std.specs.Prelude.{ℕ, ◌-◌, ◌%◌, max, Bool, ◌||◌, List, [], ◌∷◌, ◌++◌, length, take, nat_lt, nat_eq, if◌then◌else◌}
use Rattle.voting_config.specs.Ids.{Id, among, has, is_quorum_of, outside, set_of}

-- an even number is made odd by one less; none stays none
abbrev pub odd_of : ℕ → ℕ
odd_of k = if nat_eq (k % 2) 0 then k - 1 else k

-- how many voters there are at least: where the configuration may shrink, 3, or 1 where it has fewer than 3 members; else as many as it has
-- that are not excluded
abbrev pub least_size : ℕ → ℕ → Bool → ℕ
least_size members voters shrink =
    if shrink
    then (if nat_lt members 3 then 1 else 3)
    else voters

-- how many candidates are taken: as many as are live, made odd, or the least size where that is more
abbrev pub size_of : ℕ → ℕ → ℕ → Bool → ℕ
size_of live members voters shrink = max (odd_of live) (least_size members voters shrink)

-- in order of preference, by the live nodes and the voters of today: the master, live voters, other live nodes, voters that are not live;
-- each by id
abbrev pub candidates_of : List Id → List Id → Id → List Id
candidates_of live voters master =
    let others = outside live (master ∷ []) in
    let other_voters = outside voters (master ∷ []) in
    (if has master live || has master voters then master ∷ [] else [])
    ++ among others other_voters
    ++ outside others other_voters
    ++ outside other_voters others

-- the first candidates, none of them excluded, as a set
abbrev pub chosen_of : List Id → List Id → Id → List Id → Bool → List Id
chosen_of live excluded master config shrink =
    let allowed = outside live excluded in
    let voters = outside config excluded in
    let size = size_of (length allowed) (length config) (length voters) shrink in
    set_of (take size (candidates_of allowed voters master))

-- the voters that are wanted: the configuration stays where the live nodes would be no quorum of those chosen
abbrev pub target_of : List Id → List Id → Id → List Id → Bool → List Id
target_of live excluded master config shrink =
    let chosen = chosen_of live excluded master config shrink in
    if is_quorum_of chosen live then chosen else config
