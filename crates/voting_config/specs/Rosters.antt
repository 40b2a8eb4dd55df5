-- For the contracts inside: ids in the order of their first sight, and sets of them as words of bits.
use Rattle.std.specs.Prelude.{◌≡◌, ℕ, ◌+◌, ◌*◌, ◌/◌, ◌%◌, ◌^◌, ◌<◌, ◌≤◌, Bool, true, not, ◌&&◌, Option, List, [], ◌∷◌, ◌++◌, length, position, IsTrue, nat_eq, nat_lt, bit_and, count_ones, if◌then◌else◌}
use Rattle.std.specs.List.{list_all}
use Rattle.voting_config.specs.Ids.{Id, has, same, is_id, most_ids, set_of, are_among, is_quorum_of, IsIdSet}

-- no id stands twice
abbrev pub are_distinct : List Id → Bool
are_distinct [] = true
are_distinct (x ∷ xs) = not (has x xs) && are_distinct xs

-- what a roster is: each is an id, and they are distinct
pub record IsRoster (ids : List Id) : Type 0 where
  pub distinct : IsTrue (are_distinct ids)
  pub each : IsTrue (list_all is_id ids)
  pub fits : length ids ≤ most_ids

-- the place of an id, counted from 0
abbrev pub place_on : List Id → Id → Option ℕ
place_on roster id = position (λ x. same x id) roster

-- the roster with an id, which comes behind the others where it is new
abbrev pub admitted : List Id → Id → List Id
admitted roster id = if has id roster then roster else roster ++ id ∷ []

-- a set as a word over a roster: a bit for each id of the roster, that of the first one the lowest
abbrev pub mask_of : List Id → List Id → ℕ
mask_of [] set = 0
mask_of (id ∷ roster) set = (if has id set then 1 else 0) + 2 * mask_of roster set

-- the ids of a roster at the bits of a word
abbrev pub ids_at : List Id → ℕ → List Id
ids_at [] word = []
ids_at (id ∷ roster) word = if nat_eq (word % 2) 1 then id ∷ ids_at roster (word / 2) else ids_at roster (word / 2)

-- the set that a word is over a roster
abbrev pub marked : List Id → ℕ → List Id
marked roster word = set_of (ids_at roster word)

-- what a tally is: a roster, and a word with no bit behind its ids
pub record IsTally (roster : List Id) (word : ℕ) : Type 0 where
  pub is_roster : IsRoster roster
  pub within : word < 2 ^ length roster

-- the votes are more than half of a configuration of this size, each as a word over one roster
abbrev pub is_quorum_mask : ℕ → ℕ → ℕ → Bool
is_quorum_mask votes config size = nat_lt size (2 * count_ones (bit_and votes config))

-- votes that are on the roster are a quorum of a configuration exactly where their words say so; the configuration may have ids that are
-- not on the roster
abbrev pub LawQuorumMask : Type 0
LawQuorumMask =
    (roster config votes : List Id) → IsRoster roster → IsIdSet config → IsIdSet votes → IsTrue (are_among roster votes)
    → is_quorum_mask (mask_of roster votes) (mask_of roster config) (length config) ≡ is_quorum_of config votes
