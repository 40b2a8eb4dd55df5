-- For the contracts inside: what the words of votes are.
use Rattle.std.specs.Prelude.{◌≡◌, ℕ, ◌<◌, ◌^◌, List, length}
use Rattle.voting_config.specs.Ids.{Id}
use Rattle.voting_config.specs.Rosters.{IsRoster, mask_of}

-- votes have no bit behind the roster, and the words of two configurations are over the same roster
pub record AreCounted (roster : List Id) (votes : ℕ) (committed : List Id) (committed_word : ℕ) (current : List Id) (current_word : ℕ)
    : Type 0 where
  pub is_roster : IsRoster roster
  pub within : votes < 2 ^ length roster
  pub committed_is : committed_word ≡ mask_of roster committed
  pub current_is : current_word ≡ mask_of roster current
