-- A round of three, and who is counted.
use Rattle.std.proofs.Common.{◌≡◌, ℕ, true, false, [], ◌∷◌, refl}
use Rattle.voting_config.specs.Ids.{Id}
use Rattle.cluster_state.specs.declared.state.StateId.{StateId}
use Rattle.pre_vote.specs.Calls.{Calls, Start, Add, last_of, voters_of}
use Rattle.pre_vote.specs.Laws.{newest_of, counts}

abbrev a : Id
a = 97 ∷ []

abbrev b : Id
b = 98 ∷ []

abbrev c : Id
c = 99 ∷ []

abbrev id : ℕ → StateId
id version = record { term = 1; version = version }

-- b has accepted the same, c more; then b tells that it has accepted more now
abbrev round : Calls
round = Add (Add (Start a (id 3) 4) b 4 (id 3)) c 9 (id 4)

round-voters : voters_of round ≡ a ∷ b ∷ []
round-voters = refl

round-counts : counts (last_of round) (newest_of round b) ≡ true
round-counts = refl

abbrev later : Calls
later = Add round b 5 (id 4)

later-voters : voters_of later ≡ a ∷ []
later-voters = refl

later-counts : counts (last_of later) (newest_of later b) ≡ false
later-counts = refl
