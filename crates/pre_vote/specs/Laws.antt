-- For the contracts inside: who is counted in a round, by the answers of the round.
use Rattle.std.specs.Prelude.{◌≡◌, Bool, false, not, ◌||◌, Option, None, Some, List, [], ◌∷◌, find}
use Rattle.voting_config.specs.Ids.{Id, has, same}
use Rattle.cluster_state.specs.declared.state.StateId.{StateId}
use Rattle.cluster_state.specs.StateIds.{is_fresher}
use Rattle.pre_vote.specs.Calls.{Calls, Start, Add, node_of, last_of, voters_of}

-- an answer: who gave it, and the id of the state that it has accepted
pub record Answer : Type 0 where
  pub source : Id
  pub last : StateId

-- the answers, the newest first
abbrev pub answers_of : Calls → List Answer
answers_of (Start me last term) = []
answers_of (Add before source term last) = record { source = source; last = last } ∷ answers_of before

-- the newest answer of a source
abbrev pub newest_of : Calls → Id → Option Answer
newest_of calls source = find (λ (a : Answer). same a.source source) (answers_of calls)

-- an answer counts where its id is not above the one that the node had accepted at the start
abbrev pub counts : StateId → Option Answer → Bool
counts own None = false
counts own (Some a) = not (is_fresher a.last own)

-- a source is a voter exactly where it is the node itself, or the newest of its answers counts
abbrev pub LawCounted : Type 0
LawCounted =
    (calls : Calls) (source : Id)
    → has source (voters_of calls) ≡ (same source (node_of calls) || counts (last_of calls) (newest_of calls source))
