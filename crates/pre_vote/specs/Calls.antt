-- Part of the statement: a round of pre-votes by its calls so far: its start, and the answers since.
use Rattle.std.specs.Prelude.{ℕ, max, Bool, not, ◌||◌, List, [], ◌∷◌, if◌then◌else◌}
use Rattle.voting_config.specs.Ids.{Id, has_room as room_in, same, with_id, without_id}
use Rattle.cluster_state.specs.declared.state.StateId.{StateId}
use Rattle.cluster_state.specs.StateIds.{is_fresher}

-- the calls, the newest last
pub data Calls : Type 0 where
  Start : (me : Id) → (last : StateId) → (term : ℕ) → Calls
  Add : (before : Calls) → (source : Id) → (term : ℕ) → (last : StateId) → Calls

-- the node itself
abbrev pub node_of : Calls → Id
node_of (Start me last term) = me
node_of (Add before source term last) = node_of before

-- the id of the state that the node had accepted at the start
abbrev pub last_of : Calls → StateId
last_of (Start me last term) = last
last_of (Add before source term answered) = last_of before

-- the greatest term among the node's and all answers
abbrev pub greatest_term : Calls → ℕ
greatest_term (Start me last term) = term
greatest_term (Add before source term last) = max term (greatest_term before)

-- after an answer its source is a voter: it is the node itself, or what it has accepted is no fresher
abbrev pub is_vote : Id → StateId → Id → StateId → Bool
is_vote me own source last = same source me || not (is_fresher last own)

-- the node, and the sources whose newest answer is a vote
abbrev pub voters_of : Calls → List Id
voters_of (Start me last term) = me ∷ []
voters_of (Add before source term last) =
    if is_vote (node_of before) (last_of before) source last
    then with_id source (voters_of before)
    else without_id source (voters_of before)

-- the sources whose newest answer is no vote
abbrev pub others_of : Calls → List Id
others_of (Start me last term) = []
others_of (Add before source term last) =
    if is_vote (node_of before) (last_of before) source last
    then without_id source (others_of before)
    else with_id source (others_of before)

-- the node and all that have answered
abbrev pub participants_of : Calls → List Id
participants_of (Start me last term) = me ∷ []
participants_of (Add before source term last) = with_id source (participants_of before)

-- an answer of the source can be added: it is the node or has answered, or these are fewer than a set holds
abbrev pub has_room : Id → Calls → Bool
has_room source calls = room_in (participants_of calls) source
