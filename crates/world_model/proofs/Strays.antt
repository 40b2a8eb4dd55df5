-- Where acts don't follow each other, five look-backs are not the literal definitions: IsLocal is needed.
use Rattle.std.proofs.Common.{◌≡◌, ℕ, true, false, None, List, [], ◌∷◌, refl}
use Rattle.voting_config.specs.Ids.{Id}
use Rattle.cluster_state.specs.declared.state.ClusterValue.{ClusterValue}
use Rattle.cluster_state.specs.declared.state.Kept.{Kept}
use Rattle.cluster_state.specs.declared.messages.Join.{Join}
use Rattle.cluster_state.specs.declared.messages.PublishResponse.{PublishResponse}
use Rattle.world_model.specs.Acts.{Act, NodeHistory, StartJoin, TakeJoin, Value, Response, NoActs, Then, Taken, Answered}
use Rattle.world_model.specs.NodeState.{opened, join_votes_of, election_won_of, published_version_of, published_config_of, publish_votes_of}
use Rattle.world_model.specs.Literal.{literal_join_votes, literal_election_won, literal_published, literal_publish_votes}

-- the act was taken, and won or not
abbrev taken : NodeHistory → Act → NodeHistory
taken g act = Then g act (Answered (Taken None false))

abbrev winning : NodeHistory → Join → NodeHistory
winning g join = Then g (TakeJoin join) (Answered (Taken None true))

-- a join with no round
join_alone : (j : Join) → (join_votes_of (taken NoActs (TakeJoin j)) ≡ j.source ∷ []) × (literal_join_votes (taken NoActs (TakeJoin j)) ≡ [])
join_alone j = (refl, refl)

win_alone : (j : Join) → (election_won_of (winning NoActs j) ≡ true) × (literal_election_won (winning NoActs j) ≡ false)
win_alone j = (refl, refl)

win_version_alone : (found : Kept) (j : Join) → (published_version_of (winning (opened found) j) ≡ found.accepted.version) × ((literal_published (winning (opened found) j)).version ≡ 0)
win_version_alone found j = (refl, refl)

-- a value with no round
value_alone : (v : ℕ) (c : List Id) (x : ClusterValue) → (published_version_of (taken NoActs (Value v c x)) ≡ v) × (published_config_of (taken NoActs (Value v c x)) ≡ c) × ((literal_published (taken NoActs (Value v c x))).version ≡ 0) × ((literal_published (taken NoActs (Value v c x))).config ≡ [])
value_alone v c x = (refl, refl, refl, refl)

-- a response with no round
response_alone : (r : PublishResponse) → (publish_votes_of (taken NoActs (Response r)) ≡ r.source ∷ []) × (literal_publish_votes (taken NoActs (Response r)) ≡ [])
response_alone r = (refl, refl)

-- a second win, after a value
second_win : (n : Id) (j : Join) (v : ℕ) (c : List Id) (x : ClusterValue) → (published_version_of (winning (taken (winning (taken NoActs (StartJoin n 1)) j) (Value v c x)) j) ≡ 0) × ((literal_published (winning (taken (winning (taken NoActs (StartJoin n 1)) j) (Value v c x)) j)).version ≡ v)
second_win n j v c x = (refl, refl)
