-- The plan as acts, step by step.
use Rattle.std.proofs.Common.{◌≡◌, ℕ, ◌+◌, ◌*◌, ◌<◌, max, Bool, true, false, cond, Some, List, [], ◌∷◌, ◌++◌, length, map, IsTrue}
use Rattle.std.specs.List.{Contains}
use Rattle.cluster_state.specs.StateIds.{is_fresher}
use Rattle.rescue_plan.specs.Lines.{answered}
use Rattle.rescue_plan.specs.Rescue.{IsBehind}
use Rattle.voting_config.specs.Ids.{Id, has, ascends, is_quorum_of}
use Rattle.cluster_state.specs.declared.state.ClusterState.{ClusterState}
use Rattle.cluster_state.specs.declared.state.ClusterValue.{ClusterValue}
use Rattle.cluster_state.specs.declared.messages.Join.{Join}
use Rattle.cluster_state.specs.declared.messages.PublishRequest.{PublishRequest}
use Rattle.cluster_state.specs.declared.messages.PublishResponse.{PublishResponse}
use Rattle.world_model.specs.declared.acts.Act.{Act}
use Rattle.world_model.specs.declared.acts.Message.{Message}
use Rattle.world_model.specs.declared.acts.Act.TheVariants.{StartJoin, TakeJoin, Value, Publish, Response}
use Rattle.world_model.specs.declared.acts.Message.TheVariants.{Join as JoinMessage, Response as ResponseMessage}
use Rattle.world_model.specs.NodeState.{node_state, term_of, accepted_of, committed_of, halted_of}
use Rattle.cluster_state.specs.Field.{last_number}
use Rattle.world_model.specs.Replies.{id_of, reply_of, is_taken, join_from}
use Rattle.world_model.specs.Histories.{History, node_history, is_down}
use Rattle.world_model.specs.Safety.{winners, Published, published, IsCommitted}

-- an act that a node is to do
pub record Step : Type 0 where
  pub node : Id
  pub act : Act

-- h, and then these acts
abbrev pub carried : History → List Step → History
carried h [] = h
carried h (s ∷ steps) = carried (answered h s.node s.act) steps

-- each of these acts is taken
abbrev pub AllTaken : History → List Step → Type 0
AllTaken h [] = Unit {0}
AllTaken h (s ∷ steps) = (is_taken (reply_of s.node (node_history h s.node) s.act) ≡ true) × AllTaken (answered h s.node s.act) steps

-- each of the nodes does an act of its own
abbrev pub sweep : (Id → Act) → List Id → List Step
sweep act [] = []
sweep act (u ∷ us) = record { node = u; act = act u } ∷ sweep act us

-- one node does an act for each of the nodes
abbrev pub gather : Id → (Id → Act) → List Id → List Step
gather m act [] = []
gather m act (u ∷ us) = record { node = m; act = act u } ∷ gather m act us

-- the greatest term of the nodes
abbrev pub greatest_term : History → List Id → ℕ
greatest_term h [] = 0
greatest_term h (u ∷ us) = max (term_of (node_history h u)) (greatest_term h us)

abbrev pub rescue_term : History → List Id → ℕ
rescue_term h us = greatest_term h us + 1

-- the join that u sends to m
abbrev pub join_of : History → Id → ℕ → Id → Join
join_of h m term u = join_from u (node_state (node_history h u)) m term

-- the new state: m's accepted configuration again, with this value
abbrev pub new_state : History → Id → ℕ → ClusterValue → ClusterState
new_state h m term value = record {
  term = term;
  version = (accepted_of (node_history h m)).version + 1;
  parent = Some (id_of (accepted_of (node_history h m)));
  config = (accepted_of (node_history h m)).config;
  committed = committed_of (node_history h m);
  value = value;
}

abbrev pub new_request : History → Id → ℕ → ClusterValue → PublishRequest
new_request h m term value = record { source = m; state = new_state h m term value }

abbrev pub response_of : History → Id → ℕ → Id → PublishResponse
response_of h m term u = record { source = u; target = m; term = term; version = (accepted_of (node_history h m)).version + 1 }

abbrev pub value_step : History → Id → ClusterValue → Step
value_step h m value = record { node = m; act = Value ((accepted_of (node_history h m)).version + 1) (accepted_of (node_history h m)).config value }

-- each of the nodes starts a join for m
abbrev pub plan_starts : History → List Id → Id → List Step
plan_starts h us m = sweep (λ u. StartJoin m (rescue_term h us)) us

-- m takes the joins
abbrev pub plan_joins : History → List Id → Id → List Step
plan_joins h us m = gather m (λ u. TakeJoin (join_of h m (rescue_term h us) u)) us

-- each of the nodes takes the publication
abbrev pub plan_publishes : History → List Id → Id → ClusterValue → List Step
plan_publishes h us m value = sweep (λ u. Publish (new_request h m (rescue_term h us) value)) us

-- m takes the responses
abbrev pub plan_responses : History → List Id → Id → List Step
plan_responses h us m = gather m (λ u. Response (response_of h m (rescue_term h us) u)) us

-- the joins are sent and taken, m publishes, and the responses are sent and taken
abbrev pub plan : History → List Id → Id → ClusterValue → List Step
plan h us m value =
    plan_starts h us m ++ (plan_joins h us m ++ (value_step h m value ∷ (plan_publishes h us m value ++ plan_responses h us m)))

-- What is sent, in order.

abbrev pub joins_sent : History → List Id → Id → List Message
joins_sent h us m = map (λ u. JoinMessage (join_of h m (rescue_term h us) u)) us

abbrev pub responses_sent : History → List Id → Id → List Message
responses_sent h us m = map (λ u. ResponseMessage (response_of h m (rescue_term h us) u)) us

-- whether u's accepted state is newer than that of m
abbrev pub is_newer : History → Id → Id → Bool
is_newer h u m = is_fresher (id_of (accepted_of (node_history h u))) (id_of (accepted_of (node_history h m)))

-- of the first and the others, the first one that has accepted the newest state
abbrev pub chosen : History → Id → List Id → Id
chosen h first [] = first
chosen h first (u ∷ us) = chosen h (cond (is_newer h u first) u first) us

-- these nodes can be brought to elect m, which is any of those that have accepted the newest state
pub record CanRescue (h : History) (us : List Id) (m : Id) : Type 0 where
  pub ascending : IsTrue (ascends us)
  pub up : (u : Id) → IsTrue (has u us) → is_down (node_history h u) ≡ false
  pub runs : (u : Id) → IsTrue (has u us) → halted_of (node_history h u) ≡ false
  pub member : IsTrue (has m us)
  pub newest : (u : Id) → IsTrue (has u us) → IsBehind h m u
  pub committed_quorum : IsTrue (is_quorum_of (committed_of (node_history h m)) us)
  pub accepted_quorum : IsTrue (is_quorum_of (accepted_of (node_history h m)).config us)
  pub term_below : greatest_term h us < last_number
  pub version_below : (accepted_of (node_history h m)).version < last_number

-- what the plan brings about
pub record Rescues (Right : History → Type 0) (h : History) (us : List Id) (m : Id) (value : ClusterValue) : Type 0 where
  pub legal : Right (carried h (plan h us m value))
  pub taken : AllTaken h (plan h us m value)
  pub count : length (plan h us m value) ≡ 4 * length us + 1
  pub winner : Contains (winners (carried h (plan h us m value))) (record { node = m; term = rescue_term h us })
  pub committed : IsCommitted (carried h (plan h us m value)) (record { publisher = m; state = new_state h m (rescue_term h us) value; parent = accepted_of (node_history h m) })
  -- no state of this term was published before, so none was committed
  pub is_new : (q : Published) → Contains (published h) q → q.state.term ≡ rescue_term h us → ⊥
