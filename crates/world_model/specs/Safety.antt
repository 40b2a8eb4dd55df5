-- Part of the statement: what is promised of every legal history.
use Rattle.std.specs.Prelude.{◌≡◌, ℕ, ◌<◌, ◌≤◌, cond, ◌⊎◌, Some, List, [], ◌∷◌, ◌++◌, Contains}
use Rattle.voting_config.specs.Ids.{Id}
use Rattle.cluster_state.specs.declared.state.ClusterState.{ClusterState}
use Rattle.cluster_state.specs.declared.state.Kept.{Kept}
use Rattle.world_model.specs.Acts.{Act, Outcome, NodeHistory, StartJoin, Publish, Open, NoActs, Then, Taken, Answered, PublishMessage, CommitMessage, wins}
use Rattle.world_model.specs.NodeState.{term_of, accepted_of, durable_of, initial_state}
use Rattle.world_model.specs.Histories.{History, NoEntries, Next, node_history, sent, IsPrefix}

-- node won the election of term
pub record Win : Type 0 where
  pub node : Id
  pub term : ℕ

abbrev pub winners : History → List Win
winners NoEntries = []
winners (Next h node act outcome) =
    cond (wins outcome) (winners h ++ record { node = node; term = term_of (node_history h node) } ∷ []) (winners h)

-- a state that its publisher took from a client, over the state that it had accepted
pub record Published : Type 0 where
  pub publisher : Id
  pub state : ClusterState
  pub parent : ClusterState

abbrev pub published_by : History → Id → Outcome → List Published
published_by h node (Answered (Taken (Some (PublishMessage request)) wins)) =
    record { publisher = node; state = request.state; parent = accepted_of (node_history h node) } ∷ []
published_by h node other = []

abbrev pub published : History → List Published
published NoEntries = []
published (Next h node act outcome) = published h ++ published_by h node outcome

-- its commit was sent
abbrev pub IsCommitted : History → Published → Type 0
IsCommitted h p = Contains (published h) p
    × Contains (sent h) (CommitMessage (record { source = p.publisher; term = p.state.term; version = p.state.version }))

-- state was made from ancestor, by one publication after another
pub data Descends (h : History) (ancestor : ClusterState) : ClusterState → Type 0 where
  Itself : Descends h ancestor ancestor
  Child : (p : Published) → Contains (published h) p → Descends h ancestor p.parent → Descends h ancestor p.state

-- ids of states are in order of their terms, then of their versions: the id term/version is at most other_term/other_version
abbrev pub IsIdAtMost : ℕ → ℕ → ℕ → ℕ → Type 0
IsIdAtMost term version other_term other_version = (term < other_term) ⊎ ((other_term ≡ term) × (version ≤ other_version))

-- the id of r is at most that of s
abbrev pub IsAtMost : ClusterState → ClusterState → Type 0
IsAtMost r s = IsIdAtMost r.term r.version s.term s.version

-- the record's accepted state is this one or a later one
abbrev pub HoldsState : Kept → ClusterState → Type 0
HoldsState kept s = IsAtMost s kept.accepted × (kept.accepted.term ≡ s.term → kept.accepted.version ≡ s.version → kept.accepted ≡ s)

-- the record holds what the node answered for in this act: the term of the join that it sent, the state of its response
abbrev pub Holds : Kept → Act → Outcome → Type 0
Holds kept (StartJoin candidate term) (Answered (Taken sends wins)) = term ≤ kept.term
Holds kept (Publish request) (Answered (Taken sends wins)) = HoldsState kept request.state
Holds kept act outcome = Unit {0}

-- in each of these acts
abbrev pub HoldsAll : Kept → NodeHistory → Type 0
HoldsAll kept NoActs = Unit {0}
HoldsAll kept (Then g act outcome) = HoldsAll kept g × Holds kept act outcome

-- no node forgets what it answered for
pub record HoldsAnswers (h : History) : Type 0 where
  -- at each moment what a node keeps holds all that it answered for so far
  pub kept : (node : Id) (p : History) → IsPrefix p h → HoldsAll (durable_of (node_history p node)) (node_history p node)
  -- and so does the record of each opening
  pub opened : (node : Id) (p : History) (found : Kept) (outcome : Outcome) → IsPrefix (Next p node (Open found) outcome) h
      → HoldsAll found (node_history p node)

-- What is promised of a history whose nodes all began with the state `root`: one winner a term; committed states of one version are equal,
-- and each descends from each of a lower version and from `root`; no node forgets what it answered for.
pub record IsSafeFrom (root : ClusterState) (h : History) : Type 0 where
  pub one_winner : (v w : Win) → Contains (winners h) v → Contains (winners h) w → v.term ≡ w.term → v.node ≡ w.node
  pub one_state : (p q : Published) → IsCommitted h p → IsCommitted h q → p.state.version ≡ q.state.version → p.state ≡ q.state
  pub one_line : (p q : Published) → IsCommitted h p → IsCommitted h q → p.state.version < q.state.version → Descends h p.state q.state
  pub from_root : (p : Published) → IsCommitted h p → Descends h root p.state
  pub held : HoldsAnswers h

-- the same where all nodes bootstrap with the configuration `initial`
abbrev pub IsSafe : List Id → History → Type 0
IsSafe initial h = IsSafeFrom (initial_state initial) h
