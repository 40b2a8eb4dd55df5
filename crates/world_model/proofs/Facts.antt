-- What the argument for agreement uses of a history. Nothing after this file looks into a history again:
-- the history half proves `Facts` of each legal history, and the kernel goes on from `Facts` alone.
use Rattle.std.specs.Prelude.{◌≡◌, ℕ, ◌<◌, ◌≤◌, ◌⊎◌, cond, List, [], ◌∷◌, ◌++◌, IsTrue, Contains}
use Rattle.voting_config.specs.Ids.{Id, has, is_quorum_of}
use Rattle.cluster_state.specs.declared.state.ClusterState.{ClusterState}
use Rattle.cluster_state.specs.declared.messages.Join.{Join}
use Rattle.world_model.specs.Acts.{Act, Outcome, Publish, JoinMessage, CommitMessage, is_ok, wins}
use Rattle.world_model.specs.NodeState.{term_of, accepted_of}
use Rattle.world_model.specs.Histories.{History, NoEntries, Next, node_history, sent}
use Rattle.world_model.specs.Safety.{IsIdAtMost, Published, published}

-- What happened, as lists that only grow. Each is `list h ++ what this act adds`.

-- node won the election of term, and had accepted base when it did
pub record Election : Type 0 where
  pub node : Id
  pub term : ℕ
  pub base : ClusterState

abbrev pub elected_by : History → Id → Outcome → List Election
elected_by h node outcome = cond (wins outcome) (record { node = node; term = term_of (node_history h node); base = accepted_of (node_history h node) } ∷ []) []

abbrev pub elections : History → List Election
elections NoEntries = []
elections (Next h node act outcome) = elections h ++ elected_by h node outcome

-- node took the publication of state from publisher, and answered it
pub record Acceptance : Type 0 where
  pub node : Id
  pub publisher : Id
  pub state : ClusterState

abbrev pub taken_by : Id → Act → Outcome → List Acceptance
taken_by node (Publish request) outcome = cond (is_ok outcome) (record { node = node; publisher = request.source; state = request.state } ∷ []) []
taken_by node act outcome = []

abbrev pub took : History → List Acceptance
took NoEntries = []
took (Next h node act outcome) = took h ++ taken_by node act outcome

-- Words for the facts.

-- voter has joined candidate in this term
pub record HasJoined (h : History) (voter candidate : Id) (term : ℕ) : Type 0 where
  pub join : Join
  pub is_sent : Contains (sent h) (JoinMessage join)
  pub has_source : join.source ≡ voter
  pub has_target : join.target ≡ candidate
  pub has_term : join.term ≡ term

-- voter has joined candidate in this term, and told of a state that is at most base
pub record HasVoted (h : History) (voter candidate : Id) (term : ℕ) (base : ClusterState) : Type 0 where
  pub joined : HasJoined h voter candidate term
  pub not_above : IsIdAtMost joined.join.last_term joined.join.last_version base.term base.version

-- node has sent the commit of this id
abbrev pub HasSentCommit : History → Id → ℕ → ℕ → Type 0
HasSentCommit h node term version = Contains (sent h) (CommitMessage (record { source = node; term = term; version = version }))

-- some node has published the state
pub record IsPublished (h : History) (state : ClusterState) : Type 0 where
  pub as_published : Published
  pub is_in : Contains (published h) as_published
  pub is_state : as_published.state ≡ state

-- another node than this one has published the state
pub record IsPublishedByOther (h : History) (node : Id) (state : ClusterState) : Type 0 where
  pub as_published : Published
  pub is_in : Contains (published h) as_published
  pub is_state : as_published.state ≡ state
  pub is_other : as_published.publisher ≡ node → ⊥

-- the state is root, from which all began, or it was published
abbrev pub IsOriginal : History → ClusterState → ClusterState → Type 0
IsOriginal h root state = (state ≡ root) ⊎ IsPublished h state

-- config is what a node that has accepted the state may hold for committed: what the state carries,
-- or the state's own configuration, where its commit was sent or where it is root
abbrev pub IsHeldFor : History → ClusterState → ClusterState → List Id → Type 0
IsHeldFor h root state config =
    (config ≡ state.committed)
    ⊎ ((config ≡ state.config) × ((state ≡ root) ⊎ ((node : Id) × HasSentCommit h node state.term state.version)))

-- each state of this term was published by node
abbrev pub IsAlone : History → Id → ℕ → Type 0
IsAlone h node term = (p : Published) → Contains (published h) p → p.state.term ≡ term → p.publisher ≡ node

-- What holds of a node that won.
pub record WinFacts (h : History) (root : ClusterState) (e : Election) : Type 0 where
  -- the committed configuration that it held, and its votes
  pub committed : List Id
  pub votes : List Id
  pub accepted_quorum : IsTrue (is_quorum_of e.base.config votes)
  pub committed_quorum : IsTrue (is_quorum_of committed votes)
  pub voted : (voter : Id) → IsTrue (has voter votes) → HasVoted h voter e.node e.term e.base
  pub original : IsOriginal h root e.base
  pub older : (e.base.term < e.term) ⊎ ((e.base.term ≡ e.term) × IsPublishedByOther h e.node e.base)
  pub held : IsHeldFor h root e.base committed

-- What holds of a state that was published.
pub record ValueFacts (h : History) (root : ClusterState) (p : Published) : Type 0 where
  -- the election that its publisher had won, and the votes that it had by now
  pub election : Election
  pub votes : List Id
  pub is_election : Contains (elections h) election
  pub same_node : election.node ≡ p.publisher
  pub same_term : election.term ≡ p.state.term
  pub follows : (p.parent ≡ election.base) ⊎ (p.parent.term ≡ p.state.term)
  pub quorum : IsTrue (is_quorum_of p.state.config votes)
  pub joined : (voter : Id) → IsTrue (has voter votes) → HasJoined h voter p.publisher p.state.term
  pub version_grows : p.parent.version < p.state.version
  pub term_grows : p.parent.term ≤ p.state.term
  pub original : IsOriginal h root p.parent
  pub held : IsHeldFor h root p.parent p.state.committed
  -- one change of the configuration at a time
  pub one_change : (p.state.config ≡ p.parent.config) ⊎ (p.state.committed ≡ p.parent.config)
  pub above_root : root.term < p.state.term

-- What holds of a commit whose sender published alone in its term.
pub record CommitFacts (h : History) (node : Id) (term version : ℕ) : Type 0 where
  pub as_published : Published
  pub is_in : Contains (published h) as_published
  pub has_publisher : as_published.publisher ≡ node
  pub has_term : as_published.state.term ≡ term
  pub has_version : as_published.state.version ≡ version
  -- the nodes that have accepted it
  pub acks : List Id
  pub config_quorum : IsTrue (is_quorum_of as_published.state.config acks)
  pub committed_quorum : IsTrue (is_quorum_of as_published.state.committed acks)
  pub took_it : (acker : Id) → IsTrue (has acker acks) → Contains (took h) (record { node = acker; publisher = node; state = as_published.state })

-- a commit is of a state that its sender published
pub record IsCommitOf (h : History) (node : Id) (term version : ℕ) : Type 0 where
  pub as_published : Published
  pub is_in : Contains (published h) as_published
  pub has_publisher : as_published.publisher ≡ node
  pub has_term : as_published.state.term ≡ term
  pub has_version : as_published.state.version ≡ version

-- All that the kernel uses. root is the state from which all began.
pub record Facts (h : History) (root : ClusterState) : Type 0 where
  -- a node joins one candidate in a term
  pub join_once : (j k : Join) → Contains (sent h) (JoinMessage j) → Contains (sent h) (JoinMessage k) → j.source ≡ k.source → j.term ≡ k.term → j.target ≡ k.target
  -- a join reports each state of an earlier term that its node ever accepts, or a later one
  pub join_carries : (a : Acceptance) (j : Join) → Contains (took h) a → Contains (sent h) (JoinMessage j) → a.node ≡ j.source → a.state.term < j.term → IsIdAtMost a.state.term a.state.version j.last_term j.last_version
  pub win_facts : (e : Election) → Contains (elections h) e → WinFacts h root e
  -- a node wins a term once
  pub win_once : (e f : Election) → Contains (elections h) e → Contains (elections h) f → e.node ≡ f.node → e.term ≡ f.term → e ≡ f
  pub value_facts : (p : Published) → Contains (published h) p → ValueFacts h root p
  -- a node publishes an id once
  pub value_once : (p q : Published) → Contains (published h) p → Contains (published h) q → p.publisher ≡ q.publisher → p.state.term ≡ q.state.term → p.state.version ≡ q.state.version → p ≡ q
  -- a node's next state of a term is over its last one or a later one of that term
  pub value_gap : (p q : Published) → Contains (published h) p → Contains (published h) q → p.publisher ≡ q.publisher → p.state.term ≡ q.state.term → q.state.version < p.state.version → (p.parent.term ≡ p.state.term) × (q.state.version ≤ p.parent.version)
  pub commit_is_value : (node : Id) (term version : ℕ) → HasSentCommit h node term version → IsCommitOf h node term version
  pub commit_facts : (node : Id) (term version : ℕ) → HasSentCommit h node term version → IsAlone h node term → CommitFacts h node term version
