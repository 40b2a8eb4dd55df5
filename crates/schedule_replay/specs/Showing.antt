-- Part of the statement: when the parts of a trace show the wins and the committed states of a history.
use Rattle.std.specs.Prelude.{◌≡◌, List, Contains}
use Rattle.std.specs.List.{AllByRecursion}
use Rattle.cluster_state.specs.declared.state.ClusterState.{ClusterState}
use Rattle.world_model.specs.Histories.{History}
use Rattle.world_model.specs.Safety.{Win, winners, Published, IsCommitted}
use Rattle.schedule_replay.specs.Parts.{TracePart}
use Rattle.schedule_replay.specs.HistoryShown.{wins_of, states_of, ShowsCommit}

-- the state is committed in the history
pub record HasCommitted (h : History) (state : ClusterState) : Type 0 where
  pub as_published : Published
  pub is_committed : IsCommitted h as_published
  pub is_state : as_published.state ≡ state

-- The `won` lines are the wins of the history, in order. An act shows a committed state exactly where it sends a commit, and then the one
-- that it commits. These states are just those that are committed in the history.
pub record Shows (h : History) (parts : List TracePart) : Type 0 where
  pub wins : wins_of parts ≡ winners h
  pub commits : AllByRecursion ShowsCommit parts
  pub committed : (state : ClusterState) → Contains (states_of parts) state → HasCommitted h state
  pub all_committed : (p : Published) → IsCommitted h p → Contains (states_of parts) p.state

-- no two `won` lines of a term name two nodes, and no two `committed` lines of a version differ
pub record Agrees (parts : List TracePart) : Type 0 where
  pub one_winner : (v w : Win) → Contains (wins_of parts) v → Contains (wins_of parts) w → v.term ≡ w.term → v.node ≡ w.node
  pub one_state : (x y : ClusterState) → Contains (states_of parts) x → Contains (states_of parts) y → x.version ≡ y.version → x ≡ y
