-- For the contracts inside: which lines of a trace say who won and what was committed, as statements on bytes.
use Rattle.std.specs.Prelude.{◌≡◌, ℕ, Bool, true, Some, List, ◌++◌, codes, map, Contains}
use Rattle.std.specs.List.{filter}
use Rattle.cluster_state.specs.declared.state.ClusterState.{ClusterState}
use Rattle.world_model.specs.Histories.{History}
use Rattle.world_model.specs.Safety.{Win, winners, Published, IsCommitted}
use Rattle.schedule_text.specs.declared.level.Level.TheVariants.{Core, Node}
use Rattle.schedule_text.specs.declared.schedule.Schedule.{Schedule}
use Rattle.trace_summary.specs.Counted.{lines_of, is_won, is_committed}
use Rattle.trace_text.specs.Trace.{won_text, committed_text}
use Rattle.replay_node.specs.Clusters.{replayed_history}
use Rattle.schedule_replay.specs.Legal.{IsWellFormed}
use Rattle.schedule_replay.specs.Levels.{trace_at}
use Rattle.schedule_replay.specs.Replayed.{replayed}
use Rattle.schedule_replay.specs.Showing.{HasCommitted}
use Rattle.replay_audit.specs.Audits.{CanBeAudited, CanBeAuditedWhole}

-- the lines of a kind among those of a text, each with its line feed
abbrev pub lines_that : (List ℕ → Bool) → List ℕ → List (List ℕ)
lines_that kind text = map (λ (line : List ℕ). line ++ codes "\n") (filter kind (lines_of text))

abbrev pub win_line : Win → List ℕ
win_line w = won_text true w.node w.term

abbrev pub state_line : ClusterState → List ℕ
state_line state = committed_text (Some state)

-- The lines whose first word is `won` are those of the wins of the history, in order, and the lines whose first word is `committed` are
-- those of states that are committed in it, and of all of them. So two lines `won` of one term are the same, and so are two lines
-- `committed` of one version.
pub record LinesShow (text : List ℕ) (h : History) : Type 0 where
  pub won : lines_that is_won text ≡ map win_line (winners h)
  pub states : List ClusterState
  pub committed : lines_that is_committed text ≡ map state_line states
  pub are_committed : (state : ClusterState) → Contains states state → HasCommitted h state
  pub all_committed : (p : Published) → IsCommitted h p → Contains states p.state
  pub one_winner : (v w : Win) → Contains (winners h) v → Contains (winners h) w → v.term ≡ w.term → win_line v ≡ win_line w
  pub one_state : (x y : ClusterState) → Contains states x → Contains states y → x.version ≡ y.version → state_line x ≡ state_line y

-- so it is of each trace that an audit takes
abbrev pub LawLines : Type 0
LawLines = (s : Schedule) → IsWellFormed s → CanBeAudited Core s → LinesShow (trace_at Core s) (replayed s)

abbrev pub LawWholeLines : Type 0
LawWholeLines = (s : Schedule) → CanBeAuditedWhole s → LinesShow (trace_at Node s) (replayed_history s)
