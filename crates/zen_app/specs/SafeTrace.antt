-- Part of the statement: what is said of the trace of a schedule, at each level.
use Rattle.std.specs.Prelude.{◌≡◌, true, false, List, ◌++◌, Contains}
use Rattle.voting_config.specs.Ids.{Id, has}
use Rattle.world_model.specs.Histories.{IsLegal}
use Rattle.world_model.specs.Safety.{IsSafe, Win}
use Rattle.schedule_text.specs.declared.level.Level.{Level}
use Rattle.schedule_text.specs.declared.level.Level.TheVariants.{Core, Node}
use Rattle.schedule_text.specs.declared.schedule.Line.{Line}
use Rattle.schedule_text.specs.declared.schedule.Schedule.{Schedule}
use Rattle.schedule_replay.specs.Replayed.{replayed}
use Rattle.schedule_replay.specs.Showing.{Shows, Agrees}
use Rattle.schedule_replay.specs.HistoryShown.{wins_of}
use Rattle.schedule_replay.specs.TraceLaws.{GivesHistory}
use Rattle.schedule_replay.specs.TraceParts.{trace_parts}
use Rattle.schedule_replay.specs.ClusterLaws.{ClusterGivesHistory}
use Rattle.schedule_replay.specs.ClusterShown.{core_of}
use Rattle.schedule_replay.specs.ClusterTraceParts.{cluster_parts}
use Rattle.replay_node.specs.Clusters.{settings_of, replayed_history, replayed_life}
use Rattle.client_guarantees.specs.Laws.{IsLifeIn}
use Rattle.client_guarantees.specs.Replies.{RepliesTruly}

-- ---- level core: the lines are single acts of the nodes

-- The trace of the schedule shows a legal history, and that very history is safe: no term has two winners, committed states of one version
-- are equal, each descends from every earlier committed one, and no node forgets what it answered for.
pub record IsSafeTrace (s : Schedule) : Type 0 where
  pub legal : IsLegal s.initial (replayed s)
  pub safe : IsSafe s.initial (replayed s)
  -- the trace is the text of its parts, and this history is read off these parts
  pub history : GivesHistory s (trace_parts s)
  -- the `won` lines are the wins of this history, and the `committed` lines show the states committed in it
  pub shows : Shows (replayed s) (trace_parts s)
  -- no two `won` lines of one term name two nodes, and no two `committed` lines of one version differ
  pub agrees : Agrees (trace_parts s)

-- ---- level node: the lines are what reaches whole nodes, which elect masters, publish states and answer clients by the policy

-- What a node of the schedule does, from its start and from each restart on, as far as its disk lets it.
pub record LivesByPolicy (s : Schedule) (n : Id) : Type 0 where
  -- at each event it does what the policy says of its life so far, and its acts in the history are just those of its life
  pub life : IsLifeIn (replayed_history s) (settings_of s.nodes s.initial s.voting_only s.second n) (replayed_life s n)
  -- Each of its replies is true at the end of its event. An `acked` names a committed state, which has what the request asked for unless a
  -- request that was processed later may have undone it. A `state` shows a committed state.
  pub replies : RepliesTruly (replayed_history s) (settings_of s.nodes s.initial s.voting_only s.second n) (replayed_life s n)

-- the schedule as it stands at the end of one of its lines
abbrev pub up_to : Schedule → List Line → Schedule
up_to s first = record s { lines = first }

-- What the nodes did by the policy is a legal history, so they keep the rules of the core and take no message that was not sent. That very
-- history is safe, as at level core, and the trace shows it.
pub record IsSafeClusterTrace (s : Schedule) : Type 0 where
  pub legal : IsLegal s.initial (replayed_history s)
  pub safe : IsSafe s.initial (replayed_history s)
  -- at the end of each line, so each reply is true of the history up to the end of its event
  pub nodes : (first rest : List Line) → s.lines ≡ first ++ rest → (n : Id) → has n s.nodes ≡ true → LivesByPolicy (up_to s first) n
  -- the trace is the text of its parts; this history, the frames that were sent and the replies of each node are read off these parts
  pub history : ClusterGivesHistory s (cluster_parts s)
  -- the `won` lines are the wins of this history, and the `committed` lines show the states committed in it
  pub shows : Shows (replayed_history s) (core_of (cluster_parts s))
  -- no two `won` lines of one term name two nodes, and no two `committed` lines of one version differ
  pub agrees : Agrees (core_of (cluster_parts s))
  -- no `won` line names a node that the header lists as voting-only
  pub voting_only : (w : Win) → Contains (wins_of (core_of (cluster_parts s))) w → has w.node s.voting_only ≡ false

-- ---- by level

abbrev pub IsSafeTraceAt : Level → Schedule → Type 0
IsSafeTraceAt Core s = IsSafeTrace s
IsSafeTraceAt Node s = IsSafeClusterTrace s
