-- For the contracts inside: where a replay and what observes its trace stand after some lines.
use Rattle.std.specs.Prelude.{ℕ, Bool, List}
use Rattle.voting_config.specs.Ids.{Id}
use Rattle.world_model.specs.declared.acts.Message.{Message}
use Rattle.wire_frames.specs.declared.frame.Frame.{Frame}
use Rattle.schedule_text.specs.declared.schedule.Line.{Line}
use Rattle.replay_node.specs.Clusters.{fresh_cluster, replayed_from as cluster_from}
use Rattle.replay_node.specs.declared.node.ReplayNode.{ReplayNode}
use Rattle.replay_node.specs.Worlds.{fresh_world}
use Rattle.schedule_replay.specs.Replayed.{replayed_from}
use Rattle.schedule_replay.specs.Trace.{trace_from}
use Rattle.schedule_replay.specs.ClusterTrace.{trace_from as cluster_trace}
use Rattle.schedule_replay.specs.WorldStands.{Stands}
use Rattle.schedule_replay.specs.ClusterStands.{ClusterFor}
use Rattle.schedule_replay.specs.declared.cluster.node.ClusterNode.{ClusterNode}

-- the nodes and the messages are what these lines make of them, and what observes has seen their trace
pub record Tallied {T : Type 0} (saw : T → List ℕ → Type 0) (ids initial : List Id) (nodes : List ReplayNode) (messages : List Message)
    (observer : T) (done : List Line) : Type 0 where
  pub stands : Stands ids nodes messages (replayed_from initial fresh_world done)
  pub tallies : saw observer (trace_from initial fresh_world done)

-- and so of whole nodes
pub record ClusterTallied {T : Type 0} (saw : T → List ℕ → Type 0) (ids initial voting_only : List Id) (second : Bool) (nodes : List ClusterNode)
    (frames : List Frame) (observer : T) (done : List Line) : Type 0 where
  pub stands : ClusterFor ids initial voting_only second nodes frames
      (cluster_from ids initial voting_only second (fresh_cluster ids initial voting_only second) done)
  pub tallies : saw observer (cluster_trace ids initial voting_only second (fresh_cluster ids initial voting_only second) done)
