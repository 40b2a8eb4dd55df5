-- For the contracts inside: where a replay of whole nodes stands between two lines.
use Rattle.std.specs.Prelude.{◌≡◌, ℕ, Bool, Option, List, ◌++◌}
use Rattle.voting_config.specs.Ids.{Id}
use Rattle.wire_frames.specs.declared.frame.Frame.{Frame}
use Rattle.schedule_text.specs.declared.schedule.Line.{Line}
use Rattle.zen_link.specs.Streams.{Appended}
use Rattle.replay_node.specs.Clusters.{Cluster}
use Rattle.schedule_replay.specs.ClusterStands.{ClusterFor}
use Rattle.schedule_replay.specs.ClusterTrace.{trace_from}
use Rattle.schedule_replay.specs.declared.cluster.node.ClusterNode.{ClusterNode}

-- The nodes stand for what they did so far. What was written, what is held back, and the trace of the lines that are left are the whole
-- trace.
pub record ClusterSoFar (ids initial voting_only : List Id) (second : Bool) (nodes : List ClusterNode) (frames : List Frame) (was now : Option (List ℕ))
    (pending : List ℕ) (left : List Line) (all : List ℕ) : Type 0 where
  pub cluster : Cluster
  pub stands : ClusterFor ids initial voting_only second nodes frames cluster
  pub prefix : List ℕ
  pub written : Appended was now prefix
  pub whole : prefix ++ (pending ++ trace_from ids initial voting_only second cluster left) ≡ all
