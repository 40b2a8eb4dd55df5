-- For the contracts inside: when the nodes of a replay stand for a cluster, and what a line makes of them.
use Rattle.std.specs.Prelude.{◌≡◌, Bool, false, true, ℕ, List, [], ◌∷◌, ◌++◌}
use Rattle.std.specs.List.{AllByRecursion}
use Rattle.voting_config.specs.Ids.{Id, ascends, same}
use Rattle.wire_frames.specs.declared.frame.Frame.{Frame}
use Rattle.wire_frames.specs.Frames.{IsFitFrame}
use Rattle.schedule_text.specs.declared.schedule.Line.{Line}
use Rattle.replay_node.specs.Clusters.{Cluster, after, settings_of}
use Rattle.schedule_replay.specs.OwnStands.{NodeFor}
use Rattle.schedule_replay.specs.Own.{Own, own_in}
use Rattle.schedule_replay.specs.ClusterTrace.{trace_line}
use Rattle.schedule_replay.specs.declared.cluster.node.ClusterNode.{ClusterNode}

-- each of these nodes, of the schedule's, stands for its part of the cluster
abbrev pub AllFor : (nodes initial voting_only : List Id) (second : Bool) (ids : List Id) → List ClusterNode → Cluster → Type 0
AllFor nodes initial voting_only second [] [] c = Unit {0}
AllFor nodes initial voting_only second (i ∷ is) (x ∷ xs) c = NodeFor (settings_of nodes initial voting_only second i) x (own_in c i) false
    × AllFor nodes initial voting_only second is xs c
AllFor nodes initial voting_only second [] (x ∷ xs) c = ⊥
AllFor nodes initial voting_only second (i ∷ is) [] c = ⊥

-- one node of a cluster goes on to this, the others stay
pub record GoesOn (n : Id) (c : Cluster) (own : Own) (after_it : Cluster) : Type 0 where
  pub own_is : own_in after_it n ≡ own
  pub others : (m : Id) → same n m ≡ false → own_in after_it m ≡ own_in c m

-- the nodes and the frames are what the schedule makes of them
pub record ClusterFor (nodes initial voting_only : List Id) (second : Bool) (all : List ClusterNode) (frames : List Frame) (c : Cluster) : Type 0 where
  pub stand : AllFor nodes initial voting_only second nodes all c
  pub frames_sent : frames ≡ c.frames
  pub fit : AllByRecursion IsFitFrame frames
  pub ascending : ascends nodes ≡ true

-- a line, or what of it stands after its echo
pub record LineDone (nodes initial voting_only : List Id) (second : Bool) (new : List ClusterNode) (frames : List Frame) (after_it : Cluster)
    (results was now : List ℕ) : Type 0 where
  pub stands : ClusterFor nodes initial voting_only second new frames after_it
  pub written : now ≡ was ++ results

abbrev pub DoesLine : (nodes initial voting_only : List Id) (second : Bool) → (old new : List ClusterNode) → (frames frames_now : List Frame)
    → (was now : List ℕ) → (Cluster → Cluster) → (Cluster → List ℕ) → Type 0
DoesLine nodes initial voting_only second old new frames frames_now was now after_it results =
    (c : Cluster) → ClusterFor nodes initial voting_only second old frames c
    → LineDone nodes initial voting_only second new frames_now (after_it c) (results c) was now

-- a line with its echo
abbrev pub WritesLine : (nodes initial voting_only : List Id) (second : Bool) → (old new : List ClusterNode) → (frames frames_now : List Frame)
    → (was now : List ℕ) → Line → Type 0
WritesLine nodes initial voting_only second old new frames frames_now was now l =
    DoesLine nodes initial voting_only second old new frames frames_now was now (λ c. after nodes initial voting_only second c l)
    (λ c. trace_line nodes initial voting_only second c l)
