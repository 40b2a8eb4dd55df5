-- For the contracts inside: where a replay stands between two lines.
use Rattle.std.specs.Prelude.{◌≡◌, ℕ, Option, Result, Ok, Err, List, ◌++◌}
use Rattle.voting_config.specs.Ids.{Id}
use Rattle.world_model.specs.declared.acts.Message.{Message}
use Rattle.schedule_text.specs.declared.schedule.Line.{Line}
use Rattle.zen_link.specs.Streams.{Appended, AppendedPrefix}
use Rattle.replay_node.specs.declared.node.ReplayNode.{ReplayNode}
use Rattle.replay_node.specs.Worlds.{World}
use Rattle.schedule_replay.specs.Replayed.{replayed_from}
use Rattle.schedule_replay.specs.Trace.{trace_from}
use Rattle.schedule_replay.specs.WorldStands.{Stands}

-- The replay stands for what its nodes did so far. What was written, what is held back, and the trace of the lines that are left are the
-- whole trace, and the lines that are left lead to the end.
pub record SoFar (ids initial : List Id) (nodes : List ReplayNode) (messages : List Message) (was now : Option (List ℕ))
    (pending : List ℕ) (left : List Line) (all : List ℕ) (end : World) : Type 0 where
  pub world : World
  pub stands : Stands ids nodes messages world
  pub prefix : List ℕ
  pub written : Appended was now prefix
  pub whole : prefix ++ (pending ++ trace_from initial world left) ≡ all
  pub ends : replayed_from initial world left ≡ end

-- a piece was added to what is held back, and a prefix of it all was written; at an error a prefix of it was
pub record HoldsBack (was now : Option (List ℕ)) (before after piece : List ℕ) : Type 0 where
  pub prefix : List ℕ
  pub written : Appended was now prefix
  pub whole : prefix ++ after ≡ before ++ piece

abbrev pub Holds : {E : Type 0} → Option (List ℕ) → Option (List ℕ) → (before after piece : List ℕ) → Result (Unit {0}) E → Type 0
Holds was now before after piece (Ok u) = HoldsBack was now before after piece
Holds was now before after piece (Err e) = AppendedPrefix was now (before ++ piece)
