-- For the contracts inside: when a replay stands for what its nodes did.
use Rattle.std.specs.Prelude.{◌≡◌, ◌≤◌, true, List, [], ◌∷◌, ◌++◌, length, ℕ}
use Rattle.voting_config.specs.Ids.{Id, ascends, most_ids}
use Rattle.world_model.specs.declared.acts.Act.{Act}
use Rattle.world_model.specs.declared.acts.Message.{Message}
use Rattle.world_model.specs.Histories.{node_history, sent}
use Rattle.schedule_text.specs.declared.schedule.Line.{Line}
use Rattle.schedule_text.specs.declared.schedule.Line.TheVariants as line
use Rattle.trace_text.specs.Trace.{act_text}
use Rattle.replay_node.specs.Did.{act_results, did_text, outcome_of, outcome_unless_down}
use Rattle.replay_node.specs.Sent.{are_from}
use Rattle.replay_node.specs.Stands.{NodeStands}
use Rattle.replay_node.specs.Takes.{TakesFrom}
use Rattle.replay_node.specs.declared.did.Did.{Did}
use Rattle.replay_node.specs.declared.node.ReplayNode.{ReplayNode}
use Rattle.replay_node.specs.Worlds.{World, did_unless_down, node_world}
use Rattle.schedule_replay.specs.Replayed.{after}
use Rattle.schedule_replay.specs.Trace.{trace_line}

-- each node stands for what it did, and the nodes are these
abbrev pub AllStand : List Id → List ReplayNode → World → Type 0
AllStand [] [] w = Unit {0}
AllStand (i ∷ is) (c ∷ cs) w = (c.me ≡ i) × NodeStands c (node_world w i) × AllStand is cs w
AllStand [] (c ∷ cs) w = ⊥
AllStand (i ∷ is) [] w = ⊥

-- the nodes and the messages are what the history makes of them, and all of it is among these nodes
pub record Stands (ids : List Id) (nodes : List ReplayNode) (messages : List Message) (w : World) : Type 0 where
  pub nodes_stand : AllStand ids nodes w
  pub messages_sent : messages ≡ sent w.history
  pub sources : are_from ids (sent w.history) ≡ true
  pub taken : (n : Id) → TakesFrom ids (node_history w.history n)
  pub few : length ids ≤ most_ids
  pub ascending : ascends ids ≡ true

-- an act of a node: whatever the nodes stood for, what it did is reported, and they stand for that with the act
pub record ActDone (ids : List Id) (new : List ReplayNode) (w : World) (n : Id) (act : Act) (d : Did) : Type 0 where
  pub outcome : outcome_of d ≡ outcome_unless_down n (node_world w n) act
  pub stand : AllStand ids new (did_unless_down w n act)
  pub text : (count : ℕ) → act_results count n (node_world w n) act ≡ did_text count n (act_text act) d

-- a line, or what of it stands after its echo: whatever a replay stood for, it stands for that after the line, and the results were written
pub record LineDone (ids : List Id) (new : List ReplayNode) (messages : List Message) (after_it : World) (results was now : List ℕ)
    : Type 0 where
  pub stands : Stands ids new messages after_it
  pub written : now ≡ was ++ results

abbrev pub DoesLine : (ids : List Id) → (old_nodes new_nodes : List ReplayNode) → (old_messages new_messages : List Message)
    → (old_text new_text : List ℕ) → (World → World) → (World → List ℕ) → Type 0
DoesLine ids old_nodes new_nodes old_messages new_messages old_text new_text after_it results =
    (w : World) → Stands ids old_nodes old_messages w → LineDone ids new_nodes new_messages (after_it w) (results w) old_text new_text

-- a line that hands over no message
abbrev pub DeliversNothing : Line → Type 0
DeliversNothing (line.Deliver n number) = ⊥
DeliversNothing other = Unit {0}

-- a line with its echo
abbrev pub WritesLine : (ids initial : List Id) → (old_nodes new_nodes : List ReplayNode) → (old_messages new_messages : List Message)
    → (old_text new_text : List ℕ) → Line → Type 0
WritesLine ids initial old_nodes new_nodes old_messages new_messages old_text new_text l =
    DoesLine ids old_nodes new_nodes old_messages new_messages old_text new_text (λ w. after initial w l) (λ w. trace_line initial w l)
