-- What a node does of some items depends on the node alone.
use Rattle.std.proofs.Common.{◌≡◌, Bool, false, List, [], ◌∷◌, ◌++◌, refl, ◌∙◌, ap, if◌then◌else◌}
use Rattle.voting_config.specs.Ids.{Id, same}
use Rattle.world_model.specs.declared.acts.Act.{Act}
use Rattle.replay_node.specs.NodeDisk.{CallsEnd, Done, Failed, CrashedIn}
use Rattle.replay_node.specs.NodeWorld.{NodeWorld, act_called, after_act, outcome_at}
use Rattle.replay_node.specs.Worlds.{World, node_world, did}
use Rattle.replay_node.proofs.Moves.{NodeMoves, moves_did}
use Rattle.policy_model.specs.Events.{Item, Opens, Begins, Acts, ChangesMode, Drops, Sends, Replies, Notes}
use Rattle.policy_model.specs.Follows.{without_output}
use Rattle.replay_node.specs.Course.{Course, NodeCourse, act_then, behind, played, node_act_then, node_behind, node_played}

-- What is done of some items, and what becomes of the node, depends on the node alone. The other nodes stay.
pub record PlaysAlone (n : Id) (w : World) (c : Course) (d : NodeCourse) : Type 0 where
  pub items : c.items ≡ d.items
  pub struck : c.struck ≡ d.struck
  pub node : node_world c.world n ≡ d.node
  pub others : (m : Id) → same n m ≡ false → node_world c.world m ≡ node_world w m

in_front : (n : Id) (w : World) (i : Item) (c : Course) (d : NodeCourse) → PlaysAlone n w c d → PlaysAlone n w (behind i c) (node_behind i d)
in_front n w i c d s = record {
  items = ap (λ (b : Bool). (if b then without_output i else i ∷ []) ++ c.items) s.struck ∙ ap (λ (xs : List Item). (if d.struck then without_output i else i ∷ []) ++ xs) s.items;
  struck = s.struck;
  node = s.node;
  others = s.others;
}

module _ (n : Id) (w : World) (act : Act) where
  moves : NodeMoves n w (after_act n (node_world w n) act) (did w n act)
  moves = moves_did n act w

  act_alone : (rest : World → Course) (more : NodeWorld → NodeCourse) (end : CallsEnd)
      → PlaysAlone n (did w n act) (rest (did w n act)) (more (node_world (did w n act) n))
      → PlaysAlone n w (act_then end (Acts act (outcome_at n (node_world w n) act)) (did w n act) rest) (node_act_then end (Acts act (outcome_at n (node_world w n) act)) (after_act n (node_world w n) act) more)
  act_alone rest more Done there =
      in_front n w (Acts act (outcome_at n (node_world w n) act)) (rest (did w n act)) (more (after_act n (node_world w n) act))
      (record {
        items = there.items ∙ ap (λ (x : NodeWorld). (more x).items) moves.own;
        struck = there.struck ∙ ap (λ (x : NodeWorld). (more x).struck) moves.own;
        node = there.node ∙ ap (λ (x : NodeWorld). (more x).node) moves.own;
        others = λ m other. there.others m other ∙ moves.others m other;
      })
  act_alone rest more Failed there = record { items = refl; struck = refl; node = moves.own; others = moves.others }
  act_alone rest more (CrashedIn way) there = record { items = refl; struck = refl; node = moves.own; others = moves.others }

pub plays_alone : (n : Id) (w : World) (is : List Item) → PlaysAlone n w (played n w is) (node_played n (node_world w n) is)
plays_alone n w [] = record { items = refl; struck = refl; node = refl; others = λ m other. refl }
plays_alone n w (Acts act outcome ∷ is) =
    act_alone n w act (λ (v : World). played n v is) (λ (y : NodeWorld). node_played n y is) (act_called n (node_world w n) act).ended (plays_alone n (did w n act) is)
plays_alone n w (Opens found ∷ is) = in_front n w (Opens found) (played n w is) (node_played n (node_world w n) is) (plays_alone n w is)
plays_alone n w (Begins event ∷ is) = in_front n w (Begins event) (played n w is) (node_played n (node_world w n) is) (plays_alone n w is)
plays_alone n w (ChangesMode mode term ∷ is) = in_front n w (ChangesMode mode term) (played n w is) (node_played n (node_world w n) is) (plays_alone n w is)
plays_alone n w (Drops member cause ∷ is) = in_front n w (Drops member cause) (played n w is) (node_played n (node_world w n) is) (plays_alone n w is)
plays_alone n w (Sends frame ∷ is) = in_front n w (Sends frame) (played n w is) (node_played n (node_world w n) is) (plays_alone n w is)
plays_alone n w (Replies answer ∷ is) = in_front n w (Replies answer) (played n w is) (node_played n (node_world w n) is) (plays_alone n w is)
plays_alone n w (Notes note ∷ is) = in_front n w (Notes note) (played n w is) (node_played n (node_world w n) is) (plays_alone n w is)
