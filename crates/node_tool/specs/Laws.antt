-- For the contracts inside: what the tools keep of a cluster, and what they lose, as a statement.
use Rattle.std.specs.Prelude.{◌≡◌, ◌↔◌, false, Some, List, IsTrue}
use Rattle.voting_config.specs.Ids.{Id, same}
use Rattle.cluster_state.specs.States.{id_of}
use Rattle.cluster_state.specs.StateIds.{is_fresher}
use Rattle.cluster_state.specs.declared.state.Kept.{Kept}
use Rattle.world_model.specs.declared.acts.Act.TheVariants.{Open}
use Rattle.world_model.specs.Acts.{NoActs}
use Rattle.world_model.specs.NodeState.{durable_of}
use Rattle.world_model.specs.Histories.{History, node_history, IsLegal}
use Rattle.world_model.specs.Restarts.{IsAlone, ContinuesFrom, IsLegalFrom}
use Rattle.world_model.specs.Safety.{Published, IsCommitted, Descends, IsAtMost, IsSafeFrom}
use Rattle.node_tool.specs.Tools.{state_alone, record_alone, record_detached}

-- what becomes of a cluster in which this happened, where the node that keeps this goes on alone
pub record GoesOn (h : History) (node : Id) (kept : Kept) : Type 0 where
  -- with the new record the node may begin a history anew, and with what detach_cluster makes each other node may
  pub alone : IsAlone node (record_alone node kept)
  pub opens : ContinuesFrom node (record_alone node kept) node NoActs (Open (record_alone node kept))
  pub detached : (other : Id) (theirs : Kept) → same other node ≡ false
      → ContinuesFrom node (record_alone node kept) other NoActs (Open (record_detached theirs))
  -- each such history is safe, and each state that it commits descends from the new state
  pub safe : (later : History) → IsLegalFrom node (record_alone node kept) later → IsSafeFrom (state_alone node kept) later
  -- the new state was made from the one that the node had accepted, and stands above it
  pub parent : (state_alone node kept).parent ≡ Some (id_of kept.accepted)
  pub above : IsTrue (is_fresher (id_of (state_alone node kept)) (id_of kept.accepted))
  -- from which just those committed states are lost whose id is above its own: it descends from each other one
  pub lost : (c : Published) → IsCommitted h c → Descends h c.state kept.accepted ↔ IsAtMost c.state kept.accepted

-- in every legal history, whichever node goes on from what it keeps
abbrev pub LawTools : Type 0
LawTools = (initial : List Id) (h : History) → IsLegal initial h → (node : Id) → GoesOn h node (durable_of (node_history h node))
