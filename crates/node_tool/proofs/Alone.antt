-- From a legal history a node goes on alone with what the tool makes of what it keeps.
use Rattle.std.proofs.Common.{◌≡◌, ◌≤◌, false, List, refl, arith}
use Rattle.std.specs.Prelude.{IsTrue}
use Rattle.voting_config.specs.Ids.{Id, same}
use Rattle.voting_config.proofs.Sets.{same_self}
use Rattle.cluster_state.specs.StateIds.{is_fresher}
use Rattle.cluster_state.specs.States.{id_of}
use Rattle.cluster_state.specs.declared.state.Kept.{Kept}
use Rattle.world_model.specs.declared.acts.Act.TheVariants.{Open}
use Rattle.world_model.specs.Acts.{NoActs}
use Rattle.world_model.specs.NodeState.{durable_of, initial_state}
use Rattle.world_model.specs.Histories.{History, node_history, IsLegal}
use Rattle.world_model.specs.Restarts.{IsAlone, ContinuesFrom}
use Rattle.world_model.proofs.Durable.{accepted_below}
use Rattle.world_model.proofs.Legal.{system_of_legal, prefix_self}
use Rattle.agreement.proofs.Laws.{lost, safe_from}
use Rattle.node_tool.specs.Laws.{GoesOn}
use Rattle.node_tool.specs.Tools.{state_alone, record_alone, record_detached}

pub is_alone : (node : Id) (kept : Kept) → IsAlone node (record_alone node kept)
is_alone node kept = record { config = refl; committed = refl; older = omega arith }

its_own : (node : Id) (kept : Kept) → ContinuesFrom node (record_alone node kept) node NoActs (Open (record_alone node kept))
its_own node kept = rw (same_self node) refl

another : (node other : Id) (kept theirs : Kept) → same other node ≡ false → ContinuesFrom node (record_alone node kept) other NoActs (Open (record_detached theirs))
another node other kept theirs apart = rw apart refl

-- the next state is above the accepted one, whose term is not above the node's
stands_above : (node : Id) (kept : Kept) → kept.accepted.term ≤ kept.term → IsTrue (is_fresher (id_of (state_alone node kept)) (id_of kept.accepted))
stands_above node kept older = grind (arith, older)

pub goes_on : (initial : List Id) (h : History) → IsLegal initial h → (node : Id) → GoesOn h node (durable_of (node_history h node))
goes_on initial h l node =
    let kept = durable_of (node_history h node) in
    let system = system_of_legal initial h l in
    record {
      alone = is_alone node kept;
      opens = its_own node kept;
      detached = λ other theirs apart. another node other kept theirs apart;
      safe = λ later legal. safe_from node (record_alone node kept) later (is_alone node kept) legal;
      parent = refl;
      above = stands_above node kept (accepted_below (node_history h) (initial_state initial) system node (node_history h node) (system node));
      lost = λ c committed. lost initial h l node h (prefix_self h) c committed;
    }
