-- Each legal history has the facts that the argument for agreement uses.
use Rattle.std.proofs.Common.{◌≤◌, ◌⊎◌, List}
use Rattle.voting_config.specs.Ids.{Id}
use Rattle.world_model.specs.NodeState.{initial_state, accepted_of}
use Rattle.world_model.specs.Histories.{History, node_history, IsLegal, IsPrefix}
use Rattle.world_model.proofs.Facts.{IsPublished, Facts}
use Rattle.world_model.proofs.Legal.{system_of_legal}
use Rattle.world_model.proofs.FactsHold.{facts_of_system, accepted_known}

pub facts_of_legal : (initial : List Id) (h : History) → IsLegal initial h → Facts h (initial_state initial)
facts_of_legal initial h l = facts_of_system h (initial_state initial) (system_of_legal initial h l)

pub accepted_in_legal : (initial : List Id) (h : History) → IsLegal initial h → (n : Id) (p : History) → IsPrefix p h → ((accepted_of (node_history p n)).term ≤ 0) ⊎ IsPublished h (accepted_of (node_history p n))
accepted_in_legal initial h l n p i = accepted_known h (initial_state initial) (system_of_legal initial h l) n p i
