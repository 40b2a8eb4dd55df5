-- For the contracts inside: that a cluster that was restarted from one node can be rescued as one that began by a bootstrap, as a statement.
use Rattle.std.specs.Prelude.{◌≡◌, ◌≢◌, ℕ, Ok, List, length, IsTrue}
use Rattle.voting_config.specs.Ids.{Id, has}
use Rattle.cluster_state.specs.declared.state.Kept.{Kept}
use Rattle.cluster_state.specs.declared.state.ClusterValue.{ClusterValue}
use Rattle.world_model.specs.Acts.{NoActs}
use Rattle.world_model.specs.Histories.{History, node_history, sent}
use Rattle.world_model.specs.Restarts.{IsAlone, IsLegalFrom}
use Rattle.rescue_plan.specs.declared.answer.Plan.{Plan}
use Rattle.rescue_plan.specs.Planning.{planned}
use Rattle.rescue_plan.specs.Lines.{lines_done}
use Rattle.rescue_plan.specs.Rescue.{ups, AreUp, IsRescuedBy}

-- After every history that is legal from the restart of one node on, the lines of a plan for nodes that are up, and that have opened their
-- journals since, elect the node of the plan, and it commits a new state; and the history is legal from that restart on.
abbrev pub LawRestartedRescue : Type 0
LawRestartedRescue =
    (first : Id) (kept : Kept) (h : History) → IsAlone first kept → IsLegalFrom first kept h → (us : List Id) → AreUp h us
    → ((u : Id) → IsTrue (has u us) → node_history h u ≢ NoActs) → (p : Plan) → planned (ups h us) (length (sent h)) ≡ Ok p
    → (value_of : List ℕ → ClusterValue) → IsRescuedBy (IsLegalFrom first kept) h (lines_done value_of h p.lines) us p
