-- What a node's fields say of the acts that they stand for.
use Rattle.std.proofs.Common.{◌≡◌, ap}
use Rattle.cluster_state.specs.declared.state.Kept.{Kept}
use Rattle.state_journal.specs.declared.keeper.Keeper.{Ghosts}
use Rattle.world_model.specs.Acts.{NodeHistory}
use Rattle.world_model.specs.NodeState.{NodeState, durable_of}
use Rattle.coord_state.specs.declared.coord.CoordState.{CoordState}
use Rattle.coord_state.specs.StandsFor.{StandsFor}

pub stands_durable : {K : Type 0} (k : Ghosts K) (c : CoordState K) (g : NodeHistory) → StandsFor k c g → k.record_of c.keeper ≡ durable_of g
stands_durable k c g s = let kept : NodeState → Kept = λ n. record { term = n.term; accepted = n.accepted; committed = n.committed } in ap kept s
