use Rattle.std.proofs.Common.{refl, [], ◌∷◌}
use Rattle.policy_model.specs.declared.events.Event.TheVariants.{Start}
use Rattle.node_loop.specs.declared.node.End.TheVariants as ends
use Rattle.node_loop.specs.Happenings.{Comes}
use Rattle.node_loop.proofs.Telling.{stops}
use Rattle.node_loop.specs.Nodes.{HoldsBy}
use Rattle.node_loop.proofs.node.report_unstarted.Goals as goal

pub returns-in-Memory-clause-says : goal.returns-in-Memory-clause-says
returns-in-Memory-clause-says g c old s life told opened fails =
    stops g.S.EventNode.output (g.S.EventNode.text s) s life (Comes Start ∷ []) ends.Memory (g.O.Sink.written c.args.out.now) told (HoldsBy g.S.EventNode old c.args.inner.now s life) refl refl (λ is. absurd cc)
    (rw c.in-Memory.is at fails)
