use Rattle.std.proofs.Common.{None}
use Rattle.policy_model.specs.declared.settings.Settings.{Settings}
use Rattle.policy_model.specs.Entries.{Life}
use Rattle.node_loop.specs.Intakes.{Intakes}
use Rattle.node_loop.specs.Nodes.{HoldsBy}
use Rattle.node_loop.specs.WritesAndSends.{HasCauses, IsUp}
use Rattle.node_loop.specs.Turns.{Reads, Turns}
use Rattle.node_loop.proofs.node.take_turns.Given as goal

abbrev pub invariant-loop-turn : goal.invariant-loop-turn
invariant-loop-turn g l = record {
  turns : (s : Settings) (life : Life) (intakes : Intakes) → g.S.EventNode.stands_for l.fn.inner s life → IsUp life → Reads l.fn.connections intakes
      → Turns g.S.EventNode.output (g.S.EventNode.text s) s life intakes None (g.O.Sink.written l.fn.out) (g.O.Sink.written l.out) (g.L.Link.told l.fn.link) (g.L.Link.told l.link) (HoldsBy g.S.EventNode l.fn.inner l.inner s life) l.connections (g.L.Link.asked l.fn.link) (g.L.Link.asked l.link) l.turn;
  causes : HasCauses None (g.S.EventNode.faults l.fn.inner) (g.S.EventNode.faults l.inner) (g.O.Sink.faults l.fn.out) (g.O.Sink.faults l.out) (g.L.Link.faults l.fn.link) (g.L.Link.faults l.link);
}
