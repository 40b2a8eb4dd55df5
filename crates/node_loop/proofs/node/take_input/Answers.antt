use Rattle.std.proofs.Common.{refl, Some}
use Rattle.zen_link.specs.declared.link.Input.TheVariants.{Disconnected, Tick, Stop}
use Rattle.node_loop.specs.declared.node.End.TheVariants as ends
use Rattle.node_loop.specs.Intakes.{Read}
use Rattle.node_loop.proofs.Telling.{rests}
use Rattle.node_loop.specs.Nodes.{HoldsBy}
use Rattle.node_loop.proofs.Leaving.{holds_still}
use Rattle.node_loop.proofs.node.take_input.Goals as goal

pub returns-in-Tick-clause-takes : goal.returns-in-Tick-clause-takes
returns-in-Tick-clause-takes g c s life intakes stands up reads = rw c.in-Tick.is (record {
  intake = Read (Tick c.in-Tick.now c.in-Tick.word);
  is = refl;
  tells = c.do_event-in-Tick.ensures.says refl s life stands up;
  reads = λ conn low. reads conn low;
})

pub returns-in-Disconnected-clause-takes : goal.returns-in-Disconnected-clause-takes
returns-in-Disconnected-clause-takes g c s life intakes stands up reads = rw c.in-Disconnected.is (record {
  intake = Read (Disconnected c.in-Disconnected.peer);
  is = refl;
  tells = c.do_event.ensures.says refl s life stands up;
  reads = λ conn low. reads conn low;
})

pub returns-in-Stop-clause-takes : goal.returns-in-Stop-clause-takes
returns-in-Stop-clause-takes g c s life intakes stands up reads = rw c.in-Stop.is (record {
  intake = Read Stop;
  is = refl;
  tells = rests g.S.EventNode.output (g.S.EventNode.text s) s life (Some ends.Stop) (g.O.Sink.written c.args.out.now) (g.L.Link.told c.args.link.now) (g.L.Link.told c.args.link.now) (HoldsBy g.S.EventNode c.args.inner.now c.args.inner.now s life) (λ is. absurd cc) (λ is. absurd cc) (holds_still g.S.EventNode s c.args.inner.now life stands) up refl;
  reads = λ conn low. reads conn low;
})
