use Rattle.node_loop.proofs.Telling.{nothing}
use Rattle.node_loop.specs.Nodes.{HoldsBy}
use Rattle.node_loop.proofs.Leaving.{holds_still}
use Rattle.node_loop.proofs.node.report_fault.Goals as goal

pub returns-in-None-clause-says : goal.returns-in-None-clause-says
returns-in-None-clause-says g c s life stands up = rw c.in-None.is (nothing g.S.EventNode.output (g.S.EventNode.text s) s life (g.O.Sink.written c.args.out.now) (g.L.Link.told c.args.link.now) (HoldsBy g.S.EventNode c.args.inner.now c.args.inner.now s life)
    (holds_still g.S.EventNode s c.args.inner.now life stands) up)
