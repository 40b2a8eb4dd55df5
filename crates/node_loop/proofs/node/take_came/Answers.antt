use Rattle.node_loop.proofs.Telling.{nothing}
use Rattle.node_loop.specs.Nodes.{HoldsBy}
use Rattle.node_loop.proofs.Leaving.{holds_still}
use Rattle.node_loop.proofs.node.take_came.Goals as goal

pub returns-in-Nothing-clause-says : goal.returns-in-Nothing-clause-says
returns-in-Nothing-clause-says g c s life stands up = rw c.in-Nothing.is (nothing g.S.EventNode.output (g.S.EventNode.text s) s life (g.O.Sink.written c.args.out.now) (g.L.Link.told c.args.link.now) (HoldsBy g.S.EventNode c.args.inner.now c.args.inner.now s life) (holds_still g.S.EventNode s c.args.inner.now life stands) up)
