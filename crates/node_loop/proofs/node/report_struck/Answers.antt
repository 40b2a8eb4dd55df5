use Rattle.node_loop.proofs.Doing.{struck_said, struck_part, struck_silent}
use Rattle.node_loop.specs.Nodes.{HoldsBy}
use Rattle.node_loop.proofs.node.report_struck.Goals as goal

pub returns-in_default-clause-says : goal.returns-in_default-clause-says
returns-in_default-clause-says g c old s life event told does =
    struck_silent (λ n s2 l. HoldsBy g.S.EventNode old n s2 life l) g.S.EventNode.output (g.S.EventNode.text s) s life event c.args.inner.now told c.args.lines (g.O.Sink.written c.args.out.now) does

pub returns-in_default-write_all-clause-says : goal.returns-in_default-write_all-clause-says
returns-in_default-write_all-clause-says g c old s life event told does =
    struck_part (λ n s2 l. HoldsBy g.S.EventNode old n s2 life l) g.S.EventNode.output (g.S.EventNode.text s) s life event c.args.inner.now told c.in-Some.lines
    (g.O.Sink.written c.args.out.now) (g.O.Sink.written c.write_all.new.out) (rw c.in-Some.is at does) (rw c.as_bytes.ensures at c.in_default-write_all.ensures.part)

pub returns-clause-says : goal.returns-clause-says
returns-clause-says g c old s life event told does =
    struck_said (λ n s2 l. HoldsBy g.S.EventNode old n s2 life l) g.S.EventNode.output (g.S.EventNode.text s) s life event c.args.inner.now told c.in-Some.lines
    (g.O.Sink.written c.args.out.now) (g.O.Sink.written c.write_all.new.out) (rw c.in-Some.is at does) (rw c.as_bytes.ensures at c.in-Ok.ensures.writes)
