use Rattle.node_loop.proofs.Doing.{done_said, done_part, done_silent}
use Rattle.node_loop.specs.Nodes.{HoldsBy}
use Rattle.node_loop.proofs.node.report_done.Goals as goal

pub returns-in_default-clause-says : goal.returns-in_default-clause-says
returns-in_default-clause-says g c old s life event does =
    done_silent (λ n s2 l. HoldsBy g.S.EventNode old n s2 life l) g.S.EventNode.output (g.S.EventNode.text s) s life event c.args.inner.now c.args.done.sealed c.args.done.lines
    (g.O.Sink.written c.args.out.now) (g.L.Link.told c.args.link.now) does

pub returns-in_default-write_all-clause-says : goal.returns-in_default-write_all-clause-says
returns-in_default-write_all-clause-says g c old s life event does =
    done_part (λ n s2 l. HoldsBy g.S.EventNode old n s2 life l) g.S.EventNode.output (g.S.EventNode.text s) s life event c.args.inner.now c.args.done.sealed c.in-Some.lines
    (g.O.Sink.written c.args.out.now) (g.O.Sink.written c.write_all.new.out) (g.L.Link.told c.args.link.now) (rw c.in-Some.is at does)
    (rw c.as_bytes.ensures at c.in_default-write_all.ensures.part)

pub returns-clause-says : goal.returns-clause-says
returns-clause-says g c old s life event does =
    done_said (λ n s2 l. HoldsBy g.S.EventNode old n s2 life l) g.S.EventNode.output (g.S.EventNode.text s) s life event c.args.inner.now c.args.done.sealed c.in-Some.lines
    (g.O.Sink.written c.args.out.now) (g.O.Sink.written c.write_all.new.out) (g.L.Link.told c.args.link.now) (g.L.Link.told c.send.new.self) _ _ (rw c.in-Some.is at does)
    (rw c.as_bytes.ensures at c.in-Ok.ensures.writes) c.send.ensures.gives
