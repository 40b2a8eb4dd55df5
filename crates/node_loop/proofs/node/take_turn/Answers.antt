use Rattle.std.proofs.Common.{◌∙◌}
use Rattle.node_loop.proofs.Turning.{turn_took, turn_failed, turn_refused}
use Rattle.node_loop.specs.Nodes.{HoldsBy}
use Rattle.node_loop.proofs.Leaving.{holds_still}
use Rattle.node_loop.proofs.node.take_turn.Goals as goal

pub returns-in-Ok-clause-turns : goal.returns-in-Ok-clause-turns
returns-in-Ok-clause-turns g c s life intakes stands up reads =
    turn_took g.S.EventNode.output (g.S.EventNode.text s) s life intakes c.take_input.result (g.O.Sink.written c.args.out.now) (g.O.Sink.written c.take_input.new.out)
    (g.L.Link.told c.args.link.now) (g.L.Link.told c.next.new.self) (g.L.Link.told c.take_input.new.link) (HoldsBy g.S.EventNode c.args.inner.now c.take_input.new.inner s life)
    c.take_input.new.connections (g.L.Link.asked c.args.link.now) (g.L.Link.asked c.take_input.new.link) c.in-Ok.input
    up c.in-Ok.ensures.takes (c.take_input.ensures.takes s life intakes stands up reads) c.take_input.ensures.stop
    (c.take_input.ensures.asked ∙ c.next.ensures.asked) c.take_input.ensures.unlinked

pub returns-in-Err-Failed-clause-turns : goal.returns-in-Err-Failed-clause-turns
returns-in-Err-Failed-clause-turns g c s life intakes stands up reads =
    turn_failed g.S.EventNode.output (g.S.EventNode.text s) s life intakes (g.O.Sink.written c.args.out.now) (g.L.Link.told c.args.link.now) (g.L.Link.told c.next.new.self)
    (HoldsBy g.S.EventNode c.args.inner.now c.args.inner.now s life) c.args.connections.now (g.L.Link.asked c.args.link.now) (g.L.Link.asked c.next.new.self)
    (holds_still g.S.EventNode s c.args.inner.now life stands) up reads c.in-Err-Failed.ensures.takes c.next.ensures.asked

pub returns-in-Err-Memory-clause-turns : goal.returns-in-Err-Memory-clause-turns
returns-in-Err-Memory-clause-turns g c s life intakes stands up reads =
    turn_refused g.S.EventNode.output (g.S.EventNode.text s) s life intakes c.report_no_memory.result (g.O.Sink.written c.args.out.now) (g.O.Sink.written c.report_no_memory.new.out)
    (g.L.Link.told c.args.link.now) (g.L.Link.told c.next.new.self) (HoldsBy g.S.EventNode c.args.inner.now c.args.inner.now s life) c.args.connections.now (g.L.Link.asked c.args.link.now) (g.L.Link.asked c.next.new.self)
    reads c.in-Err-Memory.ensures.takes c.report_no_memory.ensures.stop (c.report_no_memory.ensures.refused s life (g.L.Link.told c.args.link.now) up stands)
    c.next.ensures.asked c.report_no_memory.ensures.others.0
