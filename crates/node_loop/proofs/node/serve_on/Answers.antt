use Rattle.std.proofs.Common.{ap, Some}
use Rattle.node_loop.specs.Intakes.{NoIntakes}
use Rattle.node_loop.proofs.Turning.{serves_start, serves_turns, serves_all}
use Rattle.node_loop.specs.Nodes.{HoldsBy}
use Rattle.node_loop.proofs.Leaving.{carried_turns}
use Rattle.node_loop.proofs.node.serve_on.Goals as goal

pub returns-in-Some-clause-serves : goal.returns-in-Some-clause-serves
returns-in-Some-clause-serves g c s life stands opened reads =
    serves_start g.S.EventNode.output (g.S.EventNode.text s) s life c.in-Some.end (g.O.Sink.written c.args.out.now) (g.O.Sink.written c.start.new.out) (g.L.Link.told c.args.link.now)
    (g.L.Link.told c.start.new.link) (HoldsBy g.S.EventNode c.args.inner.now c.start.new.inner s life) (g.L.Link.asked c.args.link.now) (g.L.Link.asked c.start.new.link) c.args.turns
    c.start.ensures.ends.asked c.in-Some.ensures.ends.within c.in-Some.ensures.ends.stop (c.in-Some.ensures.says s life stands opened)

pub returns-in-Some-take_turns-clause-serves : goal.returns-in-Some-take_turns-clause-serves
returns-in-Some-take_turns-clause-serves g c s life stands opened reads =
    serves_turns g.S.EventNode.output (g.S.EventNode.text s) s life c.in-Some-take_turns.end (g.O.Sink.written c.args.out.now) (g.O.Sink.written c.start.new.out)
    (g.O.Sink.written c.take_turns.new.out) (g.L.Link.told c.args.link.now) (g.L.Link.told c.start.new.link) (g.L.Link.told c.take_turns.new.link)
    (HoldsBy g.S.EventNode c.args.inner.now c.start.new.inner s life) (HoldsBy g.S.EventNode c.args.inner.now c.take_turns.new.inner s life) c.take_turns.new.connections
    (g.L.Link.asked c.args.link.now) (g.L.Link.asked c.start.new.link) (g.L.Link.asked c.take_turns.new.link) c.args.turns c.start.ensures.ends.asked
    (λ is. c.in-Some-take_turns.ensures.never (ap (λ e. Some e) is))
    (c.in_default.ensures.says s life stands opened)
    (λ mid lives on. carried_turns g.S.EventNode s g.S.EventNode.output (g.S.EventNode.text s) c.args.inner.now c.start.new.inner c.take_turns.new.inner life mid NoIntakes _ _ _ _ _ _ _ _ _ lives (c.in-Some-take_turns.ensures.turns s mid NoIntakes lives.stands on reads))

pub returns-in-None-clause-serves : goal.returns-in-None-clause-serves
returns-in-None-clause-serves g c s life stands opened reads =
    serves_all g.S.EventNode.output (g.S.EventNode.text s) s life (g.O.Sink.written c.args.out.now) (g.O.Sink.written c.start.new.out) (g.O.Sink.written c.take_turns.new.out)
    (g.L.Link.told c.args.link.now) (g.L.Link.told c.start.new.link) (g.L.Link.told c.take_turns.new.link) (HoldsBy g.S.EventNode c.args.inner.now c.start.new.inner s life)
    (HoldsBy g.S.EventNode c.args.inner.now c.take_turns.new.inner s life) c.take_turns.new.connections
    (g.L.Link.asked c.args.link.now) (g.L.Link.asked c.start.new.link) (g.L.Link.asked c.take_turns.new.link) c.args.turns c.start.ensures.ends.asked
    (c.in_default.ensures.says s life stands opened)
    (λ mid lives on. carried_turns g.S.EventNode s g.S.EventNode.output (g.S.EventNode.text s) c.args.inner.now c.start.new.inner c.take_turns.new.inner life mid NoIntakes _ _ _ _ _ _ _ _ _ lives (c.in-None.ensures.turns s mid NoIntakes lives.stands on reads))
