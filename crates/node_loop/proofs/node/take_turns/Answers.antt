use Rattle.std.proofs.Common.{◌+◌, arith, Some, None}
use Rattle.node_loop.proofs.Telling.{causes_none, causes_more}
use Rattle.node_loop.proofs.Turning.{turns_none, turns_more, turns_within, turns_same}
use Rattle.node_loop.specs.Nodes.{HoldsBy}
use Rattle.node_loop.proofs.Leaving.{holds_still, carried_turns}
use Rattle.node_loop.proofs.node.take_turns.Goals as goal

pub loop-turn-init : goal.loop-turn-init
loop-turn-init g c = record {
  turns = λ s life taken stands up reads. turns_none g.S.EventNode.output (g.S.EventNode.text s) s life taken (g.O.Sink.written c.args.out.now) (g.L.Link.told c.args.link.now) (HoldsBy g.S.EventNode c.args.inner.now c.args.inner.now s life) c.args.connections.now (g.L.Link.asked c.args.link.now) (holds_still g.S.EventNode s c.args.inner.now life stands) up reads;
  causes = causes_none _ _ _;
}

pub returns-in-Some-clause-turns : goal.returns-in-Some-clause-turns
returns-in-Some-clause-turns g c s life taken stands up reads =
    turns_within g.S.EventNode.output (g.S.EventNode.text s) s life taken c.in-Some.end (g.O.Sink.written c.args.out.now) (g.O.Sink.written c.take_turn.new.out)
    (g.L.Link.told c.args.link.now) (g.L.Link.told c.take_turn.new.link) (HoldsBy g.S.EventNode c.args.inner.now c.take_turn.new.inner s life) c.take_turn.new.connections
    (g.L.Link.asked c.args.link.now) (g.L.Link.asked c.take_turn.new.link) (c.loop-turn.turn + 1) c.args.turns (omega (arith, c.loop-turn-test.true))
    (turns_more g.S.EventNode.output (g.S.EventNode.text s) s life taken (Some c.in-Some.end) (g.O.Sink.written c.args.out.now) (g.O.Sink.written c.loop-turn.out) (g.O.Sink.written c.take_turn.new.out) (g.L.Link.told c.args.link.now) (g.L.Link.told c.loop-turn.link) (g.L.Link.told c.take_turn.new.link) (HoldsBy g.S.EventNode c.args.inner.now c.loop-turn.inner s life) (HoldsBy g.S.EventNode c.args.inner.now c.take_turn.new.inner s life) c.loop-turn.connections c.take_turn.new.connections (g.L.Link.asked c.args.link.now) (g.L.Link.asked c.loop-turn.link) (g.L.Link.asked c.take_turn.new.link) c.loop-turn.turn 1
    (c.loop-turn.invariant.turns s life taken stands up reads)
    (λ mid sofar lives on held. carried_turns g.S.EventNode s g.S.EventNode.output (g.S.EventNode.text s) c.args.inner.now c.loop-turn.inner c.take_turn.new.inner life mid sofar _ _ _ _ _ _ _ _ _ lives (c.in-Some.ensures.turns s mid sofar lives.stands on held)))

pub loop-turn-preserved : goal.loop-turn-preserved
loop-turn-preserved g c = record {
  turns = λ s life taken stands up reads. turns_more g.S.EventNode.output (g.S.EventNode.text s) s life taken None (g.O.Sink.written c.args.out.now) (g.O.Sink.written c.loop-turn.out) (g.O.Sink.written c.take_turn.new.out) (g.L.Link.told c.args.link.now) (g.L.Link.told c.loop-turn.link) (g.L.Link.told c.take_turn.new.link) (HoldsBy g.S.EventNode c.args.inner.now c.loop-turn.inner s life) (HoldsBy g.S.EventNode c.args.inner.now c.take_turn.new.inner s life) c.loop-turn.connections c.take_turn.new.connections (g.L.Link.asked c.args.link.now) (g.L.Link.asked c.loop-turn.link) (g.L.Link.asked c.take_turn.new.link) c.loop-turn.turn 1
      (c.loop-turn.invariant.turns s life taken stands up reads)
      (λ mid sofar lives on held. carried_turns g.S.EventNode s g.S.EventNode.output (g.S.EventNode.text s) c.args.inner.now c.loop-turn.inner c.take_turn.new.inner life mid sofar _ _ _ _ _ _ _ _ _ lives (c.in_default.ensures.turns s mid sofar lives.stands on held));
  causes = causes_more None _ _ _ _ _ _ _ _ _ c.loop-turn.invariant.causes c.in_default.ensures.causes;
}

pub returns-clause-turns : goal.returns-clause-turns
returns-clause-turns g c s life taken stands up reads =
    turns_same g.S.EventNode.output (g.S.EventNode.text s) s life taken None (g.O.Sink.written c.args.out.now) (g.O.Sink.written c.loop-turn.out) (g.L.Link.told c.args.link.now)
    (g.L.Link.told c.loop-turn.link) (HoldsBy g.S.EventNode c.args.inner.now c.loop-turn.inner s life) c.loop-turn.connections
    (g.L.Link.asked c.args.link.now) (g.L.Link.asked c.loop-turn.link) c.loop-turn.turn c.args.turns (omega (arith, c.loop-turn-test.false, c.loop-turn.auto.turn-end)) (c.loop-turn.invariant.turns s life taken stands up reads)
