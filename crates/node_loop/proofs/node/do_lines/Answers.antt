use Rattle.std.proofs.Common.{◌≡◌, ◌++◌, ◌∷◌, ◌∙◌, [], Some, None, length, refl, sym, ap, append_assoc, arith}
use Rattle.std.specs.Vec.Iter.{into_iter_items, into_iter_len}
use Rattle.policy_model.specs.declared.events.Event.TheVariants.{Client as LineCame}
use Rattle.node_loop.specs.Happenings.{Comes}
use Rattle.node_loop.proofs.Telling.{nothing, causes_none, causes_more, then_one, last_one}
use Rattle.node_loop.specs.Nodes.{HoldsBy}
use Rattle.node_loop.proofs.Leaving.{holds_still, carried}
use Rattle.node_loop.proofs.node.do_lines.Goals as goal

pub loop-line-init : goal.loop-line-init
loop-line-init g c =
    let given = c.into_iter-line-iterator.ensures.into_iter_gives in
    let count : into_iter_len c.into_iter-line-iterator.result ≡ length (into_iter_items c.into_iter-line-iterator.result) = given.1 ∙ c.args.lines.ok.0 ∙ ap length (sym given.0) in
    record {
      whole = refl;
      count = count;
      tells = λ s life stands up. nothing g.S.EventNode.output (g.S.EventNode.text s) s life (g.O.Sink.written c.args.out.now) (g.L.Link.told c.args.link.now)
          (HoldsBy g.S.EventNode c.args.inner.now c.args.inner.now s life)
          (holds_still g.S.EventNode s c.args.inner.now life stands) up;
      causes = causes_none _ _ _;
      asked = refl;
    }

pub returns-in-Some-do_event-clause-says : goal.returns-in-Some-do_event-clause-says
returns-in-Some-do_event-clause-says g c s life stands up =
    let at = c.loop-line in
    let x = c.in-Some.line in
    let inner : into_iter_items at.line-iterator ≡ x ∷ into_iter_items c.next.new.self = c.in-Some.ensures.steps.0 in
    let whole : at.yielded ++ x ∷ into_iter_items c.next.new.self ≡ c.args.lines.items = rw (← inner) (at.invariant.whole ∙ c.into_iter-line-iterator.ensures.into_iter_gives.0) in
    last_one g.S.EventNode.output (g.S.EventNode.text s) s (λ e. Comes (LineCame c.args.conn e)) at.yielded x (into_iter_items c.next.new.self) c.args.lines.items life
    (Some c.in-Some-do_event.end)
    (g.O.Sink.written c.args.out.now) (g.O.Sink.written at.out) (g.O.Sink.written c.do_event.new.out) (g.L.Link.told c.args.link.now) (g.L.Link.told at.link)
    (g.L.Link.told c.do_event.new.link)
    (HoldsBy g.S.EventNode c.args.inner.now at.inner s life)
    (HoldsBy g.S.EventNode c.args.inner.now c.do_event.new.inner s life)
    whole c.in-Some-do_event.ensures.ends.within (at.invariant.tells s life stands up)
    (λ mid lives on. carried g.S.EventNode s g.S.EventNode.output (g.S.EventNode.text s)
    c.args.inner.now at.inner c.do_event.new.inner life mid _ _ _ _ _ _ lives (c.in-Some-do_event.ensures.says refl s mid lives.stands on))

pub loop-line-preserved : goal.loop-line-preserved
loop-line-preserved g c =
    let at = c.loop-line in
    let x = c.in-Some.line in
    let inner : into_iter_items at.line-iterator ≡ x ∷ into_iter_items c.next.new.self = c.in-Some.ensures.steps.0 in
    let was = at.invariant.count in
    let gone = c.in-Some.ensures.steps.1 in
    let short = ap length inner in
    record {
      whole = append_assoc at.yielded (x ∷ []) (into_iter_items c.next.new.self) ∙ rw (← inner) at.invariant.whole;
      count = omega arith;
      tells = λ s life stands up. then_one g.S.EventNode.output (g.S.EventNode.text s) s (λ e. Comes (LineCame c.args.conn e)) at.yielded x life None
          _ _ _ _ _ _ (HoldsBy g.S.EventNode c.args.inner.now at.inner s life) (HoldsBy g.S.EventNode c.args.inner.now c.do_event.new.inner s life)
          (at.invariant.tells s life stands up)
          (λ mid lives on. carried g.S.EventNode s g.S.EventNode.output (g.S.EventNode.text s)
          c.args.inner.now at.inner c.do_event.new.inner life mid _ _ _ _ _ _ lives (c.in_default.ensures.says refl s mid lives.stands on));
      causes = causes_more None _ _ _ _ _ _ _ _ _ at.invariant.causes c.in_default.ensures.ends.causes;
      asked = c.do_event.ensures.ends.asked ∙ at.invariant.asked;
    }
