use Rattle.std.proofs.Common.{◌≡◌, ◌++◌, ◌∷◌, ◌∙◌, [], Some, None, Ok, drop, refl, sym, ap, append_assoc}
use Rattle.policy_model.specs.declared.events.Event.TheVariants.{Frame as FrameCame}
use Rattle.wire_frames.specs.Streams.{next_of}
use Rattle.wire_frames.specs.Views.{shown}
use Rattle.wire_frames.proofs.Carrying.{shorter}
use Rattle.node_loop.specs.Happenings.{Comes}
use Rattle.node_loop.specs.Nodes.{HoldsBy}
use Rattle.node_loop.proofs.Nexts.{first_left}
use Rattle.node_loop.proofs.Telling.{nothing, causes_none, causes_more, then_one, last_one}
use Rattle.node_loop.proofs.Leaving.{holds_still, carried}
use Rattle.node_loop.proofs.node.do_frames.Goals as goal

pub frames-init : goal.frames-init
frames-init g c = record {
  given = [];
  whole = refl;
  ending = refl;
  tells = λ s life stands up. nothing g.S.EventNode.output (g.S.EventNode.text s) s life (g.O.Sink.written c.args.out.now) (g.L.Link.told c.args.link.now)
      (HoldsBy g.S.EventNode c.args.inner.now c.args.inner.now s life)
      (holds_still g.S.EventNode s c.args.inner.now life stands) up;
  causes = causes_none _ _ _;
  asked = refl;
}

pub returns-in-Some-clause-says : goal.returns-in-Some-clause-says
returns-in-Some-clause-says g c s life stands up =
    let at = c.frames in
    let x = shown c.in-Some-Ok.frame in
    let next : Some (Ok x) ≡ next_of at.reader = rw c.in-Some-Ok.field-0-is at c.in-Some-Ok.ensures.given in
    let rest = drop 1 at.reader.frames in
    let whole : at.invariant.given ++ x ∷ rest ≡ c.args.reader.now.frames = ap (λ l. at.invariant.given ++ l) (sym (first_left at.reader x next)) ∙ at.invariant.whole in
    last_one g.S.EventNode.output (g.S.EventNode.text s) s (λ e. Comes (FrameCame e)) at.invariant.given x rest c.args.reader.now.frames life (Some c.in-Some.end)
    (g.O.Sink.written c.args.out.now) (g.O.Sink.written at.out) (g.O.Sink.written c.do_frame.new.out) (g.L.Link.told c.args.link.now) (g.L.Link.told at.link)
    (g.L.Link.told c.do_frame.new.link)
    (HoldsBy g.S.EventNode c.args.inner.now at.inner s life)
    (HoldsBy g.S.EventNode c.args.inner.now c.do_frame.new.inner s life)
    whole c.in-Some.ensures.ends.within (at.invariant.tells s life stands up)
    (λ mid lives on. carried g.S.EventNode s g.S.EventNode.output (g.S.EventNode.text s)
    c.args.inner.now at.inner c.do_frame.new.inner life mid _ _ _ _ _ _ lives (c.in-Some.ensures.says s mid lives.stands on))

pub frames-smaller : goal.frames-smaller
frames-smaller g c =
    let at = c.frames in
    let x = shown c.in-Some-Ok.frame in
    let next : Some (Ok x) ≡ next_of at.reader = rw c.in-Some-Ok.field-0-is at c.in-Some-Ok.ensures.given in
    shorter c.next.follows.lender-at-none at.reader x (sym next) c.next.follows.holds-at-none

pub frames-preserved : goal.frames-preserved
frames-preserved g c =
    let at = c.frames in
    let x = shown c.in-Some-Ok.frame in
    let next : Some (Ok x) ≡ next_of at.reader = rw c.in-Some-Ok.field-0-is at c.in-Some-Ok.ensures.given in
    let left = c.next.follows.lender-at-none in
    let after = c.next.follows.holds-at-none in
    let first : x ∷ left.frames ≡ at.reader.frames = ap (λ s. x ∷ s.frames) after ∙ sym (first_left at.reader x next) in
    record {
      given = at.invariant.given ++ x ∷ [];
      whole = append_assoc at.invariant.given (x ∷ []) left.frames ∙ ap (λ l. at.invariant.given ++ l) first ∙ at.invariant.whole;
      ending = ap (λ s. s.ending) after ∙ at.invariant.ending;
      tells = λ s life stands up. then_one g.S.EventNode.output (g.S.EventNode.text s) s (λ e. Comes (FrameCame e)) at.invariant.given x life None
          _ _ _ _ _ _ (HoldsBy g.S.EventNode c.args.inner.now at.inner s life) (HoldsBy g.S.EventNode c.args.inner.now c.do_frame.new.inner s life)
          (at.invariant.tells s life stands up)
          (λ mid lives on. carried g.S.EventNode s g.S.EventNode.output (g.S.EventNode.text s)
          c.args.inner.now at.inner c.do_frame.new.inner life mid _ _ _ _ _ _ lives (c.in_default.ensures.says s mid lives.stands on));
      causes = causes_more None _ _ _ _ _ _ _ _ _ at.invariant.causes c.in_default.ensures.ends.causes;
      asked = c.do_frame.ensures.ends.asked ∙ at.invariant.asked;
    }
