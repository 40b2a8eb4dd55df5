use Rattle.std.proofs.Common.{◌≡◌, ◌∙◌, Some, sym, ap}
use Rattle.std.proofs.lemmas.List.{map-append}
use Rattle.wire_frames.specs.Streams.{fault_in}
use Rattle.node_loop.specs.Happenings.{Makes}
use Rattle.node_loop.specs.Connections.{of_frames, of_fault, makes}
use Rattle.node_loop.proofs.Telling.{joined, cut_short}
use Rattle.node_loop.specs.Nodes.{HoldsBy}
use Rattle.node_loop.proofs.Leaving.{carried}
use Rattle.node_loop.proofs.node.take_frames.Goals as goal

pub returns-in-Some-clause-says : goal.returns-in-Some-clause-says
returns-in-Some-clause-says g c s life stands up =
    let stood = HoldsBy g.S.EventNode c.args.inner.now c.do_frames-end.new.inner s life in
    rw (map-append Makes (of_frames c.args.reader.frames) (of_fault c.args.conn (fault_in c.args.reader.ending)))
    (cut_short g.S.EventNode.output (g.S.EventNode.text s) s life (makes (of_frames c.args.reader.frames)) (of_fault c.args.conn (fault_in c.args.reader.ending)) (Some c.in-Some.end)
    (g.O.Sink.written c.args.out.now) (g.O.Sink.written c.do_frames-end.new.out) (g.L.Link.told c.args.link.now) (g.L.Link.told c.do_frames-end.new.link) stood
    c.in-Some.ensures.ends.within (c.in-Some.ensures.says s life stands up))

pub returns-clause-says : goal.returns-clause-says
returns-clause-says g c s life stands up =
    let stood = HoldsBy g.S.EventNode c.args.inner.now c.do_frames-end.new.inner s life in
    let fault = c.keep_at-fault.result in
    let same : fault_in c.args.reader.ending ≡ fault = sym (c.keep_at-fault.ensures.fault ∙ ap fault_in c.do_frames-end.ensures.left) in
    rw (same, map-append Makes (of_frames c.args.reader.frames) (of_fault c.args.conn fault))
    (joined g.S.EventNode.output (g.S.EventNode.text s) s life (makes (of_frames c.args.reader.frames)) (makes (of_fault c.args.conn fault)) c.report_fault.result
    (g.O.Sink.written c.args.out.now) (g.O.Sink.written c.do_frames-end.new.out) (g.O.Sink.written c.report_fault.new.out)
    (g.L.Link.told c.args.link.now) (g.L.Link.told c.do_frames-end.new.link) (g.L.Link.told c.report_fault.new.link) stood stood
    (c.in_default.ensures.says s life stands up)
    (λ mid lives on. carried g.S.EventNode s g.S.EventNode.output (g.S.EventNode.text s)
    c.args.inner.now c.do_frames-end.new.inner c.do_frames-end.new.inner life mid _ _ _ _ _ _ lives (c.report_fault.ensures.says s mid lives.stands on)))
