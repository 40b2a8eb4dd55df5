use Rattle.std.proofs.Common.{refl, ◌∙◌}
use Rattle.node_loop.specs.Happenings.{Ends}
use Rattle.policy_model.specs.Entries.{Gone}
use Rattle.node_loop.specs.declared.node.End.TheVariants as ends
use Rattle.node_loop.proofs.Appending.{cut_none, cut_part}
use Rattle.node_loop.proofs.Telling.{grows_none}
use Rattle.node_loop.proofs.Doing.{idle_said, idle_part}
use Rattle.node_loop.specs.Nodes.{HoldsBy}
use Rattle.node_loop.proofs.Leaving.{holds_still, holds_idle}
use Rattle.node_loop.proofs.node.report_gone.Goals as goal

pub returns-in_default-clause-says : goal.returns-in_default-clause-says
returns-in_default-clause-says g c s life stands up =
    idle_part (λ n s2 l. HoldsBy g.S.EventNode c.args.inner.now n s2 life l) g.S.EventNode.output (g.S.EventNode.text s) s life c.args.inner.now
    (holds_idle g.S.EventNode s g.met.S.EventNode.idle c.args.inner.now life) (Ends c.args.conn) (Gone c.args.conn) tt up (holds_still g.S.EventNode s c.args.inner.now life stands) refl
    ends.Memory (g.O.Sink.written c.args.out.now) (g.O.Sink.written c.args.out.now) (g.L.Link.told c.args.link.now) refl
    (cut_none (g.O.Sink.written c.args.out.now) (g.S.EventNode.text s life (Gone c.args.conn)))

pub returns-in_default-write_all-clause-says : goal.returns-in_default-write_all-clause-says
returns-in_default-write_all-clause-says g c s life stands up =
    idle_part (λ n s2 l. HoldsBy g.S.EventNode c.args.inner.now n s2 life l) g.S.EventNode.output (g.S.EventNode.text s) s life c.args.inner.now
    (holds_idle g.S.EventNode s g.met.S.EventNode.idle c.args.inner.now life) (Ends c.args.conn) (Gone c.args.conn) tt up (holds_still g.S.EventNode s c.args.inner.now life stands) refl
    ends.Write (g.O.Sink.written c.args.out.now) (g.O.Sink.written c.write_all.new.out) (g.L.Link.told c.args.link.now) refl
    (cut_part _ _ _ (rw (c.as_bytes.ensures ∙ c.in-Ok.ensures s life) at c.in_default-write_all.ensures.part))

pub returns-clause-says : goal.returns-clause-says
returns-clause-says g c s life stands up =
    idle_said (λ n s2 l. HoldsBy g.S.EventNode c.args.inner.now n s2 life l) g.S.EventNode.output (g.S.EventNode.text s) s life c.args.inner.now
    (holds_idle g.S.EventNode s g.met.S.EventNode.idle c.args.inner.now life) (Ends c.args.conn) (Gone c.args.conn) tt up (holds_still g.S.EventNode s c.args.inner.now life stands) refl
    (g.O.Sink.written c.args.out.now) (g.O.Sink.written c.write_all.new.out) (g.L.Link.told c.args.link.now) (g.L.Link.told c.args.link.now)
    (rw (c.as_bytes.ensures ∙ c.in-Ok.ensures s life) at c.in-Ok-write_all.ensures.writes)
    (grows_none g.S.EventNode.output (g.L.Link.told c.args.link.now) (g.L.Link.told c.args.link.now) refl)
