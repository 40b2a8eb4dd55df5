use Rattle.std.proofs.Common.{refl}
use Rattle.node_loop.specs.Happenings.{Comes, Refused}
use Rattle.policy_model.specs.Entries.{NoMemory}
use Rattle.node_loop.specs.declared.node.End.TheVariants as ends
use Rattle.node_loop.proofs.Appending.{cut_part}
use Rattle.node_loop.proofs.Telling.{grows_none}
use Rattle.node_loop.proofs.Doing.{idle_said, idle_part}
use Rattle.node_loop.specs.Nodes.{HoldsBy}
use Rattle.node_loop.proofs.Leaving.{holds_still, holds_idle}
use Rattle.node_loop.proofs.node.report_no_memory.Goals as goal

pub returns-in_default-clause-says : goal.returns-in_default-clause-says
returns-in_default-clause-says g c s life event told up stands =
    idle_part (λ n s2 l. HoldsBy g.S.EventNode c.args.inner.now n s2 life l) g.S.EventNode.output (g.S.EventNode.text s) s life c.args.inner.now
    (holds_idle g.S.EventNode s g.met.S.EventNode.idle c.args.inner.now life) (Comes event) NoMemory tt up (holds_still g.S.EventNode s c.args.inner.now life stands) tt
    ends.Write (g.O.Sink.written c.args.out.now) (g.O.Sink.written c.write_all.new.out) told refl (cut_part _ _ _ (rw (c.no_memory_line.ensures.none s life) at c.in_default.ensures.part))

pub returns-in_default-clause-refused : goal.returns-in_default-clause-refused
returns-in_default-clause-refused g c s life told up stands =
    idle_part (λ n s2 l. HoldsBy g.S.EventNode c.args.inner.now n s2 life l) g.S.EventNode.output (g.S.EventNode.text s) s life c.args.inner.now
    (holds_idle g.S.EventNode s g.met.S.EventNode.idle c.args.inner.now life) Refused NoMemory tt up (holds_still g.S.EventNode s c.args.inner.now life stands) tt
    ends.Write (g.O.Sink.written c.args.out.now) (g.O.Sink.written c.write_all.new.out) told refl (cut_part _ _ _ (rw (c.no_memory_line.ensures.none s life) at c.in_default.ensures.part))

pub returns-clause-says : goal.returns-clause-says
returns-clause-says g c s life event told up stands =
    idle_said (λ n s2 l. HoldsBy g.S.EventNode c.args.inner.now n s2 life l) g.S.EventNode.output (g.S.EventNode.text s) s life c.args.inner.now
    (holds_idle g.S.EventNode s g.met.S.EventNode.idle c.args.inner.now life) (Comes event) NoMemory tt up (holds_still g.S.EventNode s c.args.inner.now life stands) tt
    (g.O.Sink.written c.args.out.now) (g.O.Sink.written c.write_all.new.out) told told (rw (c.no_memory_line.ensures.none s life) at c.in-Ok.ensures.writes)
    (grows_none g.S.EventNode.output told told refl)

pub returns-clause-refused : goal.returns-clause-refused
returns-clause-refused g c s life told up stands =
    idle_said (λ n s2 l. HoldsBy g.S.EventNode c.args.inner.now n s2 life l) g.S.EventNode.output (g.S.EventNode.text s) s life c.args.inner.now
    (holds_idle g.S.EventNode s g.met.S.EventNode.idle c.args.inner.now life) Refused NoMemory tt up (holds_still g.S.EventNode s c.args.inner.now life stands) tt
    (g.O.Sink.written c.args.out.now) (g.O.Sink.written c.write_all.new.out) told told (rw (c.no_memory_line.ensures.none s life) at c.in-Ok.ensures.writes)
    (grows_none g.S.EventNode.output told told refl)
