use Rattle.std.proofs.Common.{refl}
use Rattle.node_loop.specs.Happenings.{Unread}
use Rattle.policy_model.specs.Entries.{Unread as UnreadEntry}
use Rattle.zen_link.specs.declared.link.Traffic.TheVariants.{Dropped}
use Rattle.node_loop.specs.declared.node.End.TheVariants as ends
use Rattle.node_loop.proofs.Appending.{cut_part}
use Rattle.node_loop.proofs.Telling.{grows_added}
use Rattle.node_loop.proofs.Doing.{idle_said, idle_part}
use Rattle.node_loop.specs.Nodes.{HoldsBy}
use Rattle.node_loop.proofs.Leaving.{holds_still, holds_idle}
use Rattle.node_loop.proofs.node.report_unread.Goals as goal

pub returns-in_default-clause-says : goal.returns-in_default-clause-says
returns-in_default-clause-says g c s life stands up =
    idle_part (λ n s2 l. HoldsBy g.S.EventNode c.args.inner.now n s2 life l) g.S.EventNode.output (g.S.EventNode.text s) s life c.args.inner.now
    (holds_idle g.S.EventNode s g.met.S.EventNode.idle c.args.inner.now life) (Unread c.args.conn) (UnreadEntry c.args.conn) tt up (holds_still g.S.EventNode s c.args.inner.now life stands)
    refl
    ends.Write (g.O.Sink.written c.args.out.now) (g.O.Sink.written c.write_all.new.out) (g.L.Link.told c.args.link.now) refl
    (cut_part _ _ _ (rw (c.no_memory_line.ensures.unread s life c.args.conn) at c.in_default.ensures.part))

pub returns-clause-says : goal.returns-clause-says
returns-clause-says g c s life stands up =
    idle_said (λ n s2 l. HoldsBy g.S.EventNode c.args.inner.now n s2 life l) g.S.EventNode.output (g.S.EventNode.text s) s life c.args.inner.now
    (holds_idle g.S.EventNode s g.met.S.EventNode.idle c.args.inner.now life) (Unread c.args.conn) (UnreadEntry c.args.conn) tt up (holds_still g.S.EventNode s c.args.inner.now life stands)
    refl
    (g.O.Sink.written c.args.out.now) (g.O.Sink.written c.write_all.new.out) (g.L.Link.told c.args.link.now) (g.L.Link.told c.drop_conn.new.self)
    (rw (c.no_memory_line.ensures.unread s life c.args.conn) at c.in-Ok.ensures.writes)
    (grows_added g.S.EventNode.output (g.L.Link.told c.args.link.now) (g.L.Link.told c.drop_conn.new.self) (Dropped c.args.conn) _ _ c.drop_conn.ensures.drops)
