use Rattle.std.proofs.Common.{refl, subst}
use Rattle.zen_link.specs.declared.link.Input.TheVariants.{Bytes}
use Rattle.node_loop.specs.Intakes.{Read, Unread}
use Rattle.node_loop.specs.Connections.{makes}
use Rattle.node_loop.specs.WritesAndSends.{WritesAndSends}
use Rattle.node_loop.proofs.Turning.{fed_reads, unread_reads}
use Rattle.node_loop.specs.Nodes.{HoldsBy}
use Rattle.node_loop.proofs.node.take_bytes.Goals as goal

pub returns-in-Ok-clause-takes : goal.returns-in-Ok-clause-takes
returns-in-Ok-clause-takes g c s life intakes stands up reads =
    let fed = fed_reads c.args.connections.now c.feed_at.new.connections c.take_came.new.connections c.args.conn c.args.bytes.now c.in-Ok.came intakes c.requires.all c.requires.low reads c.in-Ok.ensures.ok c.take_came.ensures.kept in
    record {
      intake = Read (Bytes c.args.conn c.args.bytes.now);
      is = refl;
      tells = subst
          (λ h. WritesAndSends g.S.EventNode.output (g.S.EventNode.text s) s life (makes h) c.take_came.result (g.O.Sink.written c.args.out.now) (g.O.Sink.written c.take_came.new.out) (g.L.Link.told c.args.link.now) (g.L.Link.told c.take_came.new.link) (HoldsBy g.S.EventNode c.args.inner.now c.take_came.new.inner s life))
          fed.0 (c.take_came.ensures.says s life stands up);
      reads = fed.1;
    }

pub returns-in-Err-clause-takes : goal.returns-in-Err-clause-takes
returns-in-Err-clause-takes g c s life intakes stands up reads = record {
  intake = Unread c.args.conn c.args.bytes.now;
  is = refl;
  tells = c.report_unread.ensures.says s life stands up;
  reads = unread_reads c.args.connections.now c.feed_at.new.connections c.args.conn c.args.bytes.now intakes c.requires.all reads c.in-Err.ensures.err;
}
