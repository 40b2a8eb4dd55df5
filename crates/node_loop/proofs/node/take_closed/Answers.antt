use Rattle.std.proofs.Common.{refl}
use Rattle.zen_link.specs.declared.link.Input.TheVariants.{Closed}
use Rattle.node_loop.specs.Intakes.{Read}
use Rattle.node_loop.proofs.Turning.{closed_reads}
use Rattle.node_loop.proofs.node.take_closed.Goals as goal

pub returns-clause-takes : goal.returns-clause-takes
returns-clause-takes g c s life intakes stands up reads = record {
  intake = Read (Closed c.args.conn);
  is = refl;
  tells = c.report_gone.ensures.says s life stands up;
  reads = closed_reads c.args.connections.now c.close_at.new.connections c.args.conn intakes c.requires.all reads c.close_at.ensures;
}
