use Rattle.std.proofs.Common.{◌≡◌, ◌++◌, length, None}
use Rattle.std.specs.Vec.Iter.{into_iter_items, into_iter_len}
use Rattle.policy_model.specs.declared.settings.Settings.{Settings}
use Rattle.policy_model.specs.Entries.{Life}
use Rattle.node_loop.specs.Connections.{of_lines, makes}
use Rattle.node_loop.specs.Nodes.{HoldsBy}
use Rattle.node_loop.specs.WritesAndSends.{WritesAndSends, HasCauses, IsUp}
use Rattle.node_loop.proofs.node.do_lines.Given as goal

abbrev pub invariant-loop-line : goal.invariant-loop-line
invariant-loop-line g l = record {
  whole : l.yielded ++ into_iter_items l.line-iterator ≡ into_iter_items l.initial.line-iterator;
  count : into_iter_len l.line-iterator ≡ length (into_iter_items l.line-iterator);
  tells : (s : Settings) (life : Life) → g.S.EventNode.stands_for l.fn.inner s life → IsUp life
      → WritesAndSends g.S.EventNode.output (g.S.EventNode.text s) s life (makes (of_lines l.conn l.yielded)) None (g.O.Sink.written l.fn.out) (g.O.Sink.written l.out) (g.L.Link.told l.fn.link) (g.L.Link.told l.link) (HoldsBy g.S.EventNode l.fn.inner l.inner s life);
  causes : HasCauses None (g.S.EventNode.faults l.fn.inner) (g.S.EventNode.faults l.inner) (g.O.Sink.faults l.fn.out) (g.O.Sink.faults l.out) (g.L.Link.faults l.fn.link) (g.L.Link.faults l.link);
  asked : g.L.Link.asked l.link ≡ g.L.Link.asked l.fn.link;
}
