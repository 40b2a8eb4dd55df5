use Rattle.std.proofs.Common.{◌≡◌, ◌++◌, List, length, None}
use Rattle.policy_model.specs.declared.settings.Settings.{Settings}
use Rattle.policy_model.specs.Entries.{Life}
use Rattle.wire_frames.specs.declared.frame.Frame.{Frame}
use Rattle.node_loop.specs.Connections.{of_frames, makes}
use Rattle.node_loop.specs.Nodes.{HoldsBy}
use Rattle.node_loop.specs.WritesAndSends.{WritesAndSends, HasCauses, IsUp}
use Rattle.node_loop.proofs.node.do_frames.Given as goal

abbrev pub invariant-frames : goal.invariant-frames
invariant-frames g l = record {
  given : List Frame;
  whole : given ++ l.reader.frames ≡ l.fn.reader.frames;
  ending : l.reader.ending ≡ l.fn.reader.ending;
  tells : (s : Settings) (life : Life) → g.S.EventNode.stands_for l.fn.inner s life → IsUp life
      → WritesAndSends g.S.EventNode.output (g.S.EventNode.text s) s life (makes (of_frames given)) None (g.O.Sink.written l.fn.out) (g.O.Sink.written l.out) (g.L.Link.told l.fn.link) (g.L.Link.told l.link) (HoldsBy g.S.EventNode l.fn.inner l.inner s life);
  causes : HasCauses None (g.S.EventNode.faults l.fn.inner) (g.S.EventNode.faults l.inner) (g.O.Sink.faults l.fn.out) (g.O.Sink.faults l.out) (g.L.Link.faults l.fn.link) (g.L.Link.faults l.link);
  asked : g.L.Link.asked l.link ≡ g.L.Link.asked l.fn.link;
}

abbrev pub decreases-frames : goal.decreases-frames
decreases-frames g l = length l.reader.frames
