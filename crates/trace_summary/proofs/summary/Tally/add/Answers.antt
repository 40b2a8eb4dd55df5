use Rattle.std.proofs.Common.{ap, ◌∙◌, arith, length-append}
use Rattle.trace_summary.specs.Counted.{after_lines, lines_of}
use Rattle.trace_summary.specs.declared.counts.Counts.{Counts}
use Rattle.trace_summary.proofs.Lines.{pieces_join}
use Rattle.trace_summary.proofs.summary.Tally.add.Goals as goal

pub returns : goal.returns
returns c text ends t = record {
  counts_are = c.in_ok-self.ensures ∙ ap (λ (x : Counts). after_lines x (lines_of c.args.piece.now)) t.counts_are ∙ pieces_join text c.args.piece.now ends;
  bytes_are = omega (arith, t.bytes_are, length-append text c.args.piece.now);
  hashed = c.update.ensures text t.hashed;
}
