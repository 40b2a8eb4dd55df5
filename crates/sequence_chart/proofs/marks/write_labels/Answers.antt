use Rattle.std.proofs.Common.{arith}
use Rattle.sequence_chart.specs.Elements.{label_in}
use Rattle.sequence_chart.proofs.Turns.{line_written}
use Rattle.sequence_chart.proofs.marks.write_labels.Goals as goal

pub loop-line-preserved : goal.loop-line-preserved
loop-line-preserved c = record {
  text = line_written (label_in c.args.columns.now) c.loop-line.cursor c.after-cursor.result c.args.lines.now c.loop-line.line-index c.line-item.result
      c.loop-line.text c.write_label_in.new.text _
      c.loop-line-test.true c.line-item.is c.after-cursor.ensures.is c.loop-line.invariant.text c.in_ok-write_label_in.ensures;
  row = omega (arith, c.after-cursor.ensures.row, c.loop-line.invariant.row);
  sent = omega (arith, c.after-cursor.ensures.sent, c.loop-line.invariant.sent);
}
