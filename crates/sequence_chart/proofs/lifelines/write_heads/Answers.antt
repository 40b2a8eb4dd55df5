use Rattle.sequence_chart.specs.Lifelines.{head}
use Rattle.sequence_chart.proofs.Turns.{item_written}
use Rattle.sequence_chart.proofs.lifelines.write_heads.Goals as goal

pub loop-column-preserved : goal.loop-column-preserved
loop-column-preserved c =
    item_written (head c.args.y) c.args.columns.now c.loop-column.column-index c.column-item.result c.loop-column.text c.write_head.new.text _
    c.loop-column-test.true c.column-item.is c.loop-column.invariant c.in_ok-write_head.ensures
