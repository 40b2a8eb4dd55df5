use Rattle.std.proofs.Common.{ℕ, ◌+◌, ap, ◌∙◌}
use Rattle.sequence_chart.specs.Columns.{columns_from}
use Rattle.sequence_chart.specs.Rows.{y_of}
use Rattle.sequence_chart.proofs.Drawn.{drawn}
use Rattle.sequence_chart.proofs.chart.write_chart.Goals as goal

pub returns : goal.returns
returns c =
    let lines = c.args.lines.now in
    drawn c.in_ok-left.left c.as_slice-columns.result.now c.as_slice-2.result.now c.as_slice-3.result.now c.as_slice-4.result.now
    (c.last_row-bottom.result + 1) (c.y_of-below.result + 14) lines
    (c.in_ok-columns.width + 8) (c.y_of-below.result + 14 + 10) c.new-text.result c.write_frame.new.text c.write_event_rows.new.text c.write_lifelines.new.text c.write_arrows.new.text c.write_all_lost.new.text c.write_labels.new.text
    c.write_heads.new.text c.write_heads-2.new.text c.end_frame.new.text
    (c.as_slice-columns.ensures.value ∙ c.in_ok-columns.ensures.is ∙ ap (λ ns. columns_from c.in_ok-left.left ns lines) c.nodes_of.ensures)
    (c.as_slice-2.ensures.value ∙ c.in_ok-origins.ensures)
    (c.as_slice-3.ensures.value ∙ c.in_ok-origins.ensures)
    (c.as_slice-4.ensures.value ∙ c.in_ok-handed.ensures)
    (ap (λ (n : ℕ). n + 1) c.last_row-bottom.ensures.is)
    (ap (λ (n : ℕ). n + 14) c.y_of-below.ensures)
    c.new-text.ensures c.in_ok-write_frame.ensures c.in_ok-write_event_rows.ensures c.in_ok-write_lifelines.ensures c.in_ok-write_arrows.ensures c.in_ok-write_all_lost.ensures c.in_ok-write_labels.ensures
    c.in_ok-write_heads.ensures c.in_ok-write_heads-2.ensures c.in_ok-end_frame.ensures
