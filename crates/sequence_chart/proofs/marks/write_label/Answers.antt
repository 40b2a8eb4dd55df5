use Rattle.std.proofs.Common.{◌≤◌, List, ℕ, arith, ap, ◌∙◌, length}
use Rattle.sequence_chart.specs.Labels.{label_of, label_words}
use Rattle.sequence_chart.proofs.Marked.{label_written}
use Rattle.sequence_chart.proofs.Texts.{capped_few}
use Rattle.sequence_chart.proofs.marks.write_label.Goals as goal

pub write_paper-requires : goal.write_paper-requires
write_paper-requires c =
    let line = c.args.line.now in
    let few : length (label_of line) ≤ 48 = capped_few 46 (label_words line.text line.said) in
    omega (arith, c.len.ensures, ap length c.in_ok-label.ensures, few)

pub returns : goal.returns
returns c =
    label_written c.write_label_text.result c.args.left c.args.row c.y_of-y.result c.len.result c.args.line.now
    c.args.text.now c.write_mark.new.text c.write_paper.new.text c.write_label_text.new.text
    c.y_of-y.ensures (c.len.ensures ∙ ap (λ (t : List ℕ). length t) c.in_ok-label.ensures)
    c.in_ok-write_mark.ensures c.in_ok-write_paper.ensures c.write_label_text.ensures
