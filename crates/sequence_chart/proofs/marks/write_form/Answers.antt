use Rattle.std.proofs.Common.{codes}
use Rattle.text.proofs.Written.{three_written}
use Rattle.sequence_chart.specs.Elements.{form, mark_of}
use Rattle.sequence_chart.proofs.marks.write_form.Goals as goal

pub returns : goal.returns
unfolding form
returns c =
    rw (← c.mark_of.ensures)
    (three_written c.word-3.result c.args.text.now c.word.new.self c.word-2.new.self c.word-3.new.self (codes "<use href='#") c.mark_of.result.now (codes "'")
    c.in_ok-word.ensures c.in_ok-word-2.ensures c.word-3.ensures)
