use Rattle.std.proofs.Common.{codes}
use Rattle.text.proofs.Written.{three_written}
use Rattle.sequence_chart.specs.Elements.{at_place, end_at}
use Rattle.sequence_chart.proofs.arrows.write_end.Goals as goal

pub returns : goal.returns
unfolding end_at
returns c =
    three_written c.word-2.result c.args.text.now c.word.new.self c.write_place.new.text c.word-2.new.self (codes "</path><use href='#end' class='end") (at_place c.args.x c.args.y) (codes "/>\n")
    c.in_ok-word.ensures c.in_ok-write_place.ensures c.word-2.ensures
