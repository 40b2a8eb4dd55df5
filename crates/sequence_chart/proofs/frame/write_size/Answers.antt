use Rattle.std.proofs.Common.{◌++◌, codes, decimal}
use Rattle.sequence_chart.specs.Frame.{size}
use Rattle.sequence_chart.proofs.Turns.{last_written, then_written}
use Rattle.sequence_chart.proofs.frame.write_size.Goals as goal

pub returns : goal.returns
unfolding size
returns c =
    let old = c.args.text.now in
    let begin = codes "<svg xmlns='http://www.w3.org/2000/svg' xml:space='preserve' width='" in
    let wide = begin ++ decimal c.args.width in
    let high = wide ++ codes "' height='" in
    let sized = high ++ decimal c.args.height in
    let two = then_written old c.word.new.self c.number.new.self begin (decimal c.args.width) c.in_ok-word.ensures c.in_ok-number.ensures in
    let three = then_written old c.number.new.self c.word-2.new.self wide (codes "' height='") two c.in_ok-word-2.ensures in
    let four = then_written old c.word-2.new.self c.number-2.new.self high (decimal c.args.height) three c.in_ok-number-2.ensures in
    last_written c.word-3.result old c.number-2.new.self c.word-3.new.self sized (codes "' viewBox='0 0 ") four c.word-3.ensures
