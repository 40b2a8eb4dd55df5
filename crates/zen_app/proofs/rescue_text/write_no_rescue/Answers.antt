use Rattle.text.proofs.Written.{three_written}
use Rattle.zen_app.proofs.rescue_text.write_no_rescue.Goals as goal

pub returns : goal.returns
returns c = three_written c.word-2.result c.args.text.now c.word.new.self c.write_why.new.text c.word-2.new.self _ _ _ c.in_ok-word.ensures c.in_ok-write_why.ensures c.word-2.ensures
