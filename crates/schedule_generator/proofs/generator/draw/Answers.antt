use Rattle.schedule_generator.proofs.Words.{drawn, left}
use Rattle.schedule_generator.proofs.generator.draw.Goals as goal

pub returns-clause-drawn : goal.returns-clause-drawn
returns-clause-drawn c = drawn c.args.words.now _ _ _ _ _ _ c.next_word-first.ensures c.next_word-second.ensures c.next_word-third.ensures

pub returns-clause-rest : goal.returns-clause-rest
returns-clause-rest c = left c.args.words.now _ _ _ _ _ _ c.next_word-first.ensures c.next_word-second.ensures c.next_word-third.ensures
