use Rattle.voting_config.proofs.Splitting.{word_found, word_alone}
use Rattle.schedule_text.proofs.LineEnds.{found, nowhere}
use Rattle.schedule_text.proofs.line_ends.cut_line.Goals as goal

pub returns-in-None-clause-parts : goal.returns-in-None-clause-parts
returns-in-None-clause-parts c = word_alone _ _ (nowhere c.args.bytes.now c.in-None.ensures)

pub returns-in-Some-clause-parts : goal.returns-in-Some-clause-parts
returns-in-Some-clause-parts c = word_found _ _ c.in-Some.place (found c.args.bytes.now c.in-Some.place c.in-Some.ensures.0 c.in-Some.ensures.1)
