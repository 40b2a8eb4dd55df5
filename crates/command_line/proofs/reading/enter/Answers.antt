use Rattle.command_line.proofs.Answering.{entered_gives}
use Rattle.command_line.proofs.reading.enter.Goals as goal

pub returns-in-Some : goal.returns-in-Some
returns-in-Some c = entered_gives c.args.matches.now c.in-Some.matches.now c.in-Some.name.now c.by_name.result c.in-Some.ensures.name c.in-Some.ensures.rows c.by_name.ensures
