use Rattle.std.proofs.Common.{Result, subst, sym}
use Rattle.schedule_text.specs.declared.fault.WhyBad.{WhyBad}
use Rattle.schedule_text.specs.declared.schedule.Line.{Line}
use Rattle.schedule_text.specs.Answers.{Answers}
use Rattle.schedule_text.proofs.Verbs.{delivers}
use Rattle.schedule_text.proofs.lines.read_line.Goals as goal

pub returns-in-Some : goal.returns-in-Some
returns-in-Some c = subst (λ (read : Result Line WhyBad). Answers c.deliver.result read) (sym (delivers c.args.level c.args.ids.now c.args.bytes.now _ c.in-Some.ensures)) c.deliver.ensures
