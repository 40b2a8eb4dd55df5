use Rattle.std.proofs.lemmas.Result.{IfOk-weaker}
use Rattle.command_line.proofs.Adding.{added}
use Rattle.command_line.proofs.shape.with_command.Goals as goal

pub returns-in-Ok : goal.returns-in-Ok
returns-in-Ok c = λ app form is leaf. IfOk-weaker c.subcommand.result _ _ (λ r h. added c.args.program c.in-Ok.command r app form is (rw c.in-Ok.is at leaf) h) c.subcommand.ensures
