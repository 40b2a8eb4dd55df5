use Rattle.std.proofs.Common.{◌≡◌, false, rules}
use Rattle.std.proofs.lemmas.Result.{IfOk-weaker}
use Rattle.clap.specs.Words.{rule_of}
use Rattle.command_line.specs.Given.{option}
use Rattle.command_line.specs.Program.{raw}
use Rattle.command_line.proofs.Adding.{one_more}
use Rattle.command_line.proofs.shape.with_option.Goals as goal

pub returns : goal.returns
returns c =
    let is : rule_of c.long.result ≡ raw (option c.args.name.now) = search rules in
    let local : c.long.result.global ≡ false = search rules in
    IfOk-weaker c.arg.result _ _ (λ r h. one_more c.args.command r c.long.result (raw (option c.args.name.now)) local is h) c.arg.ensures
