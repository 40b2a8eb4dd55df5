use Rattle.std.proofs.Common.{arith}
use Rattle.std.proofs.lemmas.List.{take_all}
use Rattle.command_line.proofs.Adding.{option_more}
use Rattle.command_line.proofs.shape.leaf.Goals as goal

pub loop-option-preserved : goal.loop-option-preserved
loop-option-preserved c =
    option_more c.args.name.now c.args.options.now c.loop-option.option-index _ c.loop-option.command c.in_ok-command.command c.loop-option-test.true c.loop-option.invariant c.in_ok-command.ensures

pub returns : goal.returns
returns c = rw (take_all c.loop-option.option-index c.args.options.now (omega arith)) at c.loop-option.invariant
