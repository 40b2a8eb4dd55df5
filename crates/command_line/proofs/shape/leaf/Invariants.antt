use Rattle.std.proofs.Common.{take}
use Rattle.command_line.specs.Program.{IsLeaf}
use Rattle.command_line.proofs.Adding.{options_of}
use Rattle.command_line.proofs.shape.leaf.Given as goal

abbrev pub invariant-loop-option : goal.invariant-loop-option
invariant-loop-option l = IsLeaf l.fn.name (options_of (take l.option-index l.options)) l.command
