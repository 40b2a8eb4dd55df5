use Rattle.std.proofs.Common.{◌≡◌, [], drop}
use Rattle.sequence_chart.specs.Messages.{handed_from}
use Rattle.sequence_chart.proofs.messages.handed_of.Given as goal

abbrev pub invariant-loop-line : goal.invariant-loop-line
invariant-loop-line l = handed_from l.flags.items (drop l.line-index l.lines) ≡ handed_from [] l.lines
