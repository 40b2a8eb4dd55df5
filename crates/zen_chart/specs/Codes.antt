-- Part of the statement of `zen_chart`: the exit status that stands for each end of a run.
use Rattle.std.specs.Prelude.{ℕ}
use Rattle.zen_chart.specs.declared.status.Status.{Status}
use Rattle.zen_chart.specs.declared.status.Status.TheVariants as exit

abbrev pub code_of : Status → ℕ
code_of exit.Ok = 0
code_of exit.Usage = 2
code_of exit.BadTrace = 3
code_of exit.NoMemory = 4
code_of exit.ReadFault = 5
code_of exit.WriteFault = 6
