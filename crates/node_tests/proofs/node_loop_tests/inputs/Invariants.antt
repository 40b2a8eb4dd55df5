use Rattle.std.specs.Prelude.{IsTrue}
use Rattle.std.specs.List.{list_all}
use Rattle.zen_link.specs.Told.{has_low_conn}
use Rattle.node_tests.proofs.node_loop_tests.inputs.Given as goal

abbrev pub invariant-loop-comes : goal.invariant-loop-comes
invariant-loop-comes l = IsTrue (list_all has_low_conn l.inputs.items)
