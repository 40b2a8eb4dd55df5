use Rattle.std.proofs.Common.{◌≡◌, drop}
use Rattle.zen_app.specs.Choosing.{found_in}
use Rattle.zen_app.proofs.choosing.found.Given as goal

abbrev pub invariant-loop-node : goal.invariant-loop-node
invariant-loop-node l = found_in l.nodes l.id ≡ found_in (drop l.node-index l.nodes) l.id
