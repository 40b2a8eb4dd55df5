use Rattle.std.proofs.Common.{◌≡◌, [], drop}
use Rattle.zen_app.specs.Choosing.{all_up}
use Rattle.zen_app.proofs.choosing.are_up.Given as goal

abbrev pub invariant-loop-id : goal.invariant-loop-id
invariant-loop-id l = all_up l.nodes [] l.ids ≡ all_up l.nodes l.up.items (drop l.id-index l.ids)
