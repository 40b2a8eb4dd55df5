use Rattle.std.proofs.Common.{◌≡◌, drop}
use Rattle.zen_app.specs.Choosing.{all_free}
use Rattle.zen_app.proofs.choosing.are_free.Given as goal

abbrev pub invariant-loop-id : goal.invariant-loop-id
invariant-loop-id l = all_free l.nodes l.ids ≡ all_free l.nodes (drop l.id-index l.ids)
