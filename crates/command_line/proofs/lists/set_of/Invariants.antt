use Rattle.std.proofs.Common.{◌≡◌, drop, map}
use Rattle.command_line.specs.Lists.{set_in, with_new_id}
use Rattle.command_line.proofs.Listing.{all_put}
use Rattle.command_line.proofs.lists.set_of.Given as goal

abbrev pub invariant-loop-item : goal.invariant-loop-item
invariant-loop-item l = all_put with_new_id (map (λ t. t.now) (drop l.item-index l.items)) l.ids ≡ set_in (map (λ t. t.now) l.items)
