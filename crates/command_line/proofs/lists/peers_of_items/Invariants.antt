use Rattle.std.proofs.Common.{◌≡◌, drop, map}
use Rattle.zen_host.specs.HostCalls.{told_peer}
use Rattle.command_line.specs.Lists.{peers_in, with_new_peer}
use Rattle.command_line.proofs.Listing.{all_put}
use Rattle.command_line.proofs.lists.peers_of_items.Given as goal

abbrev pub invariant-loop-item : goal.invariant-loop-item
invariant-loop-item l = all_put with_new_peer (map (λ t. t.now) (drop l.item-index l.items)) (map told_peer l.peers.items) ≡ peers_in (map (λ t. t.now) l.items)
