use Rattle.std.proofs.Common.{sym, map, Some}
use Rattle.std.proofs.lemmas.Result.{err_from_is_err_and}
use Rattle.zen_host.specs.HostCalls.{told_peer}
use Rattle.command_line.specs.Lists.{with_new_peer}
use Rattle.command_line.proofs.Listing.{all_peers, item_step, item_fails}
use Rattle.command_line.proofs.lists.peers_of_items.Goals as goal

pub loop-item-init : goal.loop-item-init
loop-item-init c = rw c.new-peers.ensures.items (all_peers (map (λ t. t.now) c.args.items.now))

pub returns-in_err-peers : goal.returns-in_err-peers
returns-in_err-peers c =
    let p = err_from_is_err_and c.from_residual.result c.from_residual.ensures.1 in
    rw (p.1, p.2) (item_fails with_new_peer c.args.items.now c.loop-item.item-index _ (map told_peer c.loop-item.peers.items) _ c.in_err-peers.field-0.0 c.loop-item-test.true c.in_err-peers.ensures c.loop-item.invariant)

pub loop-item-preserved : goal.loop-item-preserved
loop-item-preserved c =
    item_step with_new_peer c.args.items.now c.loop-item.item-index _ (map told_peer c.loop-item.peers.items) (Some (map told_peer c.in_ok-peers.peers.items)) _ c.loop-item-test.true (sym c.in_ok-peers.ensures) c.loop-item.invariant
