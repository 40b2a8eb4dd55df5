use Rattle.std.proofs.Common.{◌∙◌, map, Some, None}
use Rattle.command_line.specs.Lists.{with_new_id}
use Rattle.command_line.proofs.Listing.{all_ids, item_step}
use Rattle.command_line.proofs.lists.set_of.Goals as goal

pub loop-item-init : goal.loop-item-init
loop-item-init c = rw c.new-ids.ensures (all_ids (map (λ t. t.now) c.args.items.now))

pub loop-item-preserved : goal.loop-item-preserved
loop-item-preserved c = item_step with_new_id c.args.items.now c.loop-item.item-index _ c.loop-item.ids (Some c.in_ok-ids.ids) _ c.loop-item-test.true c.in_ok-ids.ensures c.loop-item.invariant

pub returns-in_err-ids : goal.returns-in_err-ids
returns-in_err-ids c = c.from_residual.ensures ∙ item_step with_new_id c.args.items.now c.loop-item.item-index _ c.loop-item.ids None _ c.loop-item-test.true c.in_err-ids.ensures c.loop-item.invariant
