use Rattle.text.proofs.Written.{head_tail, ids_written}
use Rattle.text.proofs.text.Text.ids.Goals as goal

pub returns : goal.returns
returns c = ids_written c.args.ids.now _ c.first-item.result c.loop-id.id-index c.args.self.now c.lent_id.new.self c.loop-id.self (head_tail c.args.ids.now c.first-item.result c.in-len1-up.len_at_least c.first-item.is) c.in_ok-lent_id.ensures c.loop-id-test.false c.loop-id.invariant
