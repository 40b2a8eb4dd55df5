use Rattle.node_loop.proofs.Feeding.{if_ok, fresh_frames, fresh_lines, first_is_zero, first_is_other}
use Rattle.node_loop.proofs.connection.begin.Goals as goal

pub returns-then-bytes-eq0 : goal.returns-then-bytes-eq0
returns-then-bytes-eq0 c = if_ok c.feed_frames.result
    (λ fed feeds. fresh_frames c.new.result c.args.bytes.now fed.1 fed.0 c.new.ensures.empty (first_is_zero c.args.bytes.now c.if-is_empty.ensures c.if-bytes-eq0.true) feeds)
    c.feed_frames.ensures

pub returns-else-bytes-eq0 : goal.returns-else-bytes-eq0
returns-else-bytes-eq0 c = if_ok c.feed_lines.result
    (λ fed feeds. fresh_lines c.new-else-bytes-eq0.result c.args.bytes.now fed.1 fed.0 c.new-else-bytes-eq0.ensures (first_is_other c.args.bytes.now c.if-is_empty.ensures c.if-bytes-eq0.false) feeds)
    c.feed_lines.ensures
