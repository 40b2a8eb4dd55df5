use Rattle.client_lines.proofs.Ends.{ending_feed, ending_last, slice_to_end}
use Rattle.client_lines.proofs.lines.lines_in.Goals as goal

pub loop-more-preserved : goal.loop-more-preserved
loop-more-preserved c =
    let left = slice_to_end c.loop-more.seen c.args.bytes.now in
    rw (c.in_ok-push.ensures.items, c.in_ok-copied.ensures)
    (ending_feed c.loop-more.lines.items c.loop-more.used c.loop-more.seen c.in-Some.more c.args.bytes.now c.loop-more.invariant (rw left at c.in-Some.ensures.0) (rw left at c.in-Some.ensures.1))

pub returns : goal.returns
returns c =
    let left = slice_to_end c.loop-more.seen c.args.bytes.now in
    ending_last c.loop-more.lines.items c.loop-more.used c.loop-more.seen c.args.bytes.now c.loop-more.invariant (rw left at c.in_default.ensures)
