use Rattle.std.proofs.Common.{sym}
use Rattle.wire_frames.proofs.Viewing.{all_passed}
use Rattle.wire_frames.proofs.view.check_rest.Goals as goal

pub returns : goal.returns
returns c = all_passed c.args.kind c.args.reader.now _ _ _ _ _ _ c.in_ok-id.ensures c.in_ok-id-2.ensures c.in_ok-pass_message.ensures.1 (sym c.if-not-is_at_end.ensures)
