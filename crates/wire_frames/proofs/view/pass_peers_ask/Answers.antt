use Rattle.wire_frames.proofs.Viewing.{ask_passed}
use Rattle.wire_frames.proofs.view.pass_peers_ask.Goals as goal

pub returns : goal.returns
returns c = ask_passed c.args.reader.now _ _ c.in_ok-pass_ids.ensures.1
