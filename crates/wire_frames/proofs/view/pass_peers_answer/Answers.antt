use Rattle.wire_frames.proofs.Viewing.{answer_passed}
use Rattle.wire_frames.proofs.view.pass_peers_answer.Goals as goal

pub returns : goal.returns
returns c = answer_passed c.args.reader.now _ _ _ _ _ _ c.in_ok-optional_id.ensures c.in_ok-term.ensures c.in_ok-pass_ids.ensures.1
