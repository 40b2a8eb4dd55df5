use Rattle.wire_frames.proofs.view.pass_plain.Goals as goal

pub returns : goal.returns
returns c = (_, c.in_ok-plain_message.ensures.read)
