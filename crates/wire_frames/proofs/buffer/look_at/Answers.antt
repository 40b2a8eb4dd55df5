use Rattle.wire_frames.proofs.Carrying.{framed}
use Rattle.wire_frames.proofs.buffer.look_at.Goals as goal

pub returns-in-Ok : goal.returns-in-Ok
returns-in-Ok c = framed c.args.bytes.now _ c.args.size _ c.requires c.body_in.ensures c.in-Ok.ensures.1
