use Rattle.wire_frames.proofs.Spelled.{one_frame}
use Rattle.wire_frames.proofs.laws.law_one_frame.Goals as goal

pub returns : goal.returns
returns c = one_frame
