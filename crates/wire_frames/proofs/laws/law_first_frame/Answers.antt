use Rattle.wire_frames.proofs.Spelled.{first_frame}
use Rattle.wire_frames.proofs.laws.law_first_frame.Goals as goal

pub returns : goal.returns
returns c = first_frame
