use Rattle.wire_frames.proofs.Cutting.{stream-append}
use Rattle.wire_frames.proofs.laws.law_cut.Goals as goal

pub returns : goal.returns
returns c = stream-append
