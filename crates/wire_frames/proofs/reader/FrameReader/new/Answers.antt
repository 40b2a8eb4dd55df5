use Rattle.std.proofs.Common.{◌∙◌}
use Rattle.wire_frames.proofs.Cutting.{stream-empty}
use Rattle.wire_frames.proofs.reader.FrameReader.new.Goals as goal

pub returns-clause-empty : goal.returns-clause-empty
returns-clause-empty c = c.new.ensures ∙ stream-empty
