use Rattle.wire_frames.proofs.Splitting.{stream_of_split, split_of_stream}
use Rattle.wire_frames.proofs.laws.law_stream.Goals as goal

pub returns : goal.returns
returns c = λ bytes frames ending all. (split_of_stream bytes frames ending all, stream_of_split frames bytes ending)
