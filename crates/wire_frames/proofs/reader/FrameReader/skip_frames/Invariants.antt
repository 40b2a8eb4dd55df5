use Rattle.std.proofs.Common.{◌≡◌, length}
use Rattle.wire_frames.specs.Buffers.{left_in}
use Rattle.wire_frames.proofs.reader.FrameReader.skip_frames.Given as goal

abbrev pub invariant-loop-fault : goal.invariant-loop-fault
invariant-loop-fault l = (left_in l.self-inside.buffer).ending ≡ l.fn.self.ending

abbrev pub decreases-loop-fault : goal.decreases-loop-fault
decreases-loop-fault l = length (left_in l.self-inside.buffer).frames
