-- For the contracts inside: the bytes in a reader, behind the frame that it gave last.
use Rattle.std.specs.Prelude.{◌≡◌, ◌≤◌, take, drop, Option, Some, None, Result, Ok, Err}
use Rattle.wire_frames.specs.declared.fault.FrameError.{FrameError}
use Rattle.wire_frames.specs.declared.frame.Frame.{Frame}
use Rattle.wire_frames.specs.declared.buffer.Buffer.{Buffer}
use Rattle.wire_frames.specs.Frames.{frame_of}
use Rattle.wire_frames.specs.Streams.{Stream, stream, next_of, after_next}

-- the stream of what is left
abbrev pub left_in : Buffer → Stream
left_in b = stream (drop b.given b.bytes.items)

-- a frame stands first, and is given
pub record Gives (now : Buffer) (was : Stream) : Type 0 where
  pub frame : Frame
  pub long : 4 ≤ now.given
  pub body : frame_of (drop 4 (take now.given now.bytes.items)) ≡ Ok frame
  pub next : next_of was ≡ Some (Ok frame)
  pub left : left_in now ≡ after_next was

-- what was found, once past the last frame, and what is left now
abbrev pub Advances : {U : Type 0} → Option (Result U FrameError) → (now : Buffer) → (was : Stream) → Type 0
Advances {U} None now was = (next_of was ≡ None) × (left_in now ≡ was)
Advances {U} (Some (Err fault)) now was = (next_of was ≡ Some (Err fault)) × (left_in now ≡ was)
Advances {U} (Some (Ok u)) now was = Gives now was
