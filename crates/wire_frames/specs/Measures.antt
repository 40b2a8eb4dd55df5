-- For the contracts inside: what the length that stands first in bytes says.
use Rattle.std.specs.Prelude.{◌≡◌, ℕ, ◌≤◌, length, take, drop, List, Option, Some, None, Result, Ok, Err}
use Rattle.wire_frames.specs.declared.fault.FrameError.TheVariants.{TooLong}
use Rattle.wire_frames.specs.declared.buffer.BodyLength.{BodyLength}
use Rattle.wire_frames.specs.declared.buffer.BodyLength.TheVariants as body
use Rattle.wire_frames.specs.Frames.{frame_of}
use Rattle.wire_frames.specs.declared.fault.FrameError.{FrameError}
use Rattle.wire_frames.specs.declared.frame.Frame.{Frame}
use Rattle.wire_frames.specs.Streams.{Unfinished, Faulty, Whole, prefix_with, prefix_of}

abbrev pub Measures : BodyLength → List ℕ → Type 0
Measures body.Unfinished bytes = prefix_of bytes ≡ Unfinished
Measures body.TooLong bytes = prefix_of bytes ≡ Faulty TooLong
Measures (body.Whole size) bytes = (4 ≤ length bytes) × (size ≤ length (drop 4 bytes))
    × (prefix_of bytes ≡ prefix_with (frame_of (take size (drop 4 bytes))) (drop size (drop 4 bytes)))

-- a frame of so many bytes stands first
pub record IsFramed (bytes : List ℕ) (used : ℕ) : Type 0 where
  pub frame : Frame
  pub long : 4 ≤ used
  pub within : used ≤ length bytes
  pub body : frame_of (drop 4 (take used bytes)) ≡ Ok frame
  pub prefix : prefix_of bytes ≡ Whole frame (drop used bytes)

-- what stands first: nothing whole, a fault, or a frame of so many bytes
abbrev pub Looks : Option (Result ℕ FrameError) → List ℕ → Type 0
Looks None bytes = prefix_of bytes ≡ Unfinished
Looks (Some (Err fault)) bytes = prefix_of bytes ≡ Faulty fault
Looks (Some (Ok used)) bytes = IsFramed bytes used
