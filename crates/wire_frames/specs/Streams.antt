-- Part of the statement: a stream of bytes as frames.
use Rattle.std.specs.Prelude.{◌≡◌, ℕ, zero, suc, nat_lt, if◌then◌else◌, Option, Some, None, Result, Ok, Err, List, [], ◌∷◌, ◌++◌, length, take, drop}
use Rattle.std.specs.Int.{w32, from_be_bytes}
use Rattle.wire_frames.specs.declared.fault.FrameError.{FrameError}
use Rattle.wire_frames.specs.declared.fault.FrameError.TheVariants.{TooLong}
use Rattle.wire_frames.specs.declared.frame.Frame.{Frame}
use Rattle.wire_frames.specs.Frames.{most_body, frame_of}

-- what stands at the start of bytes: less than a frame, a fault, or a frame with the bytes after it
pub data Prefix : Type 0 where
  Unfinished : Prefix
  Faulty : FrameError → Prefix
  Whole : Frame → List ℕ → Prefix

-- the length that the first four bytes say
abbrev pub said_length : List ℕ → ℕ
said_length bytes = from_be_bytes w32 (take 4 bytes)

-- a body that is read, before the bytes after it
abbrev pub prefix_with : Result Frame FrameError → List ℕ → Prefix
prefix_with (Ok frame) rest = Whole frame rest
prefix_with (Err fault) rest = Faulty fault

-- what stands at the start of the bytes: nothing whole before the four bytes of the length, then too long a length, then nothing
-- whole before as many bytes of body, then what the body is
abbrev pub prefix_of : List ℕ → Prefix
prefix_of bytes =
    if nat_lt (length bytes) 4 then Unfinished
    else (if nat_lt most_body (said_length bytes) then Faulty TooLong
    else (if nat_lt (length (drop 4 bytes)) (said_length bytes) then Unfinished
    else prefix_with (frame_of (take (said_length bytes) (drop 4 bytes))) (drop (said_length bytes) (drop 4 bytes))))

-- what stands after the frames of a stream: less than a frame, or a fault
pub data Ending : Type 0 where
  Rest : List ℕ → Ending
  Fault : FrameError → Ending

-- the frames at the start, and what stands after them
pub record Stream : Type 0 where
  pub frames : List Frame
  pub ending : Ending

-- the stream with these frames before it
abbrev pub prepend : List Frame → Stream → Stream
prepend frames stream = record { frames = frames ++ stream.frames; ending = stream.ending }

-- the stream with this prefix, where the bytes after a frame are read as given
abbrev pub stream_with_prefix : Prefix → List ℕ → (List ℕ → Stream) → Stream
stream_with_prefix Unfinished bytes after = record { frames = []; ending = Rest bytes }
stream_with_prefix (Faulty fault) bytes after = record { frames = []; ending = Fault fault }
stream_with_prefix (Whole frame rest) bytes after = prepend (frame ∷ []) (after rest)

-- the stream, as far as so many frames
abbrev pub stream_within : ℕ → List ℕ → Stream
stream_within zero bytes = record { frames = []; ending = Rest bytes }
stream_within (suc n) bytes = stream_with_prefix (prefix_of bytes) bytes (stream_within n)

-- the stream that the bytes are
unfoldable pub stream : List ℕ → Stream
stream bytes = stream_within (length bytes) bytes

-- the stream of what stands after the frames so far and of further bytes; after a fault there is nothing
abbrev pub stream_after : Ending → List ℕ → Stream
stream_after (Rest bytes) more = stream (bytes ++ more)
stream_after (Fault fault) more = record { frames = []; ending = Fault fault }

-- the bytes are these frames, and this stands after them
abbrev pub IsStream : List ℕ → List Frame → Ending → Type 0
IsStream bytes frames ending = stream bytes ≡ record { frames = frames; ending = ending }

-- the fault that stands after the frames
abbrev pub fault_in : Ending → Option FrameError
fault_in (Rest bytes) = None
fault_in (Fault fault) = Some fault

-- ---- a reader, seen as the stream of what is left in it

-- all frames were given
abbrev pub read_up : Ending → Stream
read_up ending = record { frames = []; ending = ending }

-- what it gives next: a frame, or where none is left the fault that stands there; nothing where less than a frame is left
abbrev pub next_in : List Frame → Ending → Option (Result Frame FrameError)
next_in (frame ∷ frames) ending = Some (Ok frame)
next_in [] (Fault fault) = Some (Err fault)
next_in [] (Rest bytes) = None

abbrev pub next_of : Stream → Option (Result Frame FrameError)
next_of left = next_in left.frames left.ending

-- and what is left then
abbrev pub after_next : Stream → Stream
after_next left = record { frames = drop 1 left.frames; ending = left.ending }

-- what is left with more bytes
abbrev pub pushed : Stream → List ℕ → Stream
pushed left more = prepend left.frames (stream_after left.ending more)

-- the frame that was given, if one was
abbrev pub frames_in : Option (Result Frame FrameError) → List Frame
frames_in (Some (Ok frame)) = frame ∷ []
frames_in (Some (Err fault)) = []
frames_in None = []

-- the frames that were given and what is left are the stream of all bytes that came
abbrev pub IsCarried : (came : List ℕ) → (given : List Frame) → (left : Stream) → Type 0
IsCarried came given left = stream came ≡ prepend given left
