-- For the contracts inside: a stream in terms of its bytes: spelled frames, one after the other, and then less than a frame, or a fault.
use Rattle.std.specs.Prelude.{◌≡◌, ℕ, ◌<◌, ◌≤◌, ◌^◌, ◌⊎◌, List, [], ◌∷◌, ◌++◌, length, Err}
use Rattle.wire_frames.specs.declared.fault.FrameError.{FrameError}
use Rattle.wire_frames.specs.declared.fault.FrameError.TheVariants.{TooLong}
use Rattle.wire_frames.specs.declared.frame.Frame.{Frame}
use Rattle.wire_frames.specs.Frames.{most_body, four_bytes, SpellsFrame, frame_of}
use Rattle.wire_frames.specs.Streams.{Ending, Rest, Fault}

-- a length, and a part of the body
pub record BeginsBody (bytes : List ℕ) : Type 0 where
  pub size : ℕ
  pub part : List ℕ
  pub whole : bytes ≡ four_bytes size ++ part
  pub fits : size ≤ most_body
  pub short : length part < size

-- less than a frame: a part of a length, or a length and a part of the body
abbrev pub IsPartial : List ℕ → Type 0
IsPartial bytes = (length bytes < 4) ⊎ BeginsBody bytes

-- a length that is too large, whatever follows
pub record BeginsTooLong (bytes : List ℕ) (fault : FrameError) : Type 0 where
  pub size : ℕ
  pub more : List ℕ
  pub whole : bytes ≡ four_bytes size ++ more
  pub small : size < 2 ^ 32
  pub long : most_body < size
  pub is : fault ≡ TooLong

-- a length and a body that is no frame, whatever follows
pub record BeginsNoFrame (bytes : List ℕ) (fault : FrameError) : Type 0 where
  pub body : List ℕ
  pub more : List ℕ
  pub whole : bytes ≡ four_bytes (length body) ++ (body ++ more)
  pub fits : length body ≤ most_body
  pub is : frame_of body ≡ Err fault

-- the bytes are this ending
abbrev pub IsEnding : Ending → List ℕ → Type 0
IsEnding (Rest rest) bytes = (bytes ≡ rest) × IsPartial bytes
IsEnding (Fault fault) bytes = BeginsTooLong bytes fault ⊎ BeginsNoFrame bytes fault

-- the bytes are these frames, one after the other, and then this ending
abbrev pub Splits : List ℕ → List Frame → Ending → Type 0
Splits bytes [] ending = IsEnding ending bytes
Splits bytes (frame ∷ frames) ending = (first : List ℕ) × (rest : List ℕ) × (bytes ≡ first ++ rest) × SpellsFrame frame first
    × Splits rest frames ending
