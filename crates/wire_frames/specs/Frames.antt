-- Part of the statement: a frame as bytes: four bytes of length, and as many of body: a kind, the ids from and to, and the fields of the
-- kind.
use Rattle.std.specs.Prelude.{◌≡◌, ℕ, List, ◌∷◌, ◌++◌, length, Option, Some, None, Result, Ok, Err}
use Rattle.std.specs.Int.{w32, to_be_bytes}
use Rattle.cluster_state.specs.declared.fault.FieldError.{FieldError}
use Rattle.cluster_state.specs.declared.fault.StateFault.{StateFault}
use Rattle.cluster_state.specs.declared.fault.StateFault.TheVariants as whole_fault
use Rattle.cluster_state.specs.Field.{◌>>=◌, byte_at}
use Rattle.cluster_state.specs.Fields.{id}
use Rattle.cluster_state.specs.States.{whole}
use Rattle.wire_frames.specs.declared.fault.FrameError.{FrameError}
use Rattle.wire_frames.specs.declared.fault.FrameError.TheVariants.{UnknownKind, Field, Trailing}
use Rattle.wire_frames.specs.declared.frame.Kind.{Kind}
use Rattle.wire_frames.specs.declared.frame.Frame.{Frame}
use Rattle.wire_frames.specs.Kinds.{code, kind_of, kind_of_message}
use Rattle.wire_frames.specs.Messages.{message_at, SpellsFields, IsFitMessage}

-- ---- what a frame is spelled as

-- the body is the frame's
pub record SpellsBody (frame : Frame) (body : List ℕ) : Type 0 where
  pub fields : List ℕ
  pub from : id.Fits frame.from
  pub to : id.Fits frame.to
  pub spelled : SpellsFields frame.message fields
  pub whole : body ≡ code (kind_of_message frame.message) ∷ (id.spelling frame.from ++ (id.spelling frame.to ++ fields))

-- how many bytes a body has at most
abbrev pub most_body : ℕ
most_body = 8388608

-- a number as four bytes, the highest first
unfoldable pub four_bytes : ℕ → List ℕ
four_bytes n = to_be_bytes w32 n

-- the bytes are the frame: the length of its body, and the body
pub record SpellsFrame (frame : Frame) (bytes : List ℕ) : Type 0 where
  pub body : List ℕ
  pub spelled : SpellsBody frame body
  pub whole : bytes ≡ four_bytes (length body) ++ body

-- what a sender knows of its frame: numbers to 2^62, a state within the limits
abbrev pub IsFitFrame : Frame → Type 0
IsFitFrame frame = IsFitMessage frame.message

-- ---- which frame a body is

-- the ids and the message of a kind at the start of bytes, and the bytes after them, or the first fault
abbrev pub frame_at : Kind → List ℕ → Result (Frame × List ℕ) FieldError
frame_at kind bytes = id.at bytes >>= λ from. id.at from.1 >>= λ to. message_at kind to.1 >>= λ m.
    Ok (record { from = from.0; to = to.0; message = m.0 }, m.1)

-- what a fault of the fields is in a frame
abbrev pub fault_in_frame : StateFault → FrameError
fault_in_frame (whole_fault.Field f) = Field f
fault_in_frame whole_fault.Trailing = Trailing

abbrev pub as_frame : Result Frame StateFault → Result Frame FrameError
as_frame (Ok frame) = Ok frame
as_frame (Err f) = Err (fault_in_frame f)

-- the frame of the kind, if there is one
abbrev pub frame_of_kind : ℕ → Option Kind → List ℕ → Result Frame FrameError
frame_of_kind byte None bytes = Err (UnknownKind byte)
frame_of_kind byte (Some kind) bytes = as_frame (whole (frame_at kind bytes))

-- the frame, by what reading its kind byte gave
abbrev pub frame_from_byte : Result (ℕ × List ℕ) FieldError → Result Frame FrameError
frame_from_byte (Ok byte) = frame_of_kind byte.0 (kind_of byte.0) byte.1
frame_from_byte (Err f) = Err (Field f)

-- the frame that the body is, or its first fault
abbrev pub frame_of : List ℕ → Result Frame FrameError
frame_of body = frame_from_byte (byte_at body)
