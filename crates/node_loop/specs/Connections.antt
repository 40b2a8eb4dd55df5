-- Part of the statement: the bytes of a connection, and what more of them bring.
use Rattle.std.specs.Prelude.{ℕ, Bool, true, false, ◌==◌, ◌&&◌, if◌then◌else◌, Option, None, Some, List, [], ◌∷◌, ◌++◌, map, length, drop}
use Rattle.wire_frames.specs.declared.fault.FrameError.{FrameError}
use Rattle.wire_frames.specs.declared.frame.Frame.{Frame}
use Rattle.wire_frames.specs.Streams.{Ending, Rest, Fault, stream, fault_in, read_up}
use Rattle.client_lines.specs.Lines.{lines_of, rest_of}
use Rattle.policy_model.specs.declared.events.Event.TheVariants.{Tick as TickCame, Frame as FrameCame, Client as LineCame, Disconnected as PeerGone}
use Rattle.zen_link.specs.declared.link.Input.{Input}
use Rattle.zen_link.specs.declared.link.Input.TheVariants.{Bytes, Closed, Disconnected, Tick, Stop}
use Rattle.node_loop.specs.declared.connection.Connection.{Connection}
use Rattle.node_loop.specs.declared.connection.Connection.TheVariants.{Fresh, Frames, Lines}
use Rattle.node_loop.specs.Intakes.{Intake, Read, Unread, Refused, Intakes, NoIntakes, Then, inputs_in}
use Rattle.node_loop.specs.Happenings.{Happening, Comes, Faulty, Ends, Mark, Takes, Makes}
use Rattle.node_loop.specs.Happenings as happening

-- a connection whose first byte is 0 carries frames, any other lines
abbrev pub carries_frames : List ℕ → Bool
carries_frames [] = false
carries_frames (b ∷ bytes) = b == 0

abbrev pub is_fault : Ending → Bool
is_fault (Rest bytes) = false
is_fault (Fault fault) = true

-- a fault stands in the bytes of a connection
abbrev pub is_bad : List ℕ → Bool
is_bad bytes = carries_frames bytes && is_fault (stream bytes).ending

-- a connection is dropped where a fault stands in its bytes, and later bytes begin anew
abbrev pub unless_bad : List ℕ → List ℕ
unless_bad bytes = if is_bad bytes then [] else bytes

-- the frames and the lines that are whole with more bytes and were not before
abbrev pub frames_completed : List ℕ → List ℕ → List Frame
frames_completed before more = drop (length (stream before).frames) (stream (before ++ more)).frames

abbrev pub lines_completed : List ℕ → List ℕ → List (List ℕ)
lines_completed before more = drop (length (lines_of before)) (lines_of (before ++ more))

abbrev pub of_frames : List Frame → List Happening
of_frames frames = map (λ f. Comes (FrameCame f)) frames

module _ (conn : ℕ) where
  abbrev pub since_input : Input → List ℕ → List ℕ
  since_input (Bytes c bytes) before = if c == conn then unless_bad (before ++ bytes) else before
  since_input (Closed c) before = if c == conn then [] else before
  since_input (Disconnected peer) before = before
  since_input (Tick now word) before = before
  since_input Stop before = before

  abbrev pub since_intake : Intake → List ℕ → List ℕ
  since_intake (Read input) before = since_input input before
  since_intake (Unread c bytes) before = if c == conn then [] else before
  since_intake Refused before = before

  -- the bytes of the connection since it was opened or dropped
  abbrev pub bytes_of : Intakes → List ℕ
  bytes_of NoIntakes = []
  bytes_of (Then before intake) = since_intake intake (bytes_of before)

  abbrev pub of_lines : List (List ℕ) → List Happening
  of_lines lines = map (λ l. Comes (LineCame conn l)) lines

  abbrev pub of_fault : Option FrameError → List Happening
  of_fault None = []
  of_fault (Some fault) = Faulty conn fault ∷ []

  -- what more bytes bring: the frames or lines that they complete, then the fault that stands next
  abbrev pub brought : List ℕ → List ℕ → List Happening
  brought before more =
      if carries_frames (before ++ more)
      then of_frames (frames_completed before more) ++ of_fault (fault_in (stream (before ++ more)).ending)
      else of_lines (lines_completed before more)

-- what an input makes, after what was given before
abbrev pub made_by_input : Intakes → Input → List Happening
made_by_input before (Bytes conn bytes) = brought conn (bytes_of conn before) bytes
made_by_input before (Closed conn) = Ends conn ∷ []
made_by_input before (Disconnected peer) = Comes (PeerGone peer) ∷ []
made_by_input before (Tick now word) = Comes (TickCame now word) ∷ []
made_by_input before Stop = []

abbrev pub made_by : Intakes → Intake → List Happening
made_by before (Read input) = made_by_input before input
made_by before (Unread conn bytes) = happening.Unread conn ∷ []
made_by before Refused = happening.Refused ∷ []

abbrev pub makes : List Happening → List Mark
makes happenings = map Makes happenings

-- an input is taken, and then comes what it makes
abbrev pub course_by : Intakes → Intake → List Mark
course_by before intake = map Takes (inputs_in intake) ++ makes (made_by before intake)

-- further inputs, one after the other
abbrev pub course_from : Intakes → List Intake → List Mark
course_from before [] = []
course_from before (i ∷ is) = course_by before i ++ course_from (Then before i) is

-- what the last of these intakes made, or this where there is none
abbrev pub last_made : List Happening → Intakes → List Intake → List Happening
last_made made before [] = made
last_made made before (i ∷ is) = last_made (made_by before i) (Then before i) is

-- what the reader of a connection holds after these bytes: nothing, what stands after the frames so far, or a line that has not ended
abbrev pub reading_of : List ℕ → Connection
reading_of [] = Fresh
reading_of (b ∷ bytes) = if b == 0 then Frames (read_up (stream (b ∷ bytes)).ending) else Lines (rest_of (b ∷ bytes))
