-- For the contracts inside: what feeding a connection's reader gives.
use Rattle.std.specs.Prelude.{◌≡◌, ℕ, Bool, true, false, not, ◌==◌, List, [], ◌∷◌, ◌++◌, slice_set}
use Rattle.wire_frames.specs.Streams.{Ending, Rest, Fault, Stream, stream, fault_in, read_up}
use Rattle.client_lines.specs.Lines.{rest_of}
use Rattle.node_loop.specs.declared.connection.Connection.TheVariants.{Fresh, Frames}
use Rattle.node_loop.specs.declared.connection.Came.{Came}
use Rattle.node_loop.specs.declared.connection.Came.TheVariants as came
use Rattle.node_loop.specs.declared.connection.Connection.{Connection}
use Rattle.node_loop.specs.Happenings.{Happening}
use Rattle.node_loop.specs.Connections.{of_frames, of_lines, of_fault, brought, reading_of, unless_bad, carries_frames}

-- what has come, as events of this connection
abbrev pub happenings_of : ℕ → Came → List Happening
happenings_of conn came.Nothing = []
happenings_of conn (came.Frames left) = of_frames left.frames ++ of_fault conn (fault_in left.ending)
happenings_of conn (came.Lines lines) = of_lines conn lines

-- what stays of a reader of frames once they are done
abbrev pub kept_frames : Ending → Connection
kept_frames (Rest bytes) = Frames (read_up (Rest bytes))
kept_frames (Fault fault) = Fresh

-- what stays of a connection once what has come is done, and of all of them
abbrev pub kept : Came → Connection → Connection
kept came.Nothing now = now
kept (came.Frames left) now = kept_frames left.ending
kept (came.Lines lines) now = now

abbrev pub kept_at : List Connection → (conn : ℕ) → Came → List Connection
kept_at connections conn came.Nothing = connections
kept_at connections conn (came.Frames left) = slice_set connections conn (kept_frames left.ending)
kept_at connections conn (came.Lines lines) = connections

-- more bytes of a connection: what has come is what they bring, and once that is done the reader holds what is left where no fault stands
pub record IsFed (conn : ℕ) (before more : List ℕ) (came : Came) (now : Connection) : Type 0 where
  pub brings : happenings_of conn came ≡ brought conn before more
  pub reads : kept came now ≡ reading_of (unless_bad (before ++ more))

-- whatever bytes the reader held before
abbrev pub Feeds : Connection → (more : List ℕ) → Came → Connection → Type 0
Feeds old more came now = (conn : ℕ) (before : List ℕ) → old ≡ reading_of before → IsFed conn before more came now

-- a connection with these bytes carries lines
abbrev pub carries_lines : List ℕ → Bool
carries_lines [] = false
carries_lines (b ∷ bytes) = not (b == 0)

-- as a connection that carries frames, and as one that carries lines
abbrev pub FeedsFrames : Stream → (more : List ℕ) → Came → Connection → Type 0
FeedsFrames old more came now = (conn : ℕ) (before : List ℕ) → carries_frames (before ++ more) ≡ true → old ≡ read_up (stream before).ending
    → IsFed conn before more came now

abbrev pub FeedsLines : List ℕ → (more : List ℕ) → Came → Connection → Type 0
FeedsLines old more came now = (conn : ℕ) (before : List ℕ) → carries_lines (before ++ more) ≡ true → old ≡ rest_of before
    → IsFed conn before more came now
