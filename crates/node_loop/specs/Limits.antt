-- For the contracts inside: how much a node holds of what comes over a connection.
use Rattle.std.specs.Prelude.{◌≡◌, ℕ, ◌+◌, ◌<◌, ◌≤◌, List, [], length, get_or}
use Rattle.client_lines.specs.Lines.{most_line}
use Rattle.zen_link.specs.Told.{most_connections}
use Rattle.wire_frames.specs.Frames.{most_body}
use Rattle.wire_frames.specs.Streams.{Ending, Rest, Fault}
use Rattle.node_loop.specs.declared.connection.Connection.{Connection}
use Rattle.node_loop.specs.declared.connection.Connection.TheVariants.{Fresh, Frames, Lines}
use Rattle.node_loop.specs.Intakes.{Intakes}
use Rattle.node_loop.specs.Turns.{Reads}

-- less than a frame with its length may have
abbrev pub IsShort : Ending → Type 0
IsShort (Rest bytes) = length bytes < 4 + most_body
IsShort (Fault fault) = Unit {0}

-- no frame and less than one, or no more than shows that a line is too long
abbrev pub HoldsLittle : Connection → Type 0
HoldsLittle Fresh = Unit {0}
HoldsLittle (Frames left) = (left.frames ≡ []) × IsShort left.ending
HoldsLittle (Lines bytes) = length bytes ≤ most_line + 1

-- whatever came, of each connection
abbrev pub LawHoldsLittle : Type 0
LawHoldsLittle = (readings : List Connection) (intakes : Intakes) → Reads readings intakes → (conn : ℕ) → conn < most_connections
    → HoldsLittle (get_or readings conn Fresh)
