-- Part of the statement of `zen_chart`: where messages were sent, and which were handed over.
use Rattle.std.specs.Prelude.{ℕ, ◌-◌, ◌&&◌, Bool, true, false, Option, None, Some, List, [], ◌∷◌, ◌++◌, length, slice_set, nat_le, if◌then◌else◌}
use Rattle.std.specs.List.{slice_get}
use Rattle.trace_reader.specs.declared.said.Said.{Said}
use Rattle.trace_reader.specs.declared.said.Said.TheVariants as said
use Rattle.trace_reader.specs.declared.said.TraceLine.{TraceLine}
use Rattle.sequence_chart.specs.declared.messages.Origin.{Origin}
use Rattle.sequence_chart.specs.declared.rows.Cursor.{Cursor}
use Rattle.sequence_chart.specs.Rows.{first_cursor, walk}

-- the message of a line, if it has one
abbrev pub origin_by : Cursor → List ℕ → Said → List Origin
origin_by c text (said.Sent from to) = record { from = from; row = c.row; text = text } ∷ []
origin_by c text other = []

abbrev pub origin_in : Cursor → TraceLine → List Origin
origin_in c l = origin_by c l.text l.said

-- the messages of a trace, by their numbers
abbrev pub origins_of : List TraceLine → List Origin
origins_of lines = walk origin_in first_cursor lines

-- the message with this number, counted from 1, where so many were sent
abbrev pub message_at : List Origin → (sent number : ℕ) → Option Origin
message_at origins sent number = if nat_le 1 number && nat_le number sent then slice_get origins (number - 1) else None

-- one more message, or one of those sent so far is handed over
abbrev pub handed_by : List Bool → Said → List Bool
handed_by flags (said.Sent from to) = flags ++ false ∷ []
handed_by flags (said.Delivery n k) = if nat_le 1 k && nat_le k (length flags) then slice_set flags (k - 1) true else flags
handed_by flags other = flags

-- whether each message, by its number, is handed over by a line after its own
abbrev pub handed_from : List Bool → List TraceLine → List Bool
handed_from flags [] = flags
handed_from flags (l ∷ ls) = handed_from (handed_by flags l.said) ls
