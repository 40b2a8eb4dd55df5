-- Part of the statement of `zen_chart`: the chart of a trace.
use Rattle.std.specs.Prelude.{◌≡◌, ℕ, ◌+◌, ◌-◌, Bool, true, Result, Ok, Err, List, [], ◌∷◌, ◌++◌, get_or, if◌then◌else◌}
use Rattle.std.specs.List.{flat_map}
use Rattle.schedule_text.specs.declared.fault.ReadError.{ReadError}
use Rattle.schedule_text.specs.declared.fault.ReadError.TheVariants.{Bad, Memory}
use Rattle.trace_reader.specs.declared.fault.BadTrace.{BadTrace}
use Rattle.trace_reader.specs.Reading.{trace_at}
use Rattle.trace_reader.specs.declared.said.Said.{Said}
use Rattle.trace_reader.specs.declared.said.Said.TheVariants as said
use Rattle.trace_reader.specs.declared.said.TraceLine.{TraceLine}
use Rattle.sequence_chart.specs.declared.columns.Column.{Column}
use Rattle.sequence_chart.specs.declared.messages.Origin.{Origin}
use Rattle.sequence_chart.specs.declared.rows.Cursor.{Cursor}
use Rattle.sequence_chart.specs.Rows.{after, first_cursor, walk, y_of}
use Rattle.sequence_chart.specs.Messages.{origins_of, handed_from}
use Rattle.sequence_chart.specs.Columns.{columns_from, left_of, nodes_from}
use Rattle.sequence_chart.specs.Elements.{arrow_in, label_in, lost, event_row_in}
use Rattle.sequence_chart.specs.Lifelines.{head, lifeline}
use Rattle.sequence_chart.specs.Frame.{frame, last}

abbrev pub last_row : Cursor → List TraceLine → ℕ
last_row c [] = c.row
last_row c (l ∷ ls) = last_row (after c l.said) ls

-- where a message is sent that no line hands over
abbrev pub lost_by : List Column → List Bool → Cursor → List ℕ → Said → List ℕ
lost_by columns handed c line (said.Sent from to) = if get_or handed (c.sent - 1) true then []
    else lost (left_of columns from) (y_of c.row + 4) c.sent line
lost_by columns handed c line other = []

abbrev pub lost_in : List Column → List Bool → Cursor → TraceLine → List ℕ
lost_in columns handed c l = lost_by columns handed c l.text l.said

abbrev pub columns_of : ℕ → List TraceLine → List Column
columns_of left lines = columns_from left (nodes_from [] lines) lines

-- the lifelines, from the left, and a name above and below each
abbrev pub lifelines : List TraceLine → List Column → List ℕ
lifelines lines columns = flat_map (lifeline lines (last_row first_cursor lines + 1)) columns

abbrev pub heads : List TraceLine → List Column → List ℕ
heads lines columns = flat_map (head 28) columns ++ flat_map (head (y_of (last_row first_cursor lines + 1) + 14)) columns

-- What is drawn, where the first column begins so far to the right: the lines of the schedule, then the lifelines, the arrows, the messages
-- that were lost, the labels and the names. What comes later is drawn over it.
abbrev pub drawing : ℕ → List TraceLine → List ℕ
drawing left lines =
    walk (event_row_in (origins_of lines)) first_cursor lines
    ++ (lifelines lines (columns_of left lines)
    ++ (walk (arrow_in (columns_of left lines) (origins_of lines)) first_cursor lines
    ++ (walk (lost_in (columns_of left lines) (handed_from [] lines)) first_cursor lines
    ++ (walk (label_in (columns_of left lines)) first_cursor lines
    ++ heads lines (columns_of left lines)))))

-- a picture that has the drawing in a frame of some size, and nothing else
pub record Draws (lines : List TraceLine) (picture : List ℕ) : Type 0 where
  pub left : ℕ
  pub width : ℕ
  pub height : ℕ
  pub is : picture ≡ frame width height ++ (drawing left lines ++ last)

-- What becomes of bytes: the picture of the trace that they are, or their fault, unless memory ran out.
abbrev pub DrawsTrace : List ℕ → Result (List ℕ) (ReadError BadTrace) → Type 0
DrawsTrace bytes (Ok picture) = (lines : List TraceLine) × (trace_at bytes ≡ Ok lines) × Draws lines picture
DrawsTrace bytes (Err (Bad bad)) = trace_at bytes ≡ Err bad
DrawsTrace bytes (Err Memory) = Unit {0}
