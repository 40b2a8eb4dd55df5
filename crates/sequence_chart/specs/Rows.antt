-- Part of the statement of `zen_chart`: where the lines of a trace stand. Each line of the schedule begins a row.
use Rattle.std.specs.Prelude.{ℕ, ◌+◌, ◌*◌, Bool, true, false, List, [], ◌∷◌, ◌++◌}
use Rattle.trace_reader.specs.declared.said.Said.{Said}
use Rattle.trace_reader.specs.declared.said.Said.TheVariants as said
use Rattle.trace_reader.specs.declared.said.TraceLine.{TraceLine}
use Rattle.sequence_chart.specs.declared.rows.Cursor.{Cursor}

-- how many units down the middle of a row is
abbrev pub y_of : ℕ → ℕ
y_of row = 40 + row * 14

-- above the first line
abbrev pub first_cursor : Cursor
first_cursor = record { row = 0; is_free = true; sent = 0 }

-- a line of the schedule begins a row, in which no label stands yet
abbrev pub next_event : Cursor → Cursor
next_event c = record { row = c.row + 1; is_free = true; sent = c.sent }

-- the row of a label, by whether the row of the event is free
abbrev pub label_row : Bool → Cursor → Cursor
label_row true c = record { row = c.row; is_free = false; sent = c.sent }
label_row false c = record { row = c.row + 1; is_free = false; sent = c.sent }

-- a label stands in the row of the event if it is the first one, and else in a row of its own
abbrev pub next_label : Cursor → Cursor
next_label c = label_row c.is_free c

-- a message is sent from the row of the line before it
abbrev pub next_message : Cursor → Cursor
next_message c = record { row = c.row; is_free = c.is_free; sent = c.sent + 1 }

-- the row of a line, and how many messages were sent up to it
abbrev pub after : Cursor → Said → Cursor
after c (said.Delivery n k) = next_event c
after c (said.Event n) = next_event c
after c (said.Sent from to) = next_message c
after c other = next_label c

-- what each line gives at its row, in order
abbrev pub walk : {A : Type 0} → (Cursor → TraceLine → List A) → Cursor → List TraceLine → List A
walk f c [] = []
walk f c (l ∷ ls) = f (after c l.said) l ++ walk f (after c l.said) ls
