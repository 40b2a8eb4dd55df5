-- Laws of their own: what holds of the chart of every trace.
use Rattle.std.specs.Prelude.{◌≡◌, ℕ, Option, List, [], ◌∷◌, ◌++◌, IsTrue}
use Rattle.voting_config.specs.Ids.{Id}
use Rattle.trace_reader.specs.declared.said.Said.TheVariants as said
use Rattle.trace_reader.specs.declared.said.TraceLine.{TraceLine}
use Rattle.sequence_chart.specs.declared.rows.Cursor.{Cursor}
use Rattle.sequence_chart.specs.Rows.{after, first_cursor}
use Rattle.sequence_chart.specs.Columns.{left_of, node_of}
use Rattle.sequence_chart.specs.Elements.{arrow, has_label, label}
use Rattle.sequence_chart.specs.Chart.{columns_of, drawing}

-- this part stands in it, as it is
abbrev pub HasPart : List ℕ → List ℕ → Type 0
HasPart whole part = (prefix : List ℕ) × (back : List ℕ) × (whole ≡ prefix ++ (part ++ back))

-- where the last of these lines stands
abbrev pub cursor_after : Cursor → List TraceLine → Cursor
cursor_after c [] = c
cursor_after c (l ∷ ls) = cursor_after (after c l.said) ls

-- where a line after these stands: its row, and how many messages were sent up to it
abbrev pub place_behind : List TraceLine → TraceLine → Cursor
place_behind prefix l = after (cursor_after first_cursor prefix) l.said

-- A line that hands over a message, which a line before it sent, has an arrow from the row of that line to its own, and its message in it.
abbrev pub LawEachDelivery : Type 0
LawEachDelivery =
    (left : ℕ) (prefix between rest : List TraceLine) (m l : TraceLine) (from n : Id) (to : Option Id) (k : ℕ)
    → m.said ≡ said.Sent from to → l.said ≡ said.Delivery n k → k ≡ (place_behind prefix m).sent
    → HasPart (drawing left (prefix ++ (m ∷ (between ++ (l ∷ rest)))))
    (arrow (columns_of left (prefix ++ (m ∷ (between ++ (l ∷ rest)))))
    (record { from = from; row = (place_behind prefix m).row; text = m.text }) n (place_behind (prefix ++ (m ∷ between)) l).row)

-- A line that has a label, as each act, has it in its row at the lifeline of its node: its mark, its words, and the whole line.
abbrev pub LawEachLabel : Type 0
LawEachLabel =
    (left : ℕ) (prefix rest : List TraceLine) (l : TraceLine) → IsTrue (has_label l.said)
    → HasPart (drawing left (prefix ++ (l ∷ rest)))
    (label (left_of (columns_of left (prefix ++ (l ∷ rest))) (node_of l.said)) (place_behind prefix l).row l)
