-- Part of the statement of `zen_chart`: how lifelines are drawn, each piece by what its node was.
use Rattle.std.specs.Prelude.{ℕ, ◌-◌, Bool, true, false, Option, None, Some, List, [], ◌∷◌, ◌++◌, codes, decimal, get_or, if◌then◌else◌}
use Rattle.std.specs.List.{flat_map}
use Rattle.std.specs.Str.{bytes_eq}
use Rattle.voting_config.specs.Ids.{Id}
use Rattle.trace_reader.specs.declared.said.Ending.{Ending}
use Rattle.trace_reader.specs.declared.said.Ending.TheVariants as ending
use Rattle.trace_reader.specs.declared.said.Mode.{Mode}
use Rattle.trace_reader.specs.declared.said.Mode.TheVariants as mode
use Rattle.trace_reader.specs.declared.said.Said.{Said}
use Rattle.trace_reader.specs.declared.said.Said.TheVariants as said
use Rattle.trace_reader.specs.declared.said.TraceLine.{TraceLine}
use Rattle.sequence_chart.specs.declared.columns.Column.{Column}
use Rattle.sequence_chart.specs.declared.lifelines.Pen.{Pen}
use Rattle.sequence_chart.specs.declared.lifelines.Stroke.{Stroke}
use Rattle.sequence_chart.specs.declared.lifelines.Stroke.TheVariants as drawn
use Rattle.sequence_chart.specs.declared.rows.Cursor.{Cursor}
use Rattle.sequence_chart.specs.Rows.{after, first_cursor, y_of}
use Rattle.sequence_chart.specs.Columns.{node_of}
use Rattle.sequence_chart.specs.Elements.{line_of, term_class}

abbrev pub first_pen : Pen
first_pen = record { top = 0; stroke = drawn.Plain }

-- a stop ends the line of a node, up to the opening of its journal
abbrev pub ending_stroke : Ending → Option Stroke
ending_stroke ending.Taken = None
ending_stroke ending.Refused = None
ending_stroke ending.Stopped = None
ending_stroke ending.Disk = Some drawn.Gap
ending_stroke ending.Crashed = Some drawn.Gap

abbrev pub stroke_by : Said → Option Stroke
stroke_by (said.Mode n m t) = Some (drawn.Mode m t)
stroke_by (said.Crashed n) = Some drawn.Gap
stroke_by (said.Disk n) = Some drawn.Gap
stroke_by (said.Act n e) = ending_stroke e
stroke_by (said.Opened n) = Some drawn.Plain
stroke_by other = None

-- how a line of the trace changes the lifeline of this node, if it does
abbrev pub change_of_stroke : Id → Said → Option Stroke
change_of_stroke n t = if bytes_eq (node_of t) n then stroke_by t else None

abbrev pub mode_class : Mode → List ℕ
mode_class mode.Candidate = codes "candidate "
mode_class mode.Leader = codes "leader "
mode_class mode.Follower = codes "follower "

abbrev pub piece_of : ℕ → ℕ → ℕ → List ℕ
piece_of left top bottom = codes "' d='M" ++ decimal (line_of left) ++ codes " " ++ decimal (y_of top) ++ codes "V" ++ decimal (y_of bottom)
    ++ codes "'/>\n"

-- the line down to a row, and nothing while a node is down
abbrev pub piece_by : ℕ → ℕ → Stroke → ℕ → List ℕ
piece_by left top drawn.Gap bottom = []
piece_by left top drawn.Plain bottom = codes "<path class='plain" ++ piece_of left top bottom
piece_by left top (drawn.Mode m t) bottom = codes "<path class='" ++ mode_class m ++ term_class t ++ piece_of left top bottom

abbrev pub piece : ℕ → Pen → ℕ → List ℕ
piece left pen bottom = piece_by left pen.top pen.stroke bottom

abbrev pub piece_at : ℕ → Pen → ℕ → Option Stroke → List ℕ
piece_at left pen row None = []
piece_at left pen row (Some s) = piece left pen row

abbrev pub pen_after : Pen → ℕ → Option Stroke → Pen
pen_after pen row None = pen
pen_after pen row (Some s) = record { top = row; stroke = s }

-- the lifeline of a node from here on
abbrev pub lifeline_from : ℕ → Id → ℕ → Pen → Cursor → List TraceLine → List ℕ
lifeline_from left n bottom pen c [] = piece left pen bottom
lifeline_from left n bottom pen c (l ∷ ls) =
    piece_at left pen (after c l.said).row (change_of_stroke n l.said)
    ++ lifeline_from left n bottom (pen_after pen (after c l.said).row (change_of_stroke n l.said)) (after c l.said) ls

abbrev pub lifeline : List TraceLine → ℕ → Column → List ℕ
lifeline lines bottom column = lifeline_from column.left column.node bottom first_pen first_cursor lines

-- the name of a node at its lifeline
abbrev pub head : ℕ → Column → List ℕ
head y column = codes "<text class='head' x='" ++ decimal (line_of column.left) ++ codes "' y='" ++ decimal y ++ codes "'>" ++ column.node
    ++ codes "</text>\n"
