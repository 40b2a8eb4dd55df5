-- Part of the statement of `zen_chart`: the elements of a chart.
use Rattle.std.specs.Prelude.{ℕ, ◌+◌, ◌-◌, ◌*◌, ◌/◌, ◌%◌, ◌==◌, Bool, true, false, Option, None, Some, Result, Ok, Err, List, [], ◌++◌, length, codes, decimal, nat_lt, if◌then◌else◌}
use Rattle.voting_config.specs.Lists.{space}
use Rattle.voting_config.specs.Ids.{Id}
use Rattle.schedule_text.specs.declared.fault.WhyBad.{WhyBad}
use Rattle.schedule_text.specs.Lines.{any_number}
use Rattle.trace_reader.specs.declared.said.Ending.{Ending}
use Rattle.trace_reader.specs.declared.said.Ending.TheVariants as ending
use Rattle.trace_reader.specs.declared.said.Said.{Said}
use Rattle.trace_reader.specs.declared.said.Said.TheVariants as said
use Rattle.trace_reader.specs.declared.said.TraceLine.{TraceLine}
use Rattle.sequence_chart.specs.declared.columns.Column.{Column}
use Rattle.sequence_chart.specs.declared.messages.Origin.{Origin}
use Rattle.sequence_chart.specs.declared.rows.Cursor.{Cursor}
use Rattle.sequence_chart.specs.Words.{behind, capped, escaped, short_words, term_word}
use Rattle.sequence_chart.specs.Rows.{y_of}
use Rattle.sequence_chart.specs.Messages.{message_at}
use Rattle.sequence_chart.specs.Labels.{fields, label_of}
use Rattle.sequence_chart.specs.Columns.{left_of, node_of}

-- the lifeline of a column
abbrev pub line_of : ℕ → ℕ
line_of left = left + 24

-- the whole line, which a reader of the picture is shown at its element
unfoldable pub title : List ℕ → List ℕ
title line = codes "<title>" ++ escaped line ++ codes "</title>"

-- the end of a tag with a place
unfoldable pub at_place : ℕ → ℕ → List ℕ
at_place x y = codes "' x='" ++ decimal x ++ codes "' y='" ++ decimal y ++ codes "'"

-- ---- colours and forms

-- each term has one of five colours
abbrev pub term_class : ℕ → List ℕ
term_class term =
    if term % 5 == 0 then codes "t0"
    else (if term % 5 == 1 then codes "t1"
    else (if term % 5 == 2 then codes "t2"
    else (if term % 5 == 3 then codes "t3"
    else codes "t4")))

abbrev pub class_by : Result ℕ WhyBad → List ℕ
class_by (Ok term) = term_class term
class_by (Err e) = codes "other"

abbrev pub ending_class : Ending → List ℕ
ending_class ending.Taken = codes "taken"
ending_class ending.Refused = codes "refused"
ending_class ending.Stopped = codes "fault"
ending_class ending.Disk = codes "fault"
ending_class ending.Crashed = codes "fault"

unfoldable pub class_of : List ℕ → Said → List ℕ
class_of line (said.Act n e) = ending_class e
class_of line (said.Won n t) = codes "won " ++ term_class t
class_of line (said.Committed n) = codes "won " ++ class_by (any_number.at (term_word line))
class_of line (said.Mode n m t) = term_class t
class_of line (said.Crashed n) = codes "fault"
class_of line (said.Disk n) = codes "fault"
class_of line (said.Down n) = codes "fault"
class_of line (said.Opened n) = codes "taken"
class_of line other = codes "other"

abbrev pub ending_mark : Ending → List ℕ
ending_mark ending.Taken = codes "dot"
ending_mark ending.Refused = codes "cross"
ending_mark ending.Stopped = codes "frame"
ending_mark ending.Disk = codes "square"
ending_mark ending.Crashed = codes "square"

unfoldable pub mark_of : Said → List ℕ
mark_of (said.Act n e) = ending_mark e
mark_of (said.Won n t) = codes "star"
mark_of (said.Committed n) = codes "diamond"
mark_of (said.Mode n m t) = codes "bar"
mark_of (said.Crashed n) = codes "square"
mark_of (said.Disk n) = codes "square"
mark_of (said.Down n) = codes "frame"
mark_of (said.Opened n) = codes "triangle"
mark_of other = codes "ring"

-- ---- labels

-- the class of a line in a tag, and its place
unfoldable pub look : ℕ → ℕ → TraceLine → List ℕ
look x y l = codes " class='" ++ class_of l.text l.said ++ at_place x y

-- the form of a mark, by its name
unfoldable pub form : Said → List ℕ
form said = codes "<use href='#" ++ mark_of said ++ codes "'"

-- the mark of a line at its lifeline
unfoldable pub mark : ℕ → ℕ → TraceLine → List ℕ
mark x y l = form l.said ++ look x y l ++ codes "/>"

-- what hides the arrows behind so many characters
unfoldable pub paper : ℕ → ℕ → ℕ → List ℕ
paper x y cells = codes "<rect class='paper" ++ at_place x y ++ codes " height='12' width='" ++ decimal (6 * cells + 2) ++ codes "'/>"

unfoldable pub label_text : ℕ → ℕ → TraceLine → List ℕ
label_text x y l = codes "<text" ++ look x y l ++ codes ">" ++ title l.text ++ escaped (label_of l) ++ codes "</text>\n"

-- the mark of a line, and the words beside it
abbrev pub label : ℕ → ℕ → TraceLine → List ℕ
label left row l = mark (line_of left) (y_of row) l
    ++ (paper (left + 37) (y_of row - 6) (length (label_of l)) ++ label_text (left + 38) (y_of row + 3) l)

abbrev pub has_label : Said → Bool
has_label (said.Delivery n k) = false
has_label (said.Event n) = false
has_label (said.Sent from to) = false
has_label other = true

abbrev pub label_in : List Column → Cursor → TraceLine → List ℕ
label_in columns c l = if has_label l.said then label (left_of columns (node_of l.said)) c.row l else []

-- ---- lines of the schedule

-- the message that is handed over, by its words after its ends
abbrev pub message_words : Option Origin → List ℕ
message_words None = []
message_words (Some o) = capped 40 (short_words (fields o.text))

-- what parts such a line from the one above
unfoldable pub rule : ℕ → List ℕ
rule y = codes "<line class='step' x2='100%' y1='" ++ decimal y ++ codes "' y2='" ++ decimal y ++ codes "'/>"

-- a line of the schedule, without its number
unfoldable pub schedule : ℕ → List ℕ → List ℕ
schedule y line = codes "<text class='schedule" ++ at_place 8 y ++ codes ">" ++ title line ++ escaped (capped 40 (behind space line))

-- the message that it hands over
unfoldable pub handed : List ℕ → List ℕ
handed message = codes "<tspan class='message'>  " ++ escaped message ++ codes "</tspan></text>\n"

-- A line of the schedule stands at the left, and after it the message that it hands over.
abbrev pub event_row : ℕ → List ℕ → List ℕ → List ℕ
event_row y line message = rule (y - 7) ++ (schedule (y + 3) line ++ handed message)

abbrev pub event_row_by : List Origin → Cursor → List ℕ → Said → List ℕ
event_row_by origins c line (said.Delivery n k) = event_row (y_of c.row) line (message_words (message_at origins c.sent k))
event_row_by origins c line (said.Event n) = event_row (y_of c.row) line []
event_row_by origins c line other = []

abbrev pub event_row_in : List Origin → Cursor → TraceLine → List ℕ
event_row_in origins c l = event_row_by origins c l.text l.said

-- ---- messages

unfoldable pub point : ℕ → ℕ → List ℕ
point x y = decimal x ++ codes " " ++ decimal y

-- in a bow to the left, from a lifeline to itself
unfoldable pub bow : ℕ → ℕ → ℕ → List ℕ
bow left y down = point (left + 21) y
    ++ (codes "C" ++ (point (left + 6) (y + 2) ++ (codes " " ++ (point (left + 6) down ++ (codes " " ++ point (left + 20) down)))))

-- from one lifeline to another, or to itself
unfoldable pub way : ℕ → ℕ → ℕ → ℕ → List ℕ
way left y to down =
    if nat_lt left to then point (left + 28) y ++ (codes "L" ++ point (to + 20) down)
    else (if nat_lt to left then point (left + 20) y ++ (codes "L" ++ point (to + 28) down)
    else bow left y down)

-- an arrow, and where it begins and ends
unfoldable pub path : ℕ → ℕ → ℕ → ℕ → List ℕ
path left y to down = codes "<path class='arrow' marker-end='url(#head)' d='M" ++ way left y to down ++ codes "'>"

-- the arrow of a message from where it was sent to where it was handed over
unfoldable pub arrow : List Column → Origin → Id → ℕ → List ℕ
arrow columns o n row = path (left_of columns o.from) (y_of o.row + 4) (left_of columns n) (y_of row) ++ title o.text ++ codes "</path>\n"

abbrev pub arrow_from : List Column → Option Origin → Id → ℕ → List ℕ
arrow_from columns None n row = []
arrow_from columns (Some o) n row = arrow columns o n row

abbrev pub arrow_by : List Column → List Origin → Cursor → Said → List ℕ
arrow_by columns origins c (said.Delivery n k) = arrow_from columns (message_at origins c.sent k) n c.row
arrow_by columns origins c other = []

abbrev pub arrow_in : List Column → List Origin → Cursor → TraceLine → List ℕ
arrow_in columns origins c l = arrow_by columns origins c l.said

-- a short stroke to where a message is lost
unfoldable pub stub : ℕ → ℕ → ℕ → ℕ → List ℕ
stub x y to down = codes "<path class='lost' d='M" ++ point x y ++ codes "L" ++ point to down ++ codes "'>"

-- the end of the stroke, and a small cross there
unfoldable pub end_at : ℕ → ℕ → List ℕ
end_at x y = codes "</path><use href='#end' class='end" ++ at_place x y ++ codes "/>\n"

-- A message that was never handed over ends in a small cross; up to six of one row stand apart.
abbrev pub lost : ℕ → ℕ → ℕ → List ℕ → List ℕ
lost left y number line =
    stub (left + 24) y (left + 5 * (number % 2)) (y + 4 + 5 * (number / 2 % 3))
    ++ (title line ++ end_at (left + 5 * (number % 2)) (y + 4 + 5 * (number / 2 % 3)))
