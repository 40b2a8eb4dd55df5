-- Part of the statement of `zen_chart`: where lifelines stand.
use Rattle.std.specs.Prelude.{ℕ, ◌+◌, ◌*◌, Option, None, Some, List, [], ◌∷◌, length, if◌then◌else◌, min, max}
use Rattle.std.specs.Str.{bytes_eq}
use Rattle.voting_config.specs.Ids.{Id, with_room}
use Rattle.trace_reader.specs.declared.said.Said.{Said}
use Rattle.trace_reader.specs.declared.said.Said.TheVariants as said
use Rattle.trace_reader.specs.declared.said.TraceLine.{TraceLine}
use Rattle.sequence_chart.specs.declared.columns.Column.{Column}
use Rattle.sequence_chart.specs.Labels.{label_of}

-- the node that a line tells of
abbrev pub node_of : Said → Id
node_of (said.Delivery n k) = n
node_of (said.Event n) = n
node_of (said.Act n e) = n
node_of (said.Won n t) = n
node_of (said.Committed n) = n
node_of (said.Sent n to) = n
node_of (said.Unsent n) = n
node_of (said.Misrouted n) = n
node_of (said.Crashed n) = n
node_of (said.Disk n) = n
node_of (said.Opened n) = n
node_of (said.Down n) = n
node_of (said.Up n) = n
node_of (said.Mode n m t) = n
node_of (said.Dropped n) = n
node_of (said.Replied n) = n

abbrev pub with_receiver : Said → List Id → List Id
with_receiver (said.Sent from (Some to)) ids = with_room ids to
with_receiver other ids = ids

-- the nodes of a trace: those that its lines tell of, and those that messages are for, as far as there is room
abbrev pub nodes_from : List Id → List TraceLine → List Id
nodes_from ids [] = ids
nodes_from ids (l ∷ ls) = nodes_from (with_receiver l.said (with_room ids (node_of l.said))) ls

-- how many characters wide the labels of a node are, with this number before: with a line more, and with all of these
abbrev pub widened : ℕ → Id → TraceLine → ℕ
widened most n l = if bytes_eq (node_of l.said) n then max most (min 48 (length (label_of l))) else most

abbrev pub widest_from : ℕ → Id → List TraceLine → ℕ
widest_from most n [] = most
widest_from most n (l ∷ ls) = widest_from (widened most n l) n ls

-- a lifeline for each node, from the left
abbrev pub columns_from : ℕ → List Id → List TraceLine → List Column
columns_from left [] lines = []
columns_from left (n ∷ ns) lines = record { node = n; left = left } ∷ columns_from (left + 44 + 6 * widest_from (length n) n lines) ns lines

-- how many units to the right the column of a node begins
abbrev pub left_of : List Column → Id → ℕ
left_of [] n = 0
left_of (c ∷ cs) n = if bytes_eq c.node n then c.left else left_of cs n
