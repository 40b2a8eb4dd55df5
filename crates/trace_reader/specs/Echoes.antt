-- Part of the statement of `zen_chart`: what the echo of a line of a schedule tells.
use Rattle.std.specs.Prelude.{ℕ, Result, Ok, List, [], codes, get_or, if◌then◌else◌}
use Rattle.std.specs.Str.{bytes_eq}
use Rattle.voting_config.specs.Ids.{Id, is_id, with_room}
use Rattle.schedule_text.specs.declared.fault.WhyBad.{WhyBad}
use Rattle.schedule_text.specs.declared.level.Level.{Level}
use Rattle.schedule_text.specs.declared.level.Level.TheVariants.{Core, Node}
use Rattle.schedule_text.specs.declared.schedule.Line.{Line}
use Rattle.schedule_text.specs.declared.schedule.Line.TheVariants as line
use Rattle.schedule_text.specs.Words.{◌>>=◌}
use Rattle.voting_config.specs.Lists.{parts_of, items_of, are_ids_after, space}
use Rattle.schedule_text.specs.Lines.{line_at}
use Rattle.trace_reader.specs.declared.said.Said.{Said}
use Rattle.trace_reader.specs.declared.said.Said.TheVariants as said

-- the word of a line at this place, counted from 0, and nothing where there are fewer
abbrev pub word_at : (place : ℕ) → (line : List ℕ) → List ℕ
word_at place line = get_or (parts_of space line) place []

-- the level that has lines of this verb; a verb that both have says the same at both
abbrev pub level_of : List ℕ → Level
level_of verb =
    if bytes_eq verb (codes "tick") then Node
    else (if bytes_eq verb (codes "client") then Node
    else (if bytes_eq verb (codes "disconnect") then Node
    else Core))

-- ids with one more, where the word is an id and there is room for it
abbrev pub with_word : List ℕ → List Id → List Id
with_word w ids = if is_id w then with_room ids w else ids

-- the ids of a list, where the word is one
abbrev pub ids_in : List ℕ → List Id
ids_in w = if are_ids_after [] (items_of w) then items_of w else []

-- the word that is a list of nodes, which only a line `value` has: the bytes of a client may be words of any kind
abbrev pub list_at : List ℕ → List ℕ
list_at l = if bytes_eq (word_at 0 l) (codes "value") then word_at 4 l else []

-- The ids that stand where a line of a schedule may name nodes: its list, its second and its third word. The third may be a number, which
-- must not take the room of the second.
abbrev pub named_in : List ℕ → List Id
named_in l = with_word (word_at 2 l) (with_word (word_at 1 l) (ids_in (list_at l)))

abbrev pub said_by : Line → Said
said_by (line.Boot n) = said.Event n
said_by (line.StartJoin n c t) = said.Event n
said_by (line.Value n v x cfg) = said.Event n
said_by (line.Deliver n k) = said.Delivery n k
said_by (line.Crash n w) = said.Event n
said_by (line.Restart n) = said.Event n
said_by (line.Fuse n k w) = said.Event n
said_by (line.Fail n k) = said.Event n
said_by (line.Tick n m w) = said.Event n
said_by (line.Client n r) = said.Event n
said_by (line.Disconnect n p) = said.Event n

-- What is echoed must be a line of the schedules of the nodes that it names.
abbrev pub echo_at : List ℕ → Result Said WhyBad
echo_at bytes = line_at (level_of (word_at 0 bytes)) (named_in bytes) bytes >>= λ l. Ok (said_by l)
