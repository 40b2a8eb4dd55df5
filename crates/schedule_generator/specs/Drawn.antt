-- Part of the statement: the line of a step that three words give, after so many messages.
use Rattle.std.specs.Prelude.{ℕ, ◌+◌, ◌-◌, ◌/◌, ◌%◌, ◌==◌, List, [], ◌∷◌, codes, decimal, nat_lt, if◌then◌else◌}
use Rattle.voting_config.specs.Ids.{Id}
use Rattle.zen_disk.specs.declared.orders.Way.{Way}
use Rattle.zen_disk.specs.declared.orders.Way.TheVariants.{Lost, Kept, Torn}
use Rattle.voting_config.specs.Lists.{items_of}
use Rattle.schedule_text.specs.declared.schedule.Line.{Line}
use Rattle.schedule_text.specs.declared.schedule.Line.TheVariants.{StartJoin, Value, Deliver, Crash, Restart, Fuse}
use Rattle.schedule_generator.specs.declared.drawing.Draw.{Draw}

-- the node of a number: a of 0, b, c, d, and around again
abbrev pub node_of : ℕ → Id
node_of number = (97 + number % 4) ∷ []

-- the configuration that a word gives
abbrev pub config_of : ℕ → List Id
config_of word =
    if word % 4 == 0 then items_of (codes "a,b,c")
    else (if word % 4 == 1 then items_of (codes "a,b,c,d")
    else (if word % 4 == 2 then items_of (codes "b,c,d")
    else items_of (codes "a,b")))

-- what a stop leaves: none, all or torn:a5
abbrev pub way_of : ℕ → Way
way_of word =
    if word / 8 % 3 == 0 then Lost
    else (if word / 8 % 3 == 1 then Kept
    else Torn 0xa5)

-- the text of a step's value: s and the step in decimal
abbrev pub text_of : ℕ → List ℕ
text_of step = 115 ∷ decimal step

abbrev pub value_line : (step : ℕ) → (leader : Id) → (word : ℕ) → Line
value_line step leader word = Value leader (1 + step) (text_of step) (config_of word)

-- a crash by an even word, and a fuse of one to four calls by an odd one
abbrev pub stop_line : Id → (word : ℕ) → Line
stop_line id word = if word % 2 == 0 then Crash id (way_of word) else Fuse id (1 + word / 2 % 4) (way_of word)

-- one of the last eight messages, and the first where there is none so far back
abbrev pub ordinal_of : (sent word : ℕ) → ℕ
ordinal_of sent word = if nat_lt (word % 8) sent then sent - word % 8 else 1

-- The first word says of which kind the line is, the second its node, and the third the rest. The candidate and the term go on every
-- hundred steps.
abbrev pub line_of_kind : (kind step sent : ℕ) → (id leader : Id) → (word : ℕ) → Line
line_of_kind kind step sent id leader word =
    if nat_lt kind 2 then StartJoin id leader (1 + step / 100)
    else (if kind == 2 then value_line step leader word
    else (if kind == 3 then stop_line id word
    else (if nat_lt kind 7 then Restart id
    else Deliver id (ordinal_of sent word))))

abbrev pub drawn_line : (step sent : ℕ) → Draw → Line
drawn_line step sent d = line_of_kind (d.first % 16) step sent (node_of d.second) (node_of (step / 100)) d.third
