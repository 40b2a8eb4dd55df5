-- Part of the statement: what bytes are read as: the schedule, or the first bad line and why it is bad.
use Rattle.std.specs.Prelude.{ℕ, ◌+◌, Bool, true, false, ◌&&◌, Option, None, Some, Result, Ok, Err, List, [], ◌∷◌, ◌++◌, length, codes, nat_lt, if◌then◌else◌}
use Rattle.std.specs.Str.{bytes_eq}
use Rattle.voting_config.specs.Ids.{Id, are_among}
use Rattle.schedule_text.specs.declared.fault.WhyBad.{WhyBad}
use Rattle.schedule_text.specs.declared.fault.WhyBad.TheVariants as why
use Rattle.schedule_text.specs.declared.fault.BadSchedule.{BadSchedule}
use Rattle.schedule_text.specs.declared.level.Level.{Level}
use Rattle.schedule_text.specs.declared.level.Level.TheVariants.{Core, Node}
use Rattle.schedule_text.specs.declared.place.Place.{Place}
use Rattle.schedule_text.specs.declared.schedule.Line.{Line}
use Rattle.schedule_text.specs.declared.schedule.Schedule.{Schedule}
use Rattle.schedule_text.specs.Limits.{most_bytes, most_lines, most_line_bytes}
use Rattle.voting_config.specs.Lists.{parts_of, line_feed}
use Rattle.schedule_text.specs.Words.{◌>>=◌, Word, list, is_some_list}
use Rattle.schedule_text.specs.Lines.{one_word, words_of, line_at}

abbrev pub first_place : Place
first_place = record { number = 1; before = 0 }

-- the place after this line and its line feed
abbrev pub after_line : Place → List ℕ → Place
after_line p line = record { number = p.number + 1; before = p.before + length line + 1 }

-- the line with its line feed, where it has one, reaches past the greatest size; or it is one too many; or it ends without a line feed; or
-- it is too long
abbrev pub sized_at : Place → List ℕ → Result (List ℕ) WhyBad
sized_at p line =
    if nat_lt most_bytes (p.before + length line + 1) then Err why.TooBig
    else (if nat_lt most_lines p.number then Err why.TooMany
    else (if nat_lt most_line_bytes (length line) then Err why.TooLong
    else Ok line))

-- why a last line without a line feed is bad
abbrev pub why_cut : Place → List ℕ → WhyBad
why_cut p line =
    if nat_lt most_bytes (p.before + length line) then why.TooBig
    else (if nat_lt most_lines p.number then why.TooMany
    else why.NoNewline)

-- a fault of a line, by its number
abbrev pub in_line : {A : Type 0} → Place → Result A WhyBad → Result A BadSchedule
in_line p (Ok x) = Ok x
in_line p (Err why) = Err (record { line = p.number; why = why })

infixl 10 ◌>>>◌
abbrev pub ◌>>>◌ : {A B : Type 0} → Result A BadSchedule → (A → Result B BadSchedule) → Result B BadSchedule
(Ok x) >>> f = f x
(Err e) >>> f = Err e

-- ---- the header

-- each fault of a header line is Header
abbrev pub as_header : Result (List Id) WhyBad → Result (List Id) WhyBad
as_header (Ok ids) = Ok ids
as_header (Err e) = Err why.Header

abbrev pub any_list : Word (List Id)
any_list = list (λ ids. true)

abbrev pub header_words : List ℕ → List (List ℕ) → Result (List Id) WhyBad
header_words name [] = Err why.Header
header_words name (v ∷ ws) = if bytes_eq v name then as_header (one_word ws >>= any_list.at) else Err why.Header

-- the list of a header line, after its name
abbrev pub header_at : List ℕ → Place → List ℕ → Result (List Id) BadSchedule
header_at name p line = in_line p (sized_at p line >>= λ l. header_words name (words_of l))

-- it passes the test, or its line is no header line
abbrev pub passing : (List Id → Bool) → Place → List Id → Result (List Id) BadSchedule
passing good p ids = if good ids then Ok ids else Err (record { line = p.number; why = why.Header })

-- the nodes, one or more; the initial ones, one or more of them; and the voting-only ones, any of them
abbrev pub first_line_at : Place → List ℕ → Result (List Id) BadSchedule
first_line_at p line = header_at (codes "nodes") p line >>> passing is_some_list p

abbrev pub second_line_at : List Id → Place → List ℕ → Result (List Id) BadSchedule
second_line_at nodes p line = header_at (codes "initial") p line >>> passing (λ ids. is_some_list ids && are_among nodes ids) p

abbrev pub voting_only_line_at : List Id → Place → List ℕ → Result (List Id) BadSchedule
voting_only_line_at nodes p line = header_at (codes "voting-only") p line >>> passing (are_among nodes) p

-- the profile, which is named where it is the second
abbrev pub second_profile : List ℕ → Result Bool WhyBad
second_profile line = if bytes_eq line (codes "profile 2") then Ok true else Err why.Header

abbrev pub profile_line_at : Place → List ℕ → Result Bool BadSchedule
profile_line_at p line = in_line p (sized_at p line >>= second_profile)

-- the line is to be a further one of the header, at level node alone: it begins with the name of that one
abbrev pub begins : List ℕ → List (List ℕ) → Bool
begins name [] = false
begins name (v ∷ ws) = bytes_eq v name

abbrev pub is_named : Level → List ℕ → List ℕ → Bool
is_named Core name line = false
is_named Node name line = begins name (words_of line)

-- ---- the lines

-- one line that has its line feed
abbrev pub one_line_at : Level → List Id → Place → List ℕ → Result Line BadSchedule
one_line_at level ids p line = in_line p (sized_at p line >>= line_at level ids)

-- what the bytes after the last line feed are: nothing, or a line without one
abbrev pub end_at : {A : Type 0} → Place → List ℕ → A → Result A BadSchedule
end_at p [] x = Ok x
end_at p (b ∷ bs) x = Err (record { line = p.number; why = why_cut p (b ∷ bs) })

-- the lines from this place on, after those before it, of what stands between line feeds
abbrev pub lines_at : Level → List Id → Place → List Line → List (List ℕ) → Result (List Line) BadSchedule
lines_at level ids p prefix [] = Ok prefix
lines_at level ids p prefix (line ∷ []) = end_at p line prefix
lines_at level ids p prefix (line ∷ next ∷ more) =
    one_line_at level ids p line >>> λ l. lines_at level ids (after_line p line) (prefix ++ l ∷ []) (next ∷ more)

abbrev pub pieces : List ℕ → List (List ℕ)
pieces bytes = parts_of line_feed bytes

-- where the text ends before its second header line
abbrev pub no_initial : {A : Type 0} → Place → List ℕ → Result A BadSchedule
no_initial p [] = Err (record { line = p.number; why = why.Header })
no_initial p (b ∷ bs) = Err (record { line = p.number; why = why_cut p (b ∷ bs) })

-- the lines after a header
abbrev pub with_lines_at : Level → (nodes initial voting_only : List Id) → (second : Bool) → Place → List (List ℕ) → Result Schedule BadSchedule
with_lines_at level nodes initial voting_only second p parts =
    lines_at level nodes p [] parts >>> λ lines.
    Ok (record { nodes = nodes; initial = initial; voting_only = voting_only; second = second; lines = lines })

-- what a line says that may stand here, and what it is where there is none; and what follows it
abbrev pub optional_at : {X : Type 0} → (List ℕ → Bool) → (Place → List ℕ → Result X BadSchedule) → X → (X → Place → List (List ℕ) → Result Schedule BadSchedule) → Place → List (List ℕ) → Result Schedule BadSchedule
optional_at is_there read none next p [] = next none p []
optional_at is_there read none next p (line ∷ []) = next none p (line ∷ [])
optional_at is_there read none next p (line ∷ more ∷ others) =
    if is_there line
    then (read p line >>> λ x. next x (after_line p line) (more ∷ others))
    else next none p (line ∷ more ∷ others)

-- the header line of the profile, where it is there, and the lines
abbrev pub profile_at : Level → (nodes initial voting_only : List Id) → Place → List (List ℕ) → Result Schedule BadSchedule
profile_at level nodes initial voting_only =
    optional_at (is_named level (codes "profile")) profile_line_at false (with_lines_at level nodes initial voting_only)

-- the header line of the voting-only nodes, where it is there, and what follows it
abbrev pub voting_only_at : Level → (nodes initial : List Id) → Place → List (List ℕ) → Result Schedule BadSchedule
voting_only_at level nodes initial =
    optional_at (is_named level (codes "voting-only")) (voting_only_line_at nodes) [] (profile_at level nodes initial)

-- the second header line, which must be there, and what follows it
abbrev pub initial_at : Level → List Id → Place → List (List ℕ) → Result Schedule BadSchedule
initial_at level ids p [] = Err (record { line = p.number; why = why.Header })
initial_at level ids p (line ∷ []) = no_initial p line
initial_at level ids p (line ∷ next ∷ more) =
    second_line_at ids p line >>> λ initial.
    voting_only_at level ids initial (after_line p line) (next ∷ more)

-- the schedule of no bytes
abbrev pub no_schedule : Schedule
no_schedule = record { nodes = []; initial = []; voting_only = []; second = false; lines = [] }

abbrev pub nodes_at : Level → Place → List (List ℕ) → Result Schedule BadSchedule
nodes_at level p [] = Ok no_schedule
nodes_at level p (line ∷ []) = end_at p line no_schedule
nodes_at level p (line ∷ next ∷ more) =
    first_line_at p line >>> λ ids.
    initial_at level ids (after_line p line) (next ∷ more)

-- the schedule that the bytes spell, or the first bad line and why it is bad
abbrev pub schedule_at : Level → List ℕ → Result Schedule BadSchedule
schedule_at level bytes = nodes_at level first_place (pieces bytes)

abbrev pub fault_in : {A : Type 0} → Result A BadSchedule → Option BadSchedule
fault_in (Ok x) = None
fault_in (Err bad) = Some bad

abbrev pub fault_of : Level → List ℕ → Option BadSchedule
fault_of level bytes = fault_in (schedule_at level bytes)
