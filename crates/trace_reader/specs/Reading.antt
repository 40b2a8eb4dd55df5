-- Part of the statement of `zen_chart`: what bytes are read as, the lines of a trace or the first bad line and why it is bad.
use Rattle.std.specs.Prelude.{ℕ, ◌+◌, Option, None, Some, Result, Ok, Err, List, [], ◌∷◌, ◌++◌, length, codes, nat_lt, if◌then◌else◌}
use Rattle.std.specs.List.{join_with_byte}
use Rattle.std.specs.Str.{bytes_eq}
use Rattle.voting_config.specs.Ids.{Id}
use Rattle.schedule_text.specs.declared.fault.WhyBad.{WhyBad}
use Rattle.schedule_text.specs.declared.fault.WhyBad.TheVariants as why
use Rattle.schedule_text.specs.Words.{◌>>=◌}
use Rattle.voting_config.specs.Lists.{parts_of, space, line_feed}
use Rattle.schedule_text.specs.Lines.{words_of}
use Rattle.trace_reader.specs.declared.fault.BadTrace.{BadTrace}
use Rattle.trace_reader.specs.declared.progress.Progress.{Progress}
use Rattle.trace_reader.specs.declared.said.Said.{Said}
use Rattle.trace_reader.specs.declared.said.Said.TheVariants as said
use Rattle.trace_reader.specs.declared.said.TraceLine.{TraceLine}
use Rattle.trace_reader.specs.Limits.{most_trace_bytes, most_trace_lines}
use Rattle.trace_reader.specs.Echoes.{echo_at}
use Rattle.trace_reader.specs.Results.{result_at}

-- ---- what the lines so far come to

abbrev pub first_progress : Progress
first_progress = record { number = 1; before = 0; actor = None; next = 1 }

-- the node of the last line of the schedule
abbrev pub actor_after : Option Id → Said → Option Id
actor_after before (said.Delivery n k) = Some n
actor_after before (said.Event n) = Some n
actor_after before other = before

-- the number of the next message
abbrev pub next_after : ℕ → Said → ℕ
next_after next (said.Sent from to) = next + 1
next_after next other = next

abbrev pub after_line : Progress → List ℕ → Said → Progress
after_line p line t = record
    { number = p.number + 1; before = p.before + length line + 1; actor = actor_after p.actor t; next = next_after p.next t }

-- ---- a line

-- the line with its line feed reaches past the greatest size, or it is one too many
abbrev pub sized_at : Progress → List ℕ → Result (Unit {0}) WhyBad
sized_at p line =
    if nat_lt most_trace_bytes (p.before + length line + 1) then Err why.TooBig
    else (if nat_lt most_trace_lines p.number then Err why.TooMany
    else Ok tt)

-- why a last line without a line feed is bad
abbrev pub why_cut : Progress → List ℕ → WhyBad
why_cut p line =
    if nat_lt most_trace_bytes (p.before + length line) then why.TooBig
    else (if nat_lt most_trace_lines p.number then why.TooMany
    else why.NoNewline)

-- the words after the first one as they stood
abbrev pub rest_of : List (List ℕ) → Result (List ℕ) WhyBad
rest_of [] = Err why.Arity
rest_of (w ∷ ws) = Ok (join_with_byte space (w ∷ ws))

-- a result stands after a line of the schedule
abbrev pub result_behind : Option Id → ℕ → List ℕ → List (List ℕ) → Result Said WhyBad
result_behind None next verb ws = Err why.Header
result_behind (Some actor) next verb ws = result_at actor next verb ws

abbrev pub words_said : Progress → List (List ℕ) → Result Said WhyBad
words_said p [] = Err why.Verb
words_said p (verb ∷ ws) = if bytes_eq verb (codes ">") then rest_of ws >>= echo_at else result_behind p.actor p.next verb ws

-- what a line tells
abbrev pub said_at : Progress → List ℕ → Result Said WhyBad
said_at p line = sized_at p line >>= λ u. words_said p (words_of line)

-- ---- the lines

-- a fault of a line, by its number
abbrev pub in_line : {A : Type 0} → Progress → Result A WhyBad → Result A BadTrace
in_line p (Ok x) = Ok x
in_line p (Err why) = Err (record { line = p.number; why = why })

infixl 10 ◌>>>◌
abbrev pub ◌>>>◌ : {A B : Type 0} → Result A BadTrace → (A → Result B BadTrace) → Result B BadTrace
(Ok x) >>> f = f x
(Err e) >>> f = Err e

-- a line with what it tells
abbrev pub line_at : Progress → List ℕ → Result TraceLine BadTrace
line_at p line = in_line p (said_at p line >>= λ t. Ok (record { text = line; said = t }))

-- what the bytes after the last line feed are: nothing, or a line without one
abbrev pub end_at : {A : Type 0} → Progress → List ℕ → A → Result A BadTrace
end_at p [] x = Ok x
end_at p (b ∷ bs) x = Err (record { line = p.number; why = why_cut p (b ∷ bs) })

-- the lines from here on, after those that were read, of what stands between line feeds
abbrev pub lines_at : Progress → List TraceLine → List (List ℕ) → Result (List TraceLine) BadTrace
lines_at p prefix [] = Ok prefix
lines_at p prefix (line ∷ []) = end_at p line prefix
lines_at p prefix (line ∷ next ∷ more) = line_at p line >>> λ l. lines_at (after_line p line l.said) (prefix ++ l ∷ []) (next ∷ more)

-- The lines of the trace that the bytes are, or the first bad line and why it is bad.
abbrev pub trace_at : List ℕ → Result (List TraceLine) BadTrace
trace_at bytes = lines_at first_progress [] (parts_of line_feed bytes)
