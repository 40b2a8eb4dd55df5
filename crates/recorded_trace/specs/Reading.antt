-- Part of the statement: what bytes are read as: a recorded trace, or the first bad line and why it is bad.
use Rattle.std.specs.Prelude.{ℕ, ◌+◌, Option, None, Some, Result, Ok, Err, List, [], ◌∷◌, ◌++◌, length, nat_lt, if◌then◌else◌}
use Rattle.voting_config.specs.Ids.{Id}
use Rattle.voting_config.specs.Lists.{parts_of, line_feed}
use Rattle.recorded_trace.specs.declared.entry.Entry.{Entry}
use Rattle.recorded_trace.specs.declared.fault.BadTrace.{BadTrace}
use Rattle.recorded_trace.specs.declared.fault.Why.{Why}
use Rattle.recorded_trace.specs.declared.fault.Why.TheVariants as bad
use Rattle.recorded_trace.specs.declared.progress.Progress.{Progress}
use Rattle.recorded_trace.specs.Lines.{header_at, shown_at}

-- the greatest size of a recorded trace, in bytes
abbrev pub most_bytes : ℕ
most_bytes = 67108864

-- an entry, and the number of its line
pub record Numbered : Type 0 where
  pub line : ℕ
  pub entry : Entry

-- the initial configuration, and the entries in order
pub record Recording : Type 0 where
  pub initial : List Id
  pub entries : List Numbered

abbrev pub first_progress : Progress
first_progress = record { number = 1; before = 0 }

abbrev pub after_line : Progress → List ℕ → Progress
after_line p line = record { number = p.number + 1; before = p.before + length line + 1 }

-- the line, which has its line feed, reads as this unless it reaches past the greatest size
abbrev pub sized : {A : Type 0} → Progress → List ℕ → Result A Why → Result A Why
sized p line read = if nat_lt most_bytes (p.before + length line + 1) then Err bad.TooBig else read

-- why a last line without a line feed is bad
abbrev pub why_cut : Progress → List ℕ → Why
why_cut p line = if nat_lt most_bytes (p.before + length line) then bad.TooBig else bad.NoNewline

-- a fault of a line, by its number
abbrev pub in_line : {A : Type 0} → Progress → Result A Why → Result A BadTrace
in_line p (Ok x) = Ok x
in_line p (Err why) = Err (record { line = p.number; why = why })

infixl 10 ◌>>>◌
abbrev pub ◌>>>◌ : {A B : Type 0} → Result A BadTrace → (A → Result B BadTrace) → Result B BadTrace
(Ok x) >>> f = f x
(Err e) >>> f = Err e

abbrev pub with_entry : Progress → List Numbered → Option Entry → List Numbered
with_entry p prefix None = prefix
with_entry p prefix (Some entry) = prefix ++ record { line = p.number; entry = entry } ∷ []

-- what stands after the last line feed: nothing, or a line without one
abbrev pub end_at : {A : Type 0} → Progress → List ℕ → A → Result A BadTrace
end_at p [] x = Ok x
end_at p (b ∷ bs) x = Err (record { line = p.number; why = why_cut p (b ∷ bs) })

-- the entries from here on, after those that were read, of what stands between line feeds
abbrev pub lines_at : Progress → List Numbered → List (List ℕ) → Result (List Numbered) BadTrace
lines_at p prefix [] = Ok prefix
lines_at p prefix (line ∷ []) = end_at p line prefix
lines_at p prefix (line ∷ next ∷ more) =
    in_line p (sized p line (shown_at line)) >>> λ told. lines_at (after_line p line) (with_entry p prefix told) (next ∷ more)

-- the first line, which is no line where there are no bytes
abbrev pub no_header : List ℕ → Why
no_header [] = bad.Header
no_header (b ∷ bs) = why_cut first_progress (b ∷ bs)

abbrev pub parts_read : List (List ℕ) → Result Recording BadTrace
parts_read [] = Err (record { line = 1; why = bad.Header })
parts_read (line ∷ []) = Err (record { line = 1; why = no_header line })
parts_read (line ∷ next ∷ more) =
    in_line first_progress (sized first_progress line (header_at line)) >>> λ initial.
    lines_at (after_line first_progress line) [] (next ∷ more) >>> λ entries.
    Ok (record { initial = initial; entries = entries })

-- the trace that the bytes record, or the first bad line and why it is bad
abbrev pub recording_of : List ℕ → Result Recording BadTrace
recording_of bytes = parts_read (parts_of line_feed bytes)
