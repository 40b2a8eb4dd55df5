-- Part of the statement: how many lines of each kind a trace has. `with_line` and `after_lines` are for the contracts inside.
use Rattle.std.specs.Prelude.{ℕ, ◌+◌, Bool, ◌&&◌, List, [], ◌∷◌, codes, count_by, get_or, nat_eq, if◌then◌else◌}
use Rattle.std.specs.List.{starts_with}
use Rattle.std.specs.Str.{bytes_eq}
use Rattle.voting_config.specs.Lists.{parts_of, line_feed, space}
use Rattle.trace_summary.specs.declared.counts.Counts.{Counts}

-- what stands between the line feeds of a text
abbrev pub lines_of : List ℕ → List (List ℕ)
lines_of text = parts_of line_feed text

-- the word of a line at this place, counted from 0, and nothing where there are fewer
abbrev pub word_at : (place : ℕ) → (line : List ℕ) → List ℕ
word_at place line = get_or (parts_of space line) place []

-- ---- the kinds of lines

-- the echo of a line of the schedule
abbrev pub is_step : List ℕ → Bool
is_step line = bytes_eq (word_at 0 line) (codes ">")

-- an act, after whose node stands how it ended
abbrev pub is_act : List ℕ → Bool
is_act line = bytes_eq (word_at 0 line) (codes "act")

-- an act that was refused
abbrev pub is_refused : List ℕ → Bool
is_refused line = is_act line && starts_with nat_eq (word_at 2 line) (codes "refused:")

-- an election that was won
abbrev pub is_won : List ℕ → Bool
is_won line = bytes_eq (word_at 0 line) (codes "won")

-- a state that was committed
abbrev pub is_committed : List ℕ → Bool
is_committed line = bytes_eq (word_at 0 line) (codes "committed")

-- a node that crashed, in an act or not
abbrev pub is_crash : List ℕ → Bool
is_crash line = if is_act line then bytes_eq (word_at 2 line) (codes "crashed") else bytes_eq (word_at 0 line) (codes "crashed")

-- ---- counts

abbrev pub counts_in : List (List ℕ) → Counts
counts_in lines = record {
  steps = count_by is_step lines;
  acts = count_by is_act lines;
  refused = count_by is_refused lines;
  won = count_by is_won lines;
  committed = count_by is_committed lines;
  crashes = count_by is_crash lines;
}

abbrev pub no_counts : Counts
no_counts = record { steps = 0; acts = 0; refused = 0; won = 0; committed = 0; crashes = 0 }

-- with one more line, and with more lines
unfoldable pub with_line : Counts → List ℕ → Counts
with_line c line = record {
  steps = c.steps + (if is_step line then 1 else 0);
  acts = c.acts + (if is_act line then 1 else 0);
  refused = c.refused + (if is_refused line then 1 else 0);
  won = c.won + (if is_won line then 1 else 0);
  committed = c.committed + (if is_committed line then 1 else 0);
  crashes = c.crashes + (if is_crash line then 1 else 0);
}

abbrev pub after_lines : Counts → List (List ℕ) → Counts
after_lines c [] = c
after_lines c (line ∷ lines) = after_lines (with_line c line) lines
