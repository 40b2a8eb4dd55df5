-- Part of the statement: lines of bytes.
use Rattle.std.specs.Prelude.{ℕ, ◌≤◌, ◌==◌, not, if◌then◌else◌, List, [], ◌∷◌, length, map, take, IsTrue, ◌+◌}
use Rattle.std.specs.List.{list_all}
use Rattle.voting_config.specs.Lists.{line_feed}

-- bytes cut at their line feeds: what stands before each of them, and what stands after the last one
pub record Cut : Type 0 where
  pub ended : List (List ℕ)
  pub rest : List ℕ

-- a byte before the first line
abbrev pub in_front : ℕ → List (List ℕ) → List ℕ → Cut
in_front b [] rest = record { ended = []; rest = b ∷ rest }
in_front b (line ∷ lines) rest = record { ended = (b ∷ line) ∷ lines; rest = rest }

abbrev pub cut : List ℕ → Cut
cut [] = record { ended = []; rest = [] }
cut (b ∷ bytes) =
    if b == line_feed then record { ended = [] ∷ (cut bytes).ended; rest = (cut bytes).rest }
    else in_front b (cut bytes).ended (cut bytes).rest

-- how many bytes a good line has at most
abbrev pub most_line : ℕ
most_line = 8192

-- a line keeps one byte more than a good one has
abbrev pub kept : List ℕ → List ℕ
kept line = take (most_line + 1) line

-- the lines that end in the bytes
abbrev pub lines_of : List ℕ → List (List ℕ)
lines_of bytes = map kept (cut bytes).ended

-- what has come of a line that has not ended
abbrev pub rest_of : List ℕ → List ℕ
rest_of bytes = kept (cut bytes).rest

-- what a reader may hold: the first bytes of a line
pub record IsHeld (held : List ℕ) : Type 0 where
  pub no_line_feed : IsTrue (list_all (λ b. not (b == line_feed)) held)
  pub short : length held ≤ most_line + 1
