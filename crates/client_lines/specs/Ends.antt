-- For the contracts inside: lines that end in bytes, one line feed after another.
use Rattle.std.specs.Prelude.{◌≡◌, ◌≤◌, ℕ, ◌-◌, ◌==◌, not, List, ◌++◌, length, take, drop, IsTrue}
use Rattle.std.specs.List.{list_all}
use Rattle.voting_config.specs.Lists.{line_feed}
use Rattle.client_lines.specs.Lines.{kept, lines_of, rest_of, IsHeld}

abbrev pub has_no_feed : List ℕ → Type 0
has_no_feed bytes = IsTrue (list_all (λ b. not (b == line_feed)) bytes)

-- the lines so far and those behind the first bytes, so many, are all of them; of what is behind them the bytes up to a place have no line
-- feed
pub record IsEnding (lines : List (List ℕ)) (used seen : ℕ) (bytes : List ℕ) : Type 0 where
  pub all : lines ++ lines_of (drop used bytes) ≡ lines_of bytes
  pub rest : rest_of (drop used bytes) ≡ rest_of bytes
  pub clean : has_no_feed (take (seen - used) (drop used bytes))
  pub order : used ≤ seen
  pub within : seen ≤ length bytes

-- the lines are all that end, and what is behind them is held
pub record IsWhole (lines : List (List ℕ)) (used : ℕ) (bytes : List ℕ) : Type 0 where
  pub all : lines ≡ lines_of bytes
  pub rest : kept (drop used bytes) ≡ rest_of bytes
  pub held : IsHeld (kept (drop used bytes))
  pub within : used ≤ length bytes
