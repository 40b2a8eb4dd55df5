-- For the contracts inside: neither how bytes are cut into pieces nor what a line loses makes a difference.
use Rattle.std.specs.Prelude.{◌≡◌, ℕ, List, ◌++◌}
use Rattle.client_lines.specs.Lines.{kept, lines_of, rest_of}
use Rattle.client_lines.specs.Reading.{line_request}

-- bytes in two pieces, the second after what is held of the first, give the lines and the rest that they give in one
pub record CutsAnywhere (prefix back : List ℕ) : Type 0 where
  pub lines : lines_of (prefix ++ back) ≡ lines_of prefix ++ lines_of (rest_of prefix ++ back)
  pub rest : rest_of (prefix ++ back) ≡ rest_of (rest_of prefix ++ back)

-- what is kept of a line is read as the whole line is
abbrev pub KeepsEnough : List ℕ → Type 0
KeepsEnough line = line_request (kept line) ≡ line_request line
