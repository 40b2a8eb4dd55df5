-- For the contracts inside: what a tally stands for.
use Rattle.std.specs.Prelude.{◌≡◌, ℕ, List, [], ◌∷◌, ◌++◌, length}
use Rattle.voting_config.specs.Lists.{line_feed}
use Rattle.sha2.specs.Hashers.{Holds256}
use Rattle.trace_summary.specs.Counted.{counts_in, lines_of}
use Rattle.trace_summary.specs.declared.summary.Tally.{Tally}

-- the text is empty, or ends with a line feed
pub data EndsLine : List ℕ → Type 0 where
  Empty : EndsLine []
  Fed : (prefix : List ℕ) → EndsLine (prefix ++ line_feed ∷ [])

-- the tally is that of the text
pub record Tallies (tally : Tally) (text : List ℕ) : Type 0 where
  pub counts_are : tally.counts ≡ counts_in (lines_of text)
  pub bytes_are : tally.trace_bytes ≡ length text
  pub hashed : Holds256 tally.hasher text
