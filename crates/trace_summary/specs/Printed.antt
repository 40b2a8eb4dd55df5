-- Part of the statement: the printed form of a summary.
use Rattle.std.specs.Prelude.{ℕ, List, ◌++◌, codes, decimal}
use Rattle.hex.specs.Hex.{encode_lower}
use Rattle.trace_summary.specs.declared.counts.Counts.{Counts}
use Rattle.trace_summary.specs.declared.summary.Summary.{Summary}

-- a name and a number
abbrev pub named_text : List ℕ → ℕ → List ℕ
named_text name number = name ++ codes "=" ++ decimal number ++ codes "\n"

abbrev pub counts_text : Counts → List ℕ
counts_text c =
    named_text (codes "steps") c.steps ++ named_text (codes "acts") c.acts ++ named_text (codes "refused") c.refused
    ++ named_text (codes "won") c.won
    ++ named_text (codes "committed") c.committed ++ named_text (codes "crashes") c.crashes

-- bytes in lower-case hexadecimal
unfoldable pub hex_text : List ℕ → List ℕ
hex_text bytes = encode_lower bytes

abbrev pub digest_text : List ℕ → List ℕ
digest_text digest = codes "trace_sha256=" ++ hex_text digest ++ codes "\n"

-- the eight lines
abbrev pub summary_text : Summary → List ℕ
summary_text s = counts_text s.counts ++ named_text (codes "trace_bytes") s.trace_bytes ++ digest_text s.digest
