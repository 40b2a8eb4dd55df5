-- Part of the statement: the summary of a trace.
use Rattle.std.specs.Prelude.{ℕ, List, length}
use Rattle.sha2.specs.Sha256.{sha256}
use Rattle.trace_summary.specs.Counted.{counts_in, lines_of}
use Rattle.trace_summary.specs.declared.summary.Summary.{Summary}

-- its lines by their kinds, how many bytes it has, and the SHA-256 of these
unfoldable pub summary_of : List ℕ → Summary
summary_of text = record { counts = counts_in (lines_of text); trace_bytes = length text; digest = sha256 text }
