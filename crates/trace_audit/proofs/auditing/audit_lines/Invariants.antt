use Rattle.std.proofs.Common.{◌≡◌, ◌+◌, ◌≤◌, ◌∷◌, [], List, length}
use Rattle.voting_config.specs.Lists.{parts_of, parts_in, left_in}
use Rattle.recorded_trace.specs.Reading.{Numbered, lines_at}
use Rattle.trace_audit.specs.Stands.{SoFar}
use Rattle.trace_audit.proofs.auditing.audit_lines.Given as goal

abbrev pub invariant-loop-rest : goal.invariant-loop-rest
invariant-loop-rest l =
    (prefix : List Numbered)
    × (lines_at l.progress prefix (l.line ∷ parts_in 10 l.rest) ≡ lines_at l.fn.start [] (parts_of 10 l.fn.text))
    × SoFar l.fn.initial l.auditor l.so_far.broken prefix
    × (l.so_far.entries ≡ length prefix)
    × (length prefix ≤ l.progress.number)
    × (l.progress.before + length l.line + left_in l.rest ≡ l.fn.start.before + length l.fn.text)
    × (l.progress.number + length l.line + left_in l.rest ≤ l.fn.start.number + length l.fn.text)

abbrev pub decreases-loop-rest : goal.decreases-loop-rest
decreases-loop-rest l = left_in l.rest
