use Rattle.std.proofs.Common.{◌≡◌, ◌++◌, map, drop}
use Rattle.schedule_text.specs.Lines.{line_text}
use Rattle.schedule_text.specs.Spelled.{with_feeds}
use Rattle.schedule_text.proofs.writing.write_lines.Given as goal

abbrev pub invariant-loop-line : goal.invariant-loop-line
invariant-loop-line l = l.text ++ with_feeds (map line_text (drop l.line-index l.lines)) ≡ l.initial.text ++ with_feeds (map line_text l.lines)
