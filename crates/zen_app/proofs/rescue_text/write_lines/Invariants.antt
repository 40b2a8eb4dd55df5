use Rattle.std.proofs.Common.{◌≡◌, ◌++◌, map, take}
use Rattle.schedule_text.specs.Lines.{line_text}
use Rattle.schedule_text.specs.Spelled.{with_feeds}
use Rattle.zen_app.proofs.rescue_text.write_lines.Given as goal

abbrev pub invariant-loop-line : goal.invariant-loop-line
invariant-loop-line l = l.text ≡ l.fn.text ++ with_feeds (map (λ x. line_text x) (take l.line-index l.lines))
