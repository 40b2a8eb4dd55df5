use Rattle.std.proofs.Common.{◌≡◌, drop}
use Rattle.std.specs.List.{list_any}
use Rattle.zen_app.specs.Choosing.{is_long}
use Rattle.zen_app.proofs.rescuing.has_long.Given as goal

abbrev pub invariant-loop-line : goal.invariant-loop-line
invariant-loop-line l = list_any is_long l.lines ≡ list_any is_long (drop l.line-index l.lines)
