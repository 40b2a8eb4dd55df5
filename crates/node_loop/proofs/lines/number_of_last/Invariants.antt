use Rattle.std.proofs.Common.{◌≡◌, drop}
use Rattle.node_loop.specs.Texts.{number_after}
use Rattle.node_loop.proofs.lines.number_of_last.Given as goal

abbrev pub invariant-loop-frame : goal.invariant-loop-frame
invariant-loop-frame l = number_after l.last (drop l._frame-index l.frames) ≡ number_after l.number l.frames
