use Rattle.std.proofs.Common.{◌≡◌, ◌++◌, drop}
use Rattle.node_loop.specs.Texts.{numbered, number_after}
use Rattle.node_loop.proofs.lines.write_numbered.Given as goal

abbrev pub invariant-loop-frame : goal.invariant-loop-frame
invariant-loop-frame l = record {
  text : l.text ++ numbered l.number (drop l.frame-index l.frames) ≡ l.initial.text ++ numbered l.initial.number l.frames;
  last : number_after l.number (drop l.frame-index l.frames) ≡ number_after l.initial.number l.frames;
}
