use Rattle.std.proofs.Common.{◌≡◌, ◌+◌, ◌++◌, drop}
use Rattle.event_text.specs.Frames.{frames_text}
use Rattle.event_text.proofs.frames.write_frames.Given as goal

abbrev pub invariant-loop-frame : goal.invariant-loop-frame
invariant-loop-frame l = record {
  counted : l.number ≡ l.fn.count + l.frame-index;
  text : l.text ++ frames_text l.number (drop l.frame-index l.frames) ≡ l.initial.text ++ frames_text l.fn.count l.frames;
}
