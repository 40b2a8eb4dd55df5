use Rattle.std.proofs.Common.{◌≡◌, ◌++◌, take}
use Rattle.schedule_replay.proofs.cluster.node.keep_frames.Given as goal

abbrev pub invariant-loop-frame : goal.invariant-loop-frame
invariant-loop-frame l = l.frames.items ≡ l.fn.frames.items ++ take l.frame-index l.sends
