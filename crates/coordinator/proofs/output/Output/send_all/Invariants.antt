use Rattle.std.proofs.Common.{◌≡◌, ◌++◌, map, drop}
use Rattle.voting_config.specs.Ids.{Id}
use Rattle.wire_frames.specs.declared.frame.Frame.{Frame}
use Rattle.coordinator.specs.Broadcasts.{message_of}
use Rattle.coordinator.specs.Plans.{frame_to}
use Rattle.coordinator.specs.Rooms.{Uses}
use Rattle.coordinator.specs.Showing.{Shown, shown_in}
use Rattle.coordinator.proofs.output.Output.send_all.Given as goal

abbrev pub invariant-loop-to : goal.invariant-loop-to
invariant-loop-to l =
    let f : Id → Frame = λ (to : Id). frame_to l.me (message_of l.what) to in
    let now : Shown = shown_in l.self in
    (record now { frames = now.frames ++ map f (drop l.to-index l.ids) } ≡ record (shown_in l.fn.self) { frames = (shown_in l.fn.self).frames ++ map f l.ids }) × Uses l.fn.self l.self 0 l.to-index 0
