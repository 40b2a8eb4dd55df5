use Rattle.std.proofs.Common.{◌≡◌, ◌++◌, map, take}
use Rattle.voting_config.specs.Ids.{Id, among}
use Rattle.wire_frames.specs.declared.frame.Frame.{Frame}
use Rattle.wire_frames.specs.declared.frame.WireMessage.TheVariants as message
use Rattle.coordinator.specs.Plans.{frame_to}
use Rattle.coordinator.specs.Rooms.{Uses}
use Rattle.coordinator.specs.Showing.{shown_in}
use Rattle.coordinator.proofs.responding.send_commits.Given as goal

abbrev pub invariant-loop-to : goal.invariant-loop-to
invariant-loop-to l =
    let f : Id → Frame = λ (to : Id). frame_to l.me (message.Commit l.id) to in
    (shown_in l.out ≡ record (shown_in l.fn.out) { frames = (shown_in l.fn.out).frames ++ map f (among (take l.to-index l.ids) l.others) }) × Uses l.fn.out l.out 0 l.to-index 0
