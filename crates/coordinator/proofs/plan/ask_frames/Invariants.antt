use Rattle.std.proofs.Common.{◌≡◌, ◌+◌, ◌++◌, map, drop, length}
use Rattle.voting_config.specs.Ids.{Id}
use Rattle.wire_frames.specs.declared.frame.Frame.{Frame}
use Rattle.wire_frames.specs.declared.frame.WireMessage.TheVariants as message
use Rattle.coordinator.specs.Plans.{frame_to}
use Rattle.coordinator.proofs.plan.ask_frames.Given as goal

abbrev pub invariant-loop-to : goal.invariant-loop-to
invariant-loop-to l =
    let f : Id → Frame = λ (to : Id). frame_to l.me (message.PeersAsk l.known) to in
    (l.frames.list ++ map f (drop l.to-index l.peers) ≡ map f l.known) × (l.frames.room + l.to-index ≡ length l.peers)
