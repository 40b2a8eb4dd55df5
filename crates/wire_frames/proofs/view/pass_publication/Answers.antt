use Rattle.std.proofs.Common.{refl}
use Rattle.wire_frames.specs.declared.frame.WireMessage.TheVariants as message
use Rattle.wire_frames.proofs.view.pass_publication.Goals as goal

pub returns : goal.returns
returns c = let s = c.in_ok-pass_state.ensures in (message.Publish s.0, rw s.1 refl)
