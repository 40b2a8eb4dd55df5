use Rattle.std.proofs.Common.{◌≡◌, subst}
use Rattle.wire_frames.specs.Messages.{IsFitMessage}
use Rattle.wire_frames.specs.Frames.{frame_of}
use Rattle.wire_frames.specs.Views.{shown}
use Rattle.wire_frames.proofs.Viewing.{ok_shown}
use Rattle.wire_frames.proofs.lent.FrameView.frame.Goals as goal

pub returns-clause-fit : goal.returns-clause-fit
returns-clause-fit c =
    let v = c.args.self.now in
    let known = c.parts-parts.ensures.message in
    let read = c.message_of.ensures.message in
    let held = c.in_ok-message.ensures in
    let same : (shown v).message ≡ c.in_ok-message.message = cc in
    subst IsFitMessage same (c.fits.ensures (shown v) (ok_shown (frame_of v.body.now) v.checked))
