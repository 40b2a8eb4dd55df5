use Rattle.std.proofs.Common.{◌∙◌, arith}
use Rattle.wire_frames.specs.Frames.{frame_of, SpellsBody, IsFitFrame}
use Rattle.wire_frames.proofs.FrameLaws.{frame_takes, frame_fits, frame_again}
use Rattle.wire_frames.proofs.Viewing.{if_read}
use Rattle.wire_frames.proofs.lent.FrameView.of.Goals as goal

pub returns-clause-found : goal.returns-clause-found
returns-clause-found c =
    let body = c.args.body.now in
    if_read c.checked.result (frame_of body) (λ f. SpellsBody f body) c.checked.ensures (λ f e. frame_takes body f (λ i. omega (arith, c.type_inv.body i)) e)

pub returns-clause-fit : goal.returns-clause-fit
returns-clause-fit c =
    let body = c.args.body.now in
    if_read c.checked.result (frame_of body) IsFitFrame c.checked.ensures (λ f e. frame_fits body f (λ i. omega (arith, c.type_inv.body i)) e)

pub returns-clause-only : goal.returns-clause-only
returns-clause-only c = λ f spelled. c.checked.ensures ∙ frame_again c.args.body.now f spelled
