use Rattle.std.proofs.Common.{arith}
use Rattle.wire_frames.proofs.FrameLaws.{frame_fits}
use Rattle.wire_frames.proofs.view.fits.Goals as goal

pub returns : goal.returns
returns c = λ f e. frame_fits c.args.body.now f (λ i. omega (arith, c.type_inv.body i)) e
