use Rattle.std.proofs.Common.{refl}
use Rattle.wire_frames.specs.Views.{shown}
use Rattle.wire_frames.proofs.Viewing.{parts_known, never_untold}
use Rattle.wire_frames.proofs.lent.FrameView.parts.Goals as goal

pub unreachable-requires : goal.unreachable-requires
unreachable-requires c = never_untold c.parts_of.result _ c.in-None.is c.args.self.now.checked c.parts_of.ensures

pub returns : goal.returns
returns c = parts_known c.in-Some.parts (shown c.args.self.now) _ c.args.self.now.checked refl c.in-Some.ensures
