use Rattle.wire_frames.proofs.Carrying.{added_behind}
use Rattle.wire_frames.proofs.buffer.Buffer.push.Goals as goal

pub returns-clause-ok : goal.returns-clause-ok
returns-clause-ok c =
    let old = c.args.self.now in
    added_behind c.extend_from_slice.result old.bytes.items c.extend_from_slice.new.self.items c.args.bytes.now old.given old.fits c.extend_from_slice.ensures.ok
