use Rattle.std.proofs.Common.{drop}
use Rattle.wire_frames.proofs.Carrying.{nothing_next, fault_next, frame_next}
use Rattle.wire_frames.proofs.buffer.Buffer.advance.Goals as goal

pub returns-in-None : goal.returns-in-None
returns-in-None c =
    let old = c.args.self.now in
    nothing_next (drop old.given old.bytes.items) c.as_slice.result.now c.advance.new.self.items c.advance.ensures.items c.as_slice.ensures c.in-None.ensures

pub returns-in-Some-Err : goal.returns-in-Some-Err
returns-in-Some-Err c =
    let old = c.args.self.now in
    fault_next (drop old.given old.bytes.items) c.as_slice.result.now c.advance.new.self.items c.advance.ensures.items c.as_slice.ensures c.in-Some-Err.fault (rw c.in-Some-Err.field-0-is at c.in-Some-Err.ensures)

pub returns-in-Some-Ok : goal.returns-in-Some-Ok
returns-in-Some-Ok c =
    let old = c.args.self.now in
    frame_next _ (drop old.given old.bytes.items) c.as_slice.result.now c.advance.ensures.items c.as_slice.ensures (rw c.in-Some-Ok.field-0-is at c.in-Some-Ok.ensures)
