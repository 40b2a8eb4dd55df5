use Rattle.std.proofs.Common.{refl}
use Rattle.wire_frames.proofs.Carrying.{lent_next, carried_next}
use Rattle.wire_frames.proofs.reader.FrameReader.next.Goals as goal

pub returns-in-Some-Ok : goal.returns-in-Some-Ok
returns-in-Some-Ok c =
    let left = c.args.self.now in
    let lent = lent_next c.advance.new.self _ left c.current.result (rw c.in-Some-Ok.field-0-is at c.in-Some-Ok.ensures) c.self.view_is c.current.ensures in
    ((refl, (λ v. tt), lent.1), record { given = lent.0; after = tt; carried = λ came given h. carried_next came given left h })
