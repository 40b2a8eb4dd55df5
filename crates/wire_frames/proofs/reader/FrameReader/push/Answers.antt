use Rattle.wire_frames.proofs.Carrying.{pushed_on}
use Rattle.wire_frames.proofs.reader.FrameReader.push.Goals as goal

pub returns-clause-carried : goal.returns-clause-carried
returns-clause-carried c = pushed_on c.add.result c.args.self.now c.add.new.self c.args.bytes.now c.add.ensures.ok
