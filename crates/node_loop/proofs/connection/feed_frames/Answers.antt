use Rattle.node_loop.specs.declared.connection.Connection.TheVariants.{Fresh}
use Rattle.node_loop.proofs.Feeding.{fed_frames}
use Rattle.node_loop.proofs.connection.feed_frames.Goals as goal

pub returns : goal.returns
returns c = fed_frames c.args.reader c.push.new.self c.args.bytes.now Fresh c.in_ok-push.ensures.ok
