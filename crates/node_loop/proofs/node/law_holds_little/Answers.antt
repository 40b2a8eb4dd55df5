use Rattle.node_loop.proofs.Holding.{holds_little}
use Rattle.node_loop.proofs.node.law_holds_little.Goals as goal

pub returns : goal.returns
returns c = holds_little
