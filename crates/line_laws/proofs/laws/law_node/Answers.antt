use Rattle.line_laws.proofs.Skips.{node_read}
use Rattle.line_laws.proofs.laws.law_node.Goals as goal

pub returns : goal.returns
returns c = node_read
