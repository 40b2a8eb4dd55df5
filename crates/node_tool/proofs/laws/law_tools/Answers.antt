use Rattle.node_tool.proofs.Alone.{goes_on}
use Rattle.node_tool.proofs.laws.law_tools.Goals as goal

pub returns : goal.returns
returns c = goes_on
