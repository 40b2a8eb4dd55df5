use Rattle.node_loop.proofs.NextRuns.{next_after_end}
use Rattle.node_loop.proofs.laws.law_next_after_end.Goals as goal

pub returns : goal.returns
returns c = next_after_end
