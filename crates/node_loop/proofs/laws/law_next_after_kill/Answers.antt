use Rattle.node_loop.proofs.NextRuns.{next_after_kill}
use Rattle.node_loop.proofs.laws.law_next_after_kill.Goals as goal

pub returns : goal.returns
returns c = next_after_kill
