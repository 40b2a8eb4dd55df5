use Rattle.node_loop.proofs.Killing.{end_is_kept}
use Rattle.node_loop.proofs.laws.law_end_is_kept.Goals as goal

pub returns : goal.returns
returns c = end_is_kept
