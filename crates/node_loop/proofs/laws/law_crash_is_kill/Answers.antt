use Rattle.node_loop.proofs.Killing.{crash_is_kill}
use Rattle.node_loop.proofs.laws.law_crash_is_kill.Goals as goal

pub returns : goal.returns
returns c = crash_is_kill
