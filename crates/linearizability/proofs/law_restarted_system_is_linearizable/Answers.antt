use Rattle.linearizability.proofs.Told.{restarted_system_is_linearizable}
use Rattle.linearizability.proofs.law_restarted_system_is_linearizable.Goals as goal

pub returns : goal.returns
returns c = restarted_system_is_linearizable
