use Rattle.linearizability.proofs.Told.{system_is_linearizable}
use Rattle.linearizability.proofs.law_system_is_linearizable.Goals as goal

pub returns : goal.returns
returns c = system_is_linearizable
