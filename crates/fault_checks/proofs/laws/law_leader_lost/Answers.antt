use Rattle.fault_checks.proofs.Happened.{lost}
use Rattle.fault_checks.proofs.laws.law_leader_lost.Goals as goal

pub returns : goal.returns
returns c calls now = lost calls now
