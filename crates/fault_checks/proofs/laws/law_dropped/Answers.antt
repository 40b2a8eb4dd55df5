use Rattle.fault_checks.proofs.Happened.{dropped}
use Rattle.fault_checks.proofs.laws.law_dropped.Goals as goal

pub returns : goal.returns
returns c calls now id = dropped calls now id
