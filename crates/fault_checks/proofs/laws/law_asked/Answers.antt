use Rattle.fault_checks.proofs.Happened.{asked}
use Rattle.fault_checks.proofs.laws.law_asked.Goals as goal

pub returns : goal.returns
returns c calls now id = asked calls now id
