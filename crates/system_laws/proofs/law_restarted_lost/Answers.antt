use Rattle.system_laws.proofs.Assembly.{restarted_lost}
use Rattle.system_laws.proofs.law_restarted_lost.Goals as goal

pub returns : goal.returns
returns c = restarted_lost
