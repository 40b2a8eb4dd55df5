use Rattle.system_laws.proofs.Assembly.{restarted_is_safe}
use Rattle.system_laws.proofs.law_restarted_system_is_safe.Goals as goal

pub returns : goal.returns
returns c = restarted_is_safe
