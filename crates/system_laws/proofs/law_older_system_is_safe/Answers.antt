use Rattle.system_laws.proofs.Older.{older_is_safe}
use Rattle.system_laws.proofs.law_older_system_is_safe.Goals as goal

pub returns : goal.returns
returns c = older_is_safe
