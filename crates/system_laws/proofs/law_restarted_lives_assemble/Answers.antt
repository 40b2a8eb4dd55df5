use Rattle.system_laws.proofs.Assembly.{lives_assemble_from}
use Rattle.system_laws.proofs.law_restarted_lives_assemble.Goals as goal

pub returns : goal.returns
returns c = lives_assemble_from
