use Rattle.cluster_replay.proofs.Lasting.{system_settings_last}
use Rattle.cluster_replay.proofs.laws.law_system_settings_last.Goals as goal

pub returns : goal.returns
returns c = system_settings_last
