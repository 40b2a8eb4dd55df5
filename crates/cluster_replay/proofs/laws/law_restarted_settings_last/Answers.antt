use Rattle.cluster_replay.proofs.Lasting.{restarted_settings_last}
use Rattle.cluster_replay.proofs.laws.law_restarted_settings_last.Goals as goal

pub returns : goal.returns
returns c = restarted_settings_last
