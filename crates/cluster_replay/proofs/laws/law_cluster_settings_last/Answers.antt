use Rattle.cluster_replay.proofs.Lasting.{cluster_settings_last}
use Rattle.cluster_replay.proofs.laws.law_cluster_settings_last.Goals as goal

pub returns : goal.returns
returns c = cluster_settings_last
