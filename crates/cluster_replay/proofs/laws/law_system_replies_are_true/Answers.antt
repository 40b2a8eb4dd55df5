use Rattle.cluster_replay.proofs.SystemReplies.{system_replies_are_true}
use Rattle.cluster_replay.proofs.laws.law_system_replies_are_true.Goals as goal

pub returns : goal.returns
returns c = system_replies_are_true
