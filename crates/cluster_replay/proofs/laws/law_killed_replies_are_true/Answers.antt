use Rattle.cluster_replay.proofs.SystemReplies.{killed_replies_are_true}
use Rattle.cluster_replay.proofs.laws.law_killed_replies_are_true.Goals as goal

pub returns : goal.returns
returns c = killed_replies_are_true
