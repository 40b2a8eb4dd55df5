use Rattle.cluster_replay.proofs.SystemReplies.{restarted_killed_replies_are_true}
use Rattle.cluster_replay.proofs.laws.law_restarted_killed_replies_are_true.Goals as goal

pub returns : goal.returns
returns c = restarted_killed_replies_are_true
