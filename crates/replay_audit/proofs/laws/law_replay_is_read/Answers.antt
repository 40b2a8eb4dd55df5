use Rattle.replay_audit.proofs.Core.{replay_read}
use Rattle.replay_audit.proofs.laws.law_replay_is_read.Goals as goal

pub returns : goal.returns
returns c = replay_read
