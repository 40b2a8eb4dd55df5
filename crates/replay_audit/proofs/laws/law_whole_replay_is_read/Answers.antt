use Rattle.replay_audit.proofs.Whole.{whole_read}
use Rattle.replay_audit.proofs.laws.law_whole_replay_is_read.Goals as goal

pub returns : goal.returns
returns c = whole_read
