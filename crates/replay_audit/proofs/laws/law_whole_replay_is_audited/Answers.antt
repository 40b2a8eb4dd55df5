use Rattle.replay_audit.proofs.Whole.{whole_audited}
use Rattle.replay_audit.proofs.laws.law_whole_replay_is_audited.Goals as goal

pub returns : goal.returns
returns c = whole_audited
