use Rattle.replay_audit.proofs.Core.{replay_audited}
use Rattle.replay_audit.proofs.laws.law_replay_is_audited.Goals as goal

pub returns : goal.returns
returns c = replay_audited
