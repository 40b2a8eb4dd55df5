use Rattle.replay_audit.proofs.Summary.{whole_summary}
use Rattle.replay_audit.proofs.laws.law_whole_summary.Goals as goal

pub returns : goal.returns
returns c = whole_summary
