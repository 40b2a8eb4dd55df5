use Rattle.replay_audit.proofs.Summary.{summary}
use Rattle.replay_audit.proofs.laws.law_summary.Goals as goal

pub returns : goal.returns
returns c = summary
