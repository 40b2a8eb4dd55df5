use Rattle.replay_audit.proofs.Summary.{shown_lines}
use Rattle.replay_audit.proofs.laws.law_lines.Goals as goal

pub returns : goal.returns
returns c = shown_lines
