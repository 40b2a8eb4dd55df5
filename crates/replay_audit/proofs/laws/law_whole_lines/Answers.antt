use Rattle.replay_audit.proofs.Summary.{whole_shown_lines}
use Rattle.replay_audit.proofs.laws.law_whole_lines.Goals as goal

pub returns : goal.returns
returns c = whole_shown_lines
