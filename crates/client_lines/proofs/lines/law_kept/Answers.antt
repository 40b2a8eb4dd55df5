use Rattle.client_lines.proofs.Kept.{keeps_enough}
use Rattle.client_lines.proofs.lines.law_kept.Goals as goal

pub returns : goal.returns
returns c = keeps_enough
