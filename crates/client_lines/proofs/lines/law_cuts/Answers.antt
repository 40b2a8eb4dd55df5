use Rattle.client_lines.proofs.Cuts.{cuts_anywhere}
use Rattle.client_lines.proofs.lines.law_cuts.Goals as goal

pub returns : goal.returns
returns c = cuts_anywhere
