use Rattle.line_laws.proofs.Skips.{echo_read}
use Rattle.line_laws.proofs.laws.law_echo.Goals as goal

pub returns : goal.returns
returns c = echo_read
