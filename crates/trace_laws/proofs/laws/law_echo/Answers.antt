use Rattle.trace_laws.proofs.Echoes.{echo_read}
use Rattle.trace_laws.proofs.laws.law_echo.Goals as goal

pub returns : goal.returns
returns c = echo_read
