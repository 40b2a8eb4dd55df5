use Rattle.schedule_replay.proofs.TraceLaws.{agrees}
use Rattle.schedule_replay.proofs.laws.law_trace_agrees.Goals as goal

pub returns : goal.returns
returns c = agrees
