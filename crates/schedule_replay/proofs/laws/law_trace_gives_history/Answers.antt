use Rattle.schedule_replay.proofs.TraceLaws.{tells}
use Rattle.schedule_replay.proofs.laws.law_trace_gives_history.Goals as goal

pub returns : goal.returns
returns c = tells
