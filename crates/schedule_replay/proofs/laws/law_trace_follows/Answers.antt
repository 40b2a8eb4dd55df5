use Rattle.schedule_replay.proofs.TraceLaws.{follows}
use Rattle.schedule_replay.proofs.laws.law_trace_follows.Goals as goal

pub returns : goal.returns
returns c = follows
