use Rattle.schedule_replay.proofs.TraceLaws.{shows}
use Rattle.schedule_replay.proofs.laws.law_trace_shows.Goals as goal

pub returns : goal.returns
returns c = shows
