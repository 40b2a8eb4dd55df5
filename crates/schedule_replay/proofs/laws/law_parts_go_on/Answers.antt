use Rattle.schedule_replay.proofs.TraceLaws.{goes_on}
use Rattle.schedule_replay.proofs.laws.law_parts_go_on.Goals as goal

pub returns : goal.returns
returns c = goes_on
