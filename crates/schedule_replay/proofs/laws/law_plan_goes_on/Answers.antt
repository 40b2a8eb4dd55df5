use Rattle.schedule_replay.proofs.GoesOn.{goes_on}
use Rattle.schedule_replay.proofs.laws.law_plan_goes_on.Goals as goal

pub returns : goal.returns
returns c = goes_on
