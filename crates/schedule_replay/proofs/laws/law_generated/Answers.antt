use Rattle.schedule_replay.proofs.Sending.{generated_spelled}
use Rattle.schedule_replay.proofs.laws.law_generated.Goals as goal

pub returns : goal.returns
returns c = generated_spelled
