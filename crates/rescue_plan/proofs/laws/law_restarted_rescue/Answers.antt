use Rattle.rescue_plan.proofs.Views.{restarted_rescues}
use Rattle.rescue_plan.proofs.laws.law_restarted_rescue.Goals as goal

pub returns : goal.returns
returns c = restarted_rescues
