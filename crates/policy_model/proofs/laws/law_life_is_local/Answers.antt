use Rattle.policy_model.proofs.Locals.{life_local}
use Rattle.policy_model.proofs.laws.law_life_is_local.Goals as goal

pub returns : goal.returns
returns c s life f = life_local s life f
