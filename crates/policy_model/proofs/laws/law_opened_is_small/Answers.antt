use Rattle.policy_model.proofs.Frames.{opened_small}
use Rattle.policy_model.proofs.laws.law_opened_is_small.Goals as goal

pub returns : goal.returns
returns c s found few = opened_small s found few
