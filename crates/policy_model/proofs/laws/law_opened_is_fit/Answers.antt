use Rattle.policy_model.proofs.Fits.{opened_fit}
use Rattle.policy_model.proofs.laws.law_opened_is_fit.Goals as goal

pub returns : goal.returns
returns c s found f = opened_fit s found f
