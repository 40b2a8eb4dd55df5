use Rattle.policy_model.proofs.Fits.{stays_fit}
use Rattle.policy_model.proofs.laws.law_stays_fit.Goals as goal

pub returns : goal.returns
returns c s v event f e h = stays_fit s v event f e h
