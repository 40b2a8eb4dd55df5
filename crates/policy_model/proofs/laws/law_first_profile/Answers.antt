use Rattle.policy_model.proofs.FirstProfile.{first_profile}
use Rattle.policy_model.proofs.laws.law_first_profile.Goals as goal

pub returns : goal.returns
returns c = first_profile
