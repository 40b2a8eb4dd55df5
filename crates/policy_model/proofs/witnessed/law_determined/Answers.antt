use Rattle.policy_model.proofs.Determined.{determined}
use Rattle.policy_model.proofs.witnessed.law_determined.Goals as goal

pub returns : goal.returns
returns c s life other f g same = determined s life other f g same
