use Rattle.policy_model.proofs.Shortness.{struck_short}
use Rattle.policy_model.proofs.laws.law_struck_is_short.Goals as goal

pub returns : goal.returns
returns c s v event left q = struck_short s v event left q
