use Rattle.policy_model.proofs.Frames.{sends_few}
use Rattle.policy_model.proofs.laws.law_sends_few.Goals as goal

pub returns : goal.returns
returns c s v event f h = sends_few s v event f h
