use Rattle.policy_model.proofs.Spending.{answers_few}
use Rattle.policy_model.proofs.laws.law_answers_few.Goals as goal

pub returns : goal.returns
returns c s v event h = answers_few s v event h
