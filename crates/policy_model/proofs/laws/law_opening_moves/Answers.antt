use Rattle.policy_model.proofs.Standing.{opening_moves}
use Rattle.policy_model.proofs.laws.law_opening_moves.Goals as goal

pub returns : goal.returns
returns c s life found h = opening_moves s life found h
