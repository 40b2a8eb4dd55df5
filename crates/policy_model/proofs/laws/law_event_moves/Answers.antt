use Rattle.policy_model.proofs.Standing.{event_moves}
use Rattle.policy_model.proofs.laws.law_event_moves.Goals as goal

pub returns : goal.returns
returns c s life event = event_moves s life event
