use Rattle.policy_model.proofs.Shortness.{event_short}
use Rattle.policy_model.proofs.laws.law_event_is_short.Goals as goal

pub returns : goal.returns
returns c s v event = event_short s v event
