use Rattle.client_guarantees.proofs.InTime.{legal_follow_time}
use Rattle.client_guarantees.proofs.law_answers_follow_time.Goals as goal

pub returns : goal.returns
returns c = legal_follow_time
