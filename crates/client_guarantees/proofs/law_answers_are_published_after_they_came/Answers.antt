use Rattle.client_guarantees.proofs.InTime.{legal_in_time}
use Rattle.client_guarantees.proofs.law_answers_are_published_after_they_came.Goals as goal

pub returns : goal.returns
returns c = legal_in_time
