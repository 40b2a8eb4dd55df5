use Rattle.client_guarantees.proofs.InTime.{restarted_in_time}
use Rattle.client_guarantees.proofs.law_restarted_answers_are_published_after_they_came.Goals as goal

pub returns : goal.returns
returns c = restarted_in_time
