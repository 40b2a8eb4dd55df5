use Rattle.client_guarantees.proofs.InTime.{restarted_follow_time}
use Rattle.client_guarantees.proofs.law_restarted_answers_follow_time.Goals as goal

pub returns : goal.returns
returns c = restarted_follow_time
