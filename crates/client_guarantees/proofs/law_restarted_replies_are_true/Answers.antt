use Rattle.client_guarantees.proofs.Laws.{restarted_replies_are_true}
use Rattle.client_guarantees.proofs.law_restarted_replies_are_true.Goals as goal

pub returns : goal.returns
returns c = restarted_replies_are_true
