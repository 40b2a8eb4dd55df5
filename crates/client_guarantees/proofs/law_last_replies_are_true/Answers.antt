use Rattle.client_guarantees.proofs.Laws.{last_replies_are_true}
use Rattle.client_guarantees.proofs.law_last_replies_are_true.Goals as goal

pub returns : goal.returns
returns c = last_replies_are_true
