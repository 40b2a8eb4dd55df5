use Rattle.client_guarantees.proofs.Laws.{replies_are_true}
use Rattle.client_guarantees.proofs.law_replies_are_true.Goals as goal

pub returns : goal.returns
returns c = replies_are_true
