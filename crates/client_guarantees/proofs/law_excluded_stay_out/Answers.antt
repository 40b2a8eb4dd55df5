use Rattle.client_guarantees.proofs.StayingOut.{excluded_stay_out}
use Rattle.client_guarantees.proofs.law_excluded_stay_out.Goals as goal

pub returns : goal.returns
returns c = excluded_stay_out
