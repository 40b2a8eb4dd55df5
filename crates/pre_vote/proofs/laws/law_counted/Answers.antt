use Rattle.pre_vote.proofs.Counted.{counted}
use Rattle.pre_vote.proofs.laws.law_counted.Goals as goal

pub returns : goal.returns
returns c calls source = counted calls source
