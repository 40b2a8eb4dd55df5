use Rattle.state_journal.proofs.Digests.{digests}
use Rattle.state_journal.proofs.laws.law_digests.Goals as goal

pub returns : goal.returns
returns c = digests
